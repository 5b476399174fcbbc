-- Worked rows of the definitions, each computed.
use Rattle.std.specs.Prelude.{◌≡◌, ℕ, true, false, List, [], ◌∷◌, Some, refl}
use Rattle.wp_task.specs.declared.acts.Act.{Act}
use Rattle.wp_task.specs.Set.{set_of}
use Rattle.wp_task.specs.Task.{PlanningTask, applicable_in, adders_of, goal_counter, leads_to, result_of, is_plan}
use Rattle.wp_task.specs.Novelty.{Generated, sets_of, tuples_in, novelty_of}

-- a chain: a gives b, b gives c and takes a away
abbrev chain : PlanningTask
chain = record {
  atoms = 3;
  init = set_of (0 ∷ []) 3;
  goals = 2 ∷ [];
  acts = record { pre = 0 ∷ []; add = 1 ∷ []; del = [] } ∷ record { pre = 1 ∷ []; add = 2 ∷ []; del = 0 ∷ [] } ∷ [];
}

chain_plan : is_plan chain (0 ∷ 1 ∷ []) ≡ true
chain_plan = refl

chain_out_of_turn : is_plan chain (1 ∷ 0 ∷ []) ≡ false
chain_out_of_turn = refl

chain_goes_on : is_plan chain (0 ∷ 1 ∷ 0 ∷ []) ≡ false
chain_goes_on = refl

chain_nothing : is_plan chain [] ≡ false
chain_nothing = refl

chain_no_such_action : is_plan chain (0 ∷ 1 ∷ 2 ∷ []) ≡ false
chain_no_such_action = refl

chain_end : leads_to chain.acts chain.init (0 ∷ 1 ∷ []) ≡ Some (false ∷ true ∷ true ∷ [])
chain_end = refl

chain_unmet : goal_counter chain.goals chain.init ≡ 1
chain_unmet = refl

-- an action that deletes and adds an atom leaves it true
same : result_of (record { pre = []; add = 0 ∷ 1 ∷ []; del = 0 ∷ [] }) (true ∷ false ∷ []) ≡ true ∷ true ∷ []
same = refl

-- a trap: the short way to z spends s, and the long one needs m, n and o (atoms s t z m n o)
abbrev trap_acts : List Act
trap_acts =
    record { pre = 0 ∷ []; add = 1 ∷ []; del = 0 ∷ [] }
    ∷ record { pre = 0 ∷ 1 ∷ []; add = 2 ∷ []; del = [] }
    ∷ record { pre = []; add = 3 ∷ []; del = [] }
    ∷ record { pre = []; add = 4 ∷ []; del = [] }
    ∷ record { pre = []; add = 5 ∷ []; del = [] }
    ∷ record { pre = 3 ∷ 4 ∷ 5 ∷ []; add = 2 ∷ []; del = [] }
    ∷ []

trap_opening : applicable_in trap_acts (set_of (0 ∷ []) 6) ≡ 0 ∷ 2 ∷ 3 ∷ 4 ∷ []
trap_opening = refl

trap_later : applicable_in trap_acts (set_of (1 ∷ 3 ∷ 4 ∷ 5 ∷ []) 6) ≡ 2 ∷ 3 ∷ 4 ∷ 5 ∷ []
trap_later = refl

trap_adders : adders_of trap_acts 2 ≡ 1 ∷ 5 ∷ []
trap_adders = refl

pairs : sets_of 2 (0 ∷ 3 ∷ 4 ∷ []) ≡ (0 ∷ 3 ∷ []) ∷ (0 ∷ 4 ∷ []) ∷ (3 ∷ 4 ∷ []) ∷ []
pairs = refl

tuples : tuples_in 2 3 ≡ (0 ∷ []) ∷ (1 ∷ []) ∷ (2 ∷ []) ∷ (0 ∷ 1 ∷ []) ∷ (0 ∷ 2 ∷ []) ∷ (1 ∷ 2 ∷ []) ∷ []
tuples = refl

-- the nodes of the chain: each has an atom that is new for its counters
abbrev node : ℕ → ℕ → ℕ → List ℕ → Generated
node number g r atoms = record { number = number; counters = (g, r); state = set_of atoms 6 }

abbrev chain_nodes : List Generated
chain_nodes = node 0 1 0 (0 ∷ []) ∷ node 1 1 1 (0 ∷ 1 ∷ []) ∷ node 2 0 0 (1 ∷ 2 ∷ []) ∷ []

chain_root : novelty_of 1 chain_nodes (node 0 1 0 (0 ∷ [])) ≡ 1
chain_root = refl

chain_last : novelty_of 1 chain_nodes (node 2 0 0 (1 ∷ 2 ∷ [])) ≡ 1
chain_last = refl

-- a root with no true atom has no tuple
empty_root : novelty_of 1 (node 0 2 0 [] ∷ []) (node 0 2 0 []) ≡ 2
empty_root = refl

-- in the trap the state of s, m, n and o has no new pair, and that of s, m and n has no new atom
abbrev trap_nodes : List Generated
trap_nodes =
    node 0 1 0 (0 ∷ []) ∷ node 2 1 0 (0 ∷ 3 ∷ []) ∷ node 3 1 0 (0 ∷ 4 ∷ []) ∷ node 4 1 0 (0 ∷ 5 ∷ [])
    ∷ node 8 1 0 (0 ∷ 3 ∷ 4 ∷ []) ∷ node 9 1 0 (0 ∷ 3 ∷ 5 ∷ []) ∷ node 10 1 0 (0 ∷ 4 ∷ 5 ∷ [])
    ∷ node 14 1 0 (0 ∷ 3 ∷ 4 ∷ 5 ∷ []) ∷ []

trap_no_pair : novelty_of 2 trap_nodes (node 14 1 0 (0 ∷ 3 ∷ 4 ∷ 5 ∷ [])) ≡ 3
trap_no_pair = refl

trap_pair : novelty_of 2 trap_nodes (node 8 1 0 (0 ∷ 3 ∷ 4 ∷ [])) ≡ 2
trap_pair = refl

trap_no_atom : novelty_of 1 trap_nodes (node 8 1 0 (0 ∷ 3 ∷ 4 ∷ [])) ≡ 2
trap_no_atom = refl
