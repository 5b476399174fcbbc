-- Worked rows of the counters, each computed.
use Rattle.std.specs.Prelude.{◌≡◌, [], ◌∷◌, Some, None, refl}
use Rattle.wp_task.specs.Set.{set_of}
use Rattle.wp_task.specs.Task.{PlanningTask}
use Rattle.wp_task.specs.declared.track.Mark.{Mark}
use Rattle.wp_count.specs.Counters.{relaxed_counter}
use Rattle.wp_count.specs.Broods.{children_of, root_mark}

-- a chain: a gives b, b gives c and takes a away
abbrev chain : PlanningTask
chain = record {
  atoms = 3;
  init = set_of (0 ∷ []) 3;
  goals = 2 ∷ [];
  acts = record { pre = 0 ∷ []; add = 1 ∷ []; del = [] } ∷ record { pre = 1 ∷ []; add = 2 ∷ []; del = 0 ∷ [] } ∷ [];
}

chain_root : relaxed_counter chain (set_of (0 ∷ []) 3 ∷ []) ≡ 0
chain_root = refl

-- b is one of the two atoms that the relaxed plan at the root adds
chain_middle : relaxed_counter chain (set_of (0 ∷ 1 ∷ []) 3 ∷ set_of (0 ∷ []) 3 ∷ []) ≡ 1
chain_middle = refl

-- #g falls at the end, so #r starts anew
chain_end : relaxed_counter chain (set_of (1 ∷ 2 ∷ []) 3 ∷ set_of (0 ∷ 1 ∷ []) 3 ∷ set_of (0 ∷ []) 3 ∷ []) ≡ 0
chain_end = refl

-- a trap: the short way to z spends s, and the long one needs m, n and o (atoms s t z m n o)
abbrev trap : PlanningTask
trap = record {
  atoms = 6;
  init = set_of (0 ∷ []) 6;
  goals = 2 ∷ [];
  acts =
      record { pre = 0 ∷ []; add = 1 ∷ []; del = 0 ∷ [] }
      ∷ record { pre = 0 ∷ 1 ∷ []; add = 2 ∷ []; del = [] }
      ∷ record { pre = []; add = 3 ∷ []; del = [] }
      ∷ record { pre = []; add = 4 ∷ []; del = [] }
      ∷ record { pre = []; add = 5 ∷ []; del = [] }
      ∷ record { pre = 3 ∷ 4 ∷ 5 ∷ []; add = 2 ∷ []; del = [] }
      ∷ [];
}

-- the relaxed plan at the root adds t and z, and t is reached
trap_short : relaxed_counter trap (set_of (1 ∷ []) 6 ∷ set_of (0 ∷ []) 6 ∷ []) ≡ 1
trap_short = refl

-- m, n and o are none of its atoms
trap_long : relaxed_counter trap (set_of (0 ∷ 3 ∷ 4 ∷ []) 6 ∷ set_of (0 ∷ 3 ∷ []) 6 ∷ set_of (0 ∷ []) 6 ∷ []) ≡ 0
trap_long = refl

-- #g rises where the goal 0 is lost for 2, which 1 needs: the base stays, and 2 stays counted when it is lost again
abbrev detour : PlanningTask
detour = record {
  atoms = 4;
  init = set_of (0 ∷ []) 4;
  goals = 0 ∷ 1 ∷ [];
  acts =
      record { pre = []; add = 2 ∷ []; del = 0 ∷ [] }
      ∷ record { pre = 2 ∷ []; add = 1 ∷ []; del = [] }
      ∷ record { pre = 2 ∷ []; add = 3 ∷ []; del = 2 ∷ [] }
      ∷ [];
}

detour_rises : relaxed_counter detour (set_of (2 ∷ []) 4 ∷ set_of (0 ∷ []) 4 ∷ []) ≡ 1
detour_rises = refl

detour_lost : relaxed_counter detour (set_of (3 ∷ []) 4 ∷ set_of (2 ∷ []) 4 ∷ set_of (0 ∷ []) 4 ∷ []) ≡ 1
detour_lost = refl

-- where #g falls below the state before it, though not below the root's, the child is a base too
detour_falls : relaxed_counter detour (set_of (1 ∷ 2 ∷ []) 4 ∷ set_of (2 ∷ []) 4 ∷ set_of (0 ∷ []) 4 ∷ []) ≡ 0
detour_falls = refl

-- the children of the chain's root, and of the node after it
chain_first : children_of chain chain.init (root_mark chain) (1 ∷ 2 ∷ []) ≡ record {
  act = 0;
  state = set_of (0 ∷ 1 ∷ []) 3;
  g = 1;
  r = 1;
  got = set_of (1 ∷ []) 3;
  fresh = None;
} ∷ []
chain_first = refl

abbrev chain_mark : Mark
chain_mark = record { g = 1; r = 1; track = 0; got = set_of (1 ∷ []) 3 }

chain_second : children_of chain (set_of (0 ∷ 1 ∷ []) 3) chain_mark (1 ∷ 2 ∷ []) ≡ record {
  act = 0;
  state = set_of (0 ∷ 1 ∷ []) 3;
  g = 1;
  r = 1;
  got = set_of (1 ∷ []) 3;
  fresh = None;
} ∷ record {
  act = 1;
  state = set_of (1 ∷ 2 ∷ []) 3;
  g = 0;
  r = 0;
  got = set_of [] 3;
  fresh = Some [];
} ∷ []
chain_second = refl
