-- Worked rows of the definitions, each computed.
use Rattle.std.specs.Prelude.{◌≡◌, ◌^◌, List, [], ◌∷◌, map, Some, None, refl}
use Rattle.wp_task.specs.declared.acts.Act.{Act}
use Rattle.wp_task.specs.Set.{set_of}
use Rattle.wp_task.specs.Task.{leads_to}
use Rattle.wp_relax.specs.AdditiveCost.{costs_of, pricing_of}
use Rattle.wp_relax.specs.RelaxedPlan.{relaxed_plan_of, relaxed_atoms_of}
use Rattle.wp_relax.specs.Laws.{without_deletes}

-- a chain: a gives b, b gives c and takes a away
abbrev chain : List Act
chain = record { pre = 0 ∷ []; add = 1 ∷ []; del = [] } ∷ record { pre = 1 ∷ []; add = 2 ∷ []; del = 0 ∷ [] } ∷ []

chain_costs : costs_of chain (set_of (0 ∷ []) 3) ≡ 0 ∷ 1 ∷ 2 ∷ []
chain_costs = refl

chain_supporters : (pricing_of chain (set_of (0 ∷ []) 3)).supporters ≡ None ∷ Some 0 ∷ Some 1 ∷ []
chain_supporters = refl

chain_plan : relaxed_plan_of chain (2 ∷ []) (set_of (0 ∷ []) 3) ≡ Some (0 ∷ 1 ∷ [])
chain_plan = refl

chain_atoms : relaxed_atoms_of chain (2 ∷ []) (set_of (0 ∷ []) 3) ≡ 1 ∷ 2 ∷ []
chain_atoms = refl

-- without a nothing is reached, so there is no plan
chain_no_plan : relaxed_plan_of chain (2 ∷ []) (set_of [] 3) ≡ None
chain_no_plan = refl

chain_no_atoms : relaxed_atoms_of chain (2 ∷ []) (set_of [] 3) ≡ []
chain_no_atoms = refl

chain_infinite : costs_of chain (set_of [] 3) ≡ 2 ^ 60 ∷ 2 ^ 60 ∷ 2 ^ 60 ∷ []
chain_infinite = refl

-- a trap: the cheap way to z is over t (atoms s t z m n o)
abbrev trap : List Act
trap =
    record { pre = 0 ∷ []; add = 1 ∷ []; del = 0 ∷ [] }
    ∷ record { pre = 0 ∷ 1 ∷ []; add = 2 ∷ []; del = [] }
    ∷ record { pre = []; add = 3 ∷ []; del = [] }
    ∷ record { pre = []; add = 4 ∷ []; del = [] }
    ∷ record { pre = []; add = 5 ∷ []; del = [] }
    ∷ record { pre = 3 ∷ 4 ∷ 5 ∷ []; add = 2 ∷ []; del = [] }
    ∷ []

trap_costs : costs_of trap (set_of (0 ∷ []) 6) ≡ 0 ∷ 1 ∷ 2 ∷ 1 ∷ 1 ∷ 1 ∷ []
trap_costs = refl

trap_atoms : relaxed_atoms_of trap (2 ∷ []) (set_of (0 ∷ []) 6) ≡ 1 ∷ 2 ∷ []
trap_atoms = refl

-- the cheap way is a relaxed plan alone: its first action takes s away, which the second needs
trap_plan : relaxed_plan_of trap (2 ∷ []) (set_of (0 ∷ []) 6) ≡ Some (0 ∷ 1 ∷ [])
trap_plan = refl

trap_blocked : leads_to trap (set_of (0 ∷ []) 6) (0 ∷ 1 ∷ []) ≡ None
trap_blocked = refl

trap_reached : leads_to (map without_deletes trap) (set_of (0 ∷ []) 6) (0 ∷ 1 ∷ []) ≡ Some (set_of (0 ∷ 1 ∷ 2 ∷ []) 6)
trap_reached = refl

-- once s is spent the long way alone is left
trap_spent : relaxed_plan_of trap (2 ∷ []) (set_of (1 ∷ []) 6) ≡ Some (2 ∷ 3 ∷ 4 ∷ 5 ∷ [])
trap_spent = refl

-- a lower number that costs more comes later
abbrev crossed : List Act
crossed = record { pre = 1 ∷ []; add = 2 ∷ []; del = [] } ∷ record { pre = 0 ∷ []; add = 1 ∷ []; del = [] } ∷ []

crossed_plan : relaxed_plan_of crossed (2 ∷ []) (set_of (0 ∷ []) 3) ≡ Some (1 ∷ 0 ∷ [])
crossed_plan = refl
