-- Worked rows of the definitions, each computed.
use Rattle.std.specs.Prelude.{◌≡◌, ℕ, List, [], ◌∷◌, Option, Some, None, refl}
use Rattle.wp_nodes.specs.declared.kept.Back.{Back}
use Rattle.wp_nodes.specs.declared.kept.Kept.{Kept}
use Rattle.wp_nodes.specs.KeptNodes.{node_of}
use Rattle.wp_nodes.specs.Links.{plan_in}

abbrev node : ℕ → Option Back → Kept
node number back = record { number = number; w = 1; back = back; state = []; mark = record { g = 1; r = 0; track = 0; got = [] } }

abbrev link : ℕ → ℕ → Option Back
link parent act = Some (record { parent = parent; act = act })

-- the root, two children, and a child of the second; number 2 was pruned
abbrev four : List Kept
four = node 0 None ∷ node 1 (link 0 7) ∷ node 3 (link 0 4) ∷ node 5 (link 3 9) ∷ []

the_root_has_the_empty_plan : plan_in four 0 ≡ []
the_root_has_the_empty_plan = refl

a_plan_is_from_the_root_on : plan_in four 5 ≡ 4 ∷ 9 ∷ []
a_plan_is_from_the_root_on = refl

a_child_has_one_action : plan_in four 1 ≡ 7 ∷ []
a_child_has_one_action = refl

a_pruned_number_is_not_kept : node_of four 2 ≡ None
a_pruned_number_is_not_kept = refl

a_kept_number_is_found : node_of four 3 ≡ Some (node 3 (link 0 4))
a_kept_number_is_found = refl
