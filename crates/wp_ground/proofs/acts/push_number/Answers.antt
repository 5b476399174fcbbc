use Rattle.std.proofs.Common.{◌++◌, [], ◌∙◌, ℕ, List, Option, map, ap}
use Rattle.std.specs.List.{cons_option}
use Rattle.wp_lift.specs.declared.schemas.Slot.{Slot}
use Rattle.wp_lift.specs.Worlds.{object_in}
use Rattle.wp_ground.specs.Flat.{atom_with}
use Rattle.wp_ground.specs.Numbering.{number_in}
use Rattle.wp_ground.proofs.acts.push_number.Goals as goal

pub returns : goal.returns
returns c =
    c.in_ok-push_some.ensures
    ∙ ap (λ (o : Option ℕ). c.args.scratch.now.numbers.items ++ cons_option o [])
    (c.number_of-number.ensures
    ∙ ap (λ (args : List ℕ). number_in c.args.atoms.now (atom_with c.args.atom.now.pred args))
    (c.as_slice-2.ensures.value ∙ c.in_ok-ground_into.ensures ∙ ap (λ (slots : List Slot). map (object_in c.args.args.now) slots) c.as_slice.ensures))
