-- What is left gives the whole.
use Rattle.std.proofs.Common.{◌≡◌, ◌++◌, drop}
use Rattle.std.specs.List.{filter_map}
use Rattle.wp_ground.specs.Numbering.{number_in}
use Rattle.wp_ground.specs.Acts.{changed_atoms}
use Rattle.wp_ground.proofs.acts.put_changes.Given as goal

abbrev pub invariant-loop-effect : goal.invariant-loop-effect
invariant-loop-effect l =
    l.scratch.numbers.items ++ filter_map (number_in l.atoms) (changed_atoms l.add l.args (drop l.effect-index l.effects))
    ≡ filter_map (number_in l.atoms) (changed_atoms l.add l.args l.effects)
