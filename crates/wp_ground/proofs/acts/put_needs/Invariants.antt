-- What is left gives the whole.
use Rattle.std.proofs.Common.{◌≡◌, ◌++◌, drop}
use Rattle.std.specs.List.{filter_map}
use Rattle.wp_ground.specs.Numbering.{number_in}
use Rattle.wp_ground.specs.Tasks.{needs_in}
use Rattle.wp_ground.proofs.acts.put_needs.Given as goal

abbrev pub invariant-loop-cond : goal.invariant-loop-cond
invariant-loop-cond l =
    l.scratch.numbers.items ++ filter_map (number_in l.atoms) (needs_in l.args (drop l.cond-index l.conds))
    ≡ filter_map (number_in l.atoms) (needs_in l.args l.conds)
