use Rattle.std.proofs.Common.{ap, ◌∙◌}
use Rattle.wp_task.specs.Set.{atoms_in}
use Rattle.wp_task.proofs.RangeLemmas.{atoms_in-set_of}
use Rattle.wp_task.proofs.many.set_of_many.Goals as goal

pub returns : goal.returns
returns c =
    ap atoms_in (c.in_ok-set.ensures.ok ∙ c.in_ok-state.ensures)
    ∙ atoms_in-set_of c.args.size c.args.atoms.now c.requires
