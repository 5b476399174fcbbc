use Rattle.std.proofs.Common.{◌++◌, List, ℕ, ◌∙◌, ap}
use Rattle.wp_report.specs.Tasks.{atom_line}
use Rattle.wp_report.proofs.LineLemmas.{lines_more}
use Rattle.wp_report.proofs.tasks.put_atoms.Goals as goal

pub loop-p-preserved : goal.loop-p-preserved
loop-p-preserved c =
    c.in_ok-put_atom_line.ensures
    ∙ ap (λ (out : List ℕ). out ++ atom_line c.args.names.now c.loop-p.p) c.loop-p.invariant
    ∙ lines_more (atom_line c.args.names.now) c.args.out.now.items c.loop-p.p
