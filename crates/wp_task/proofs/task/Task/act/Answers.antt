use Rattle.std.proofs.Common.{◌≡◌, ◌<◌, List, length, get_or, sym, ap, ◌∙◌, subst}
use Rattle.wp_task.specs.declared.acts.Act.{Act}
use Rattle.wp_task.specs.Task.{IsAct}
use Rattle.wp_task.proofs.task.Task.act.Goals as goal

pub returns-clause-fits : goal.returns-clause-fits
returns-clause-fits c =
    let acts = c.self.inside.acts in
    let within : c.args.a < length acts = rw (← c.self.view_is) at c.requires in
    let is : c.index-as_slice-a.result ≡ get_or acts c.args.a c.index-as_slice-a.result =
    c.index-as_slice-a.is ∙ ap (λ (l : List Act). get_or l c.args.a c.index-as_slice-a.result) c.as_slice.ensures in
    rw (← c.self.view_is)
    (subst (IsAct c.self.inside.atoms) (sym is) (c.self.invariant.fits.act_atoms c.args.a c.index-as_slice-a.result within))
