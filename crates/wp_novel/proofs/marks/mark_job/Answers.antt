use Rattle.std.proofs.Common.{List, sym, ap, ◌∙◌, subst}
use Rattle.std.specs.List.{All}
use Rattle.wp_novel.specs.Births.{BirthView}
use Rattle.wp_novel.specs.Jobs.{JobView}
use Rattle.wp_novel.specs.Dealing.{CanBeMarkedIn}
use Rattle.wp_novel.proofs.marks.mark_job.Goals as goal

pub mark_passes-requires-clause-births : goal.mark_passes-requires-clause-births
mark_passes-requires-clause-births c =
    subst (λ (l : List BirthView). All (CanBeMarkedIn c.args.homes.now.entries) l) (sym (c.deref.ensures.value ∙ ap (λ (j : JobView). j.births) c.job.view_is)) c.requires.births
