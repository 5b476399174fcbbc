use Rattle.wp_ahead.proofs.FitLemmas.{fits_added}
use Rattle.wp_ahead.proofs.broods.Broods.keep.Goals as goal

pub returns-clause-fits : goal.returns-clause-fits
returns-clause-fits c = rw (← c.self.view_is) (λ task nodes fit for.
    fits_added task nodes c.args.jobs c.into_vec.result.items c.self.inside.kept.entries c.keep_all.new.kept.entries c.keep_all.result c.into_vec.ensures
    c.keep_all.ensures.kept c.keep_all.ensures.refused fit for)
