use Rattle.std.proofs.Common.{false, sym, subst}
use Rattle.wp_novel.specs.NoveltyTables.{NoveltyTables, TablesOver, placed}
use Rattle.wp_novel.specs.Jobs.{IsJobOf}
use Rattle.wp_novel.proofs.TableLemmas.{with_homes}
use Rattle.wp_novel.proofs.WorkLemmas.{can_mark_job, can_be_marked}
use Rattle.wp_novel.proofs.tables.Tables.work.Goals as goal

pub mark_job-requires-clause-passes : goal.mark_job-requires-clause-passes
mark_job-requires-clause-passes g c =
    let x = c.self.inside in
    let t : NoveltyTables = with_homes (g.P.Places.places x.index) x.limit x.last x.out.items x.homes.entries in
    can_mark_job t c.args.job.now (subst (λ (t : TablesOver g.row.P.Denot). IsJobOf (placed g.P.Places.places t) false c.args.job.now) (sym c.self.view_is) c.requires)

pub mark_job-requires-clause-births : goal.mark_job-requires-clause-births
mark_job-requires-clause-births g c =
    let x = c.self.inside in
    let t : NoveltyTables = with_homes (g.P.Places.places x.index) x.limit x.last x.out.items x.homes.entries in
    can_be_marked t c.args.job.now c.self.invariant.0 (subst (λ (t : TablesOver g.row.P.Denot). IsJobOf (placed g.P.Places.places t) false c.args.job.now) (sym c.self.view_is) c.requires)
