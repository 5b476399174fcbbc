use Rattle.std.proofs.Common.{rules, ◌≡◌, ◌++◌, true, List, map, sym, ap, ◌∙◌, subst}
use Rattle.std.proofs.lemmas.List.Folds.{flat_map-map}
use Rattle.wp_novel.specs.Births.{BirthView, nodes_of}
use Rattle.wp_novel.specs.NoveltyTables.{placed}
use Rattle.wp_novel.specs.StandsFor.{StandsFor}
use Rattle.wp_novel.specs.Jobs.{JobView, births_of, worked_job, AreOut}
use Rattle.wp_commit.proofs.marking.mark_all.Goals as goal

pub collect-requires : goal.collect-requires
collect-requires g c =
    let jobs = c.in_ok-marks.marks in
    let worked : c.work_all-marks.result.0 ≡ map (worked_job c.deal.new.self.homes) jobs = c.work_all-marks.ensures.marks in
    (search rules, subst (AreOut (placed g.P.Places.places c.deal.new.self) true) (sym worked) (c.worked_jobs_are_out.ensures (placed g.P.Places.places c.deal.new.self) jobs c.in_ok-marks.ensures.out))

pub returns-clause-births : goal.returns-clause-births
returns-clause-births g c =
    let jobs = c.in_ok-marks.marks in
    let work = worked_job c.deal.new.self.homes in
    let worked : c.work_all-marks.result.0 ≡ map work jobs = c.work_all-marks.ensures.marks in
    c.collect.ensures.births ∙ (ap births_of worked ∙ (flat_map-map (λ (j : JobView). j.births) work jobs ∙ c.in_ok-marks.ensures.births))

pub returns-clause-stands : goal.returns-clause-stands
returns-clause-stands g c before stands =
    let jobs = c.in_ok-marks.marks in
    let work = worked_job c.deal.new.self.homes in
    let worked : c.work_all-marks.result.0 ≡ map work jobs = c.work_all-marks.ensures.marks in
    let births : births_of c.work_all-marks.result.0 ≡ c.args.births =
    ap births_of worked ∙ (flat_map-map (λ (j : JobView). j.births) work jobs ∙ c.in_ok-marks.ensures.births) in
    subst (λ (l : List BirthView). StandsFor (placed g.P.Places.places c.collect.new.self) (before ++ nodes_of l)) births
    (c.collect.ensures.stands before (c.in_ok-marks.ensures.stands before stands))

pub returns-clause-aheads : goal.returns-clause-aheads
returns-clause-aheads g c = c.work_all-marks.ensures.aheads
