use Rattle.std.proofs.Common.{◌≡◌, List, false, length, map, sym, ap, ◌∙◌, subst}
use Rattle.std.specs.List.{All}
use Rattle.std.proofs.lemmas.List.{length-map}
use Rattle.wp_novel.specs.NoveltyTables.{placed}
use Rattle.wp_novel.specs.Jobs.{JobView, worked_job, IsJobOf}
use Rattle.wp_ahead.specs.Jobs.{Job, CanWork}
use Rattle.wp_commit.specs.Phases.{AreWorked}
use Rattle.wp_commit.proofs.MarkingLemmas.{written}
use Rattle.wp_commit.proofs.marking.work_all.Goals as goal

pub run_phase-requires-clause-marks : goal.run_phase-requires-clause-marks
run_phase-requires-clause-marks g c κs bounds =
    subst (All (IsJobOf (placed g.P.Places.places c.args.tables.now) false)) (sym (c.as_mut_slice.ensures.value ∙ c.into_vec-marks.ensures)) c.requires.marks

pub run_phase-requires-clause-aheads : goal.run_phase-requires-clause-aheads
run_phase-requires-clause-aheads g c κs bounds =
    subst (All (CanWork c.args.run.now.task)) (sym (c.as_mut_slice-2.ensures.value ∙ c.into_vec-aheads.ensures)) c.requires.aheads

pub returns-clause-marks : goal.returns-clause-marks
returns-clause-marks g c =
    let given = c.into_vec-marks.result in
    let work = worked_job c.args.tables.now.homes in
    let count : length c.run_phase.new.marks ≡ given.len =
    ap (λ (l : List JobView). length l) c.run_phase.ensures.marks ∙ (length-map c.as_mut_slice.result.now work ∙ c.as_mut_slice.ensures.len) in
    c.of_vec.ensures
    ∙ (written given.len given.items c.run_phase.new.marks count
    ∙ (c.run_phase.ensures.marks ∙ ap (map work) (c.as_mut_slice.ensures.value ∙ c.into_vec-marks.ensures)))

pub returns-clause-aheads : goal.returns-clause-aheads
returns-clause-aheads g c =
    let task = c.args.run.now.task in
    let given = c.into_vec-aheads.result in
    let worked = c.run_phase.ensures.aheads in
    let count : length c.run_phase.new.aheads ≡ given.len = worked.count ∙ c.as_mut_slice-2.ensures.len in
    subst (λ (l : List Job). AreWorked task l c.of_vec-2.result) (c.as_mut_slice-2.ensures.value ∙ c.into_vec-aheads.ensures)
    (subst (AreWorked task c.as_mut_slice-2.result.now) (sym (c.of_vec-2.ensures ∙ written given.len given.items c.run_phase.new.aheads count)) worked)
