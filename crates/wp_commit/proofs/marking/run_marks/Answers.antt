use Rattle.std.proofs.Common.{rules, ◌≡◌, length, sym, ap, ◌∙◌}
use Rattle.wp_novel.specs.Jobs.{worked_job}
use Rattle.wp_commit.proofs.MarkingLemmas.{each_worked}
use Rattle.wp_commit.proofs.marking.run_marks.Goals as goal

pub returns : goal.returns
returns g c =
    let homes = c.args.tables.now.homes in
    let count : length c.for_each_mut.new.s ≡ length c.args.jobs.now = search rules in
    each_worked homes c.args.jobs.now c.for_each_mut.new.s count (λ i d within.
    let at = (c.for_each_mut.ensures i d within).1 in
    sym at.left ∙ (at.call ∙ ap (worked_job homes) at.argument_is))
