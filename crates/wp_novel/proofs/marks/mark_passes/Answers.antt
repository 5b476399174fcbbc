use Rattle.std.proofs.Common.{◌≡◌, ◌<◌, List, get_or, length, set, sym, ap, ◌∙◌, subst, arith}
use Rattle.wp_novel.specs.declared.job.JobPass.{JobPass}
use Rattle.wp_novel.specs.Jobs.{worked_pass}
use Rattle.wp_novel.specs.Dealing.{CanMark}
use Rattle.wp_novel.proofs.StageLemmas.{stage, stage-at, stage-set}
use Rattle.wp_novel.proofs.marks.mark_passes.Goals as goal

pub mark_pass-requires-clause-pass : goal.mark_pass-requires-clause-pass
mark_pass-requires-clause-pass c =
    let k = c.loop-place.place in
    let old = c.args.passes.now.items in
    let d = c.index_mut.result.now in
    let within : k < length old = omega (arith, c.loop-place-test.true, c.len-place-end.ensures, c.args.passes.now.ok.0) in
    let is : d ≡ get_or old k d = c.index_mut.ensures.value ∙ (ap (λ (l : List JobPass). get_or l k d) c.loop-place.invariant
    ∙ stage-at (worked_pass c.args.homes.now.entries c.args.births.now) k old d within) in
    subst (CanMark c.args.homes.now.entries) (sym is) (c.requires.passes k d within)

pub loop-place-preserved : goal.loop-place-preserved
loop-place-preserved c =
    let k = c.loop-place.place in
    let old = c.args.passes.now.items in
    let d = c.index_mut.result.now in
    let f = worked_pass c.args.homes.now.entries c.args.births.now in
    let within : k < length old = omega (arith, c.loop-place-test.true, c.len-place-end.ensures, c.args.passes.now.ok.0) in
    let is : d ≡ get_or old k d = c.index_mut.ensures.value ∙ (ap (λ (l : List JobPass). get_or l k d) c.loop-place.invariant ∙ stage-at f k old d within) in
    ap (λ (l : List JobPass). set l k c.mark_pass.new.job_pass) c.loop-place.invariant
    ∙ (ap (λ (p : JobPass). set (stage f k old) k p) (c.mark_pass.ensures ∙ ap f is) ∙ stage-set f k old d within)
