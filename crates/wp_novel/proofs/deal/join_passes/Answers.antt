use Rattle.std.proofs.Common.{List, sym, subst, [], ◌∷◌, ◌++◌}
use Rattle.std.specs.List.{All}
use Rattle.std.specs.Vec.Iter.{into_iter_items}
use Rattle.std.proofs.lemmas.List.Elements.{All-head}
use Rattle.wp_novel.specs.declared.job.JobPass.{JobPass}
use Rattle.wp_novel.specs.Dealing.{CanMark}
use Rattle.wp_novel.proofs.JobLemmas.{All-right, moved, can_mark, joined}
use Rattle.wp_novel.proofs.deal.join_passes.Goals as goal

pub join_pass-requires : goal.join_pass-requires
join_pass-requires c =
    let old = c.args.homes.now.entries in
    let done = c.loop-pass.invariant.0 in
    let pass = c.in-Some.pass in
    let rest = into_iter_items c.next.new.self in
    can_mark done old c.loop-pass.homes.entries c.loop-pass.invariant.2 pass
    (All-head (CanMark old) pass rest
    (subst (λ (l : List JobPass). All (CanMark old) l) c.in-Some.ensures.steps.0
    (All-right (CanMark old) done (into_iter_items c.loop-pass.pass-iterator)
    (subst (λ (l : List JobPass). All (CanMark old) l) (sym c.loop-pass.invariant.1) c.requires))))

pub loop-pass-preserved : goal.loop-pass-preserved
loop-pass-preserved c =
    let old = c.args.homes.now.entries in
    let done = c.loop-pass.invariant.0 in
    let pass = c.in-Some.pass in (
      done ++ pass ∷ [],
      moved done (into_iter_items c.next.new.self) c.args.passes.items (into_iter_items c.loop-pass.pass-iterator) pass c.loop-pass.invariant.1 c.in-Some.ensures.steps.0,
      joined done (pass ∷ []) old c.loop-pass.homes.entries c.join_pass.new.homes.entries c.loop-pass.invariant.2 c.join_pass.ensures,
    )
