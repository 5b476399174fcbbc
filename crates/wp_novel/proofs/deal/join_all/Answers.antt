use Rattle.std.proofs.Common.{◌≡◌, ◌+◌, ◌≤◌, List, length, sym, ap, ◌∙◌, subst, [], ◌∷◌, ◌++◌, length-append, arith}
use Rattle.std.specs.List.{All}
use Rattle.std.specs.Vec.{vec_len, vec_capacity}
use Rattle.std.specs.Vec.Iter.{into_iter_items}
use Rattle.std.proofs.lemmas.Grind.{flat_map-append}
use Rattle.wp_novel.specs.Births.{BirthView}
use Rattle.wp_novel.specs.declared.job.JobPass.{JobPass}
use Rattle.wp_novel.specs.Jobs.{JobView, HomesBecome, Takes, passes_of, births_of}
use Rattle.wp_novel.specs.Dealing.{CanMark}
use Rattle.wp_novel.proofs.JobLemmas.{All-left, All-right, moved, can_mark, joined, passes_of-push, births_of-push, if_ok}
use Rattle.wp_novel.proofs.deal.join_all.Goals as goal

pub join_passes-requires : goal.join_passes-requires
join_passes-requires c = λ k d within.
    let old = c.args.homes.now.entries in
    let done = c.loop-job.invariant.0 in
    let job = c.in-Some.job in
    let rest = into_iter_items c.next.new.self in
    let next : into_iter_items c.loop-job.job-iterator ≡ job ∷ rest = c.in-Some.ensures.steps.0 in
    let whole : passes_of done ++ (job.passes ++ passes_of rest) ≡ passes_of c.args.jobs.items =
    ap (λ (l : List JobView). passes_of done ++ passes_of l) (sym next)
    ∙ (sym (flat_map-append (λ (j : JobView). j.passes) done (into_iter_items c.loop-job.job-iterator)) ∙ ap (λ (l : List JobView). passes_of l) c.loop-job.invariant.1) in
    let mine : All (CanMark old) job.passes = All-left (CanMark old) job.passes (passes_of rest)
    (All-right (CanMark old) (passes_of done) (job.passes ++ passes_of rest) (subst (λ (l : List JobPass). All (CanMark old) l) (sym whole) c.requires.passes)) in
    let inside : All (CanMark old) c.job.inside.passes.items = subst (λ (l : List JobPass). All (CanMark old) l) (sym (ap (λ (j : JobView). j.passes) c.job.view_is)) mine in
    can_mark (passes_of done) old c.loop-job.homes.entries c.loop-job.invariant.2 _ (inside k d within)

pub loop-job-preserved : goal.loop-job-preserved
loop-job-preserved c =
    let old = c.args.homes.now.entries in
    let done = c.loop-job.invariant.0 in
    let job = c.in-Some.job in
    let rest = into_iter_items c.next.new.self in
    let next : into_iter_items c.loop-job.job-iterator ≡ job ∷ rest = c.in-Some.ensures.steps.0 in
    let passes : c.job.inside.passes.items ≡ job.passes = ap (λ (j : JobView). j.passes) c.job.view_is in
    let births : c.job.inside.births.items ≡ job.births = ap (λ (j : JobView). j.births) c.job.view_is in
    let whole : births_of done ++ (job.births ++ births_of rest) ≡ births_of c.args.jobs.items =
    ap (λ (l : List JobView). births_of done ++ births_of l) (sym next)
    ∙ (sym (flat_map-append (λ (j : JobView). j.births) done (into_iter_items c.loop-job.job-iterator)) ∙ ap (λ (l : List JobView). births_of l) c.loop-job.invariant.1) in
    let sum : length (births_of done) + (length job.births + length (births_of rest)) ≡ length (births_of c.args.jobs.items) =
    (λ j. length (births_of done) + sym (length-append job.births (births_of rest)) j) ∙ (sym (length-append (births_of done) (job.births ++ births_of rest)) ∙ ap (λ (l : List BirthView). length l) whole) in
    let so_far : length c.loop-job.all.items ≡ length (births_of done) = ap (λ (l : List BirthView). length l) c.loop-job.invariant.3 in
    let mine : length c.job.inside.births.items ≡ length job.births = ap (λ (l : List BirthView). length l) births in
    let room : vec_len c.loop-job.all + vec_len c.job.inside.births ≤ vec_capacity c.loop-job.all =
    omega (arith, c.requires.room, c.loop-job.invariant.4, c.loop-job.all.ok.0, c.job.inside.births.ok.0) in
    let items : c.append.new.self.items ≡ c.loop-job.all.items ++ c.job.inside.births.items =
    c.append.ensures.items ∙ if_ok c.append.result c.loop-job.all.items (c.loop-job.all.items ++ c.job.inside.births.items) (c.append.ensures.succeeds room) in (
      done ++ job ∷ [],
      moved done rest c.args.jobs.items (into_iter_items c.loop-job.job-iterator) job c.loop-job.invariant.1 next,
      subst (λ (l : List JobPass). HomesBecome (Takes l) old c.join_passes.new.homes.entries) ((λ j. passes_of done ++ passes j) ∙ sym (passes_of-push done job))
          (joined (passes_of done) c.job.inside.passes.items old c.loop-job.homes.entries c.join_passes.new.homes.entries c.loop-job.invariant.2 c.join_passes.ensures),
      items ∙ ((λ j. c.loop-job.invariant.3 j ++ births j) ∙ sym (births_of-push done job)),
      omega (arith, c.loop-job.invariant.4, c.append.ensures.capacity),
    )
