use Rattle.std.proofs.Common.{◌≡◌, ◌+◌, false, List, length, map, refl, sym, ap, ◌∙◌, subst, [], ◌∷◌, ◌++◌, length-append, arith}
use Rattle.std.specs.Vec.Iter.{into_iter_items}
use Rattle.wp_novel.specs.Births.{BirthView}
use Rattle.wp_novel.specs.declared.deal.Share.{Share}
use Rattle.wp_novel.specs.Jobs.{JobView}
use Rattle.wp_novel.specs.Dealing.{CanLend, ArePassesFor, AreGiven}
use Rattle.wp_novel.proofs.JobLemmas.{births_in_share, moved, as_many, can_lend, one_given}
use Rattle.wp_novel.proofs.deal.fill_all.Goals as goal

pub take_passes-passes-requires-clause-lend : goal.take_passes-passes-requires-clause-lend
take_passes-passes-requires-clause-lend c =
    let now = c.loop-share.homes.entries in
    subst (λ (l : List BirthView). CanLend 1 now l) (sym c.deref.ensures.value)
    (can_lend c.args.homes.now.entries now c.loop-share.invariant.0 (into_iter_items c.next.new.self) c.args.shares.items (into_iter_items c.loop-share.share-iterator)
    c.in-Some.share c.loop-share.jobs.items c.loop-share.invariant.1 c.in-Some.ensures.steps.0 c.loop-share.invariant.2 c.requires.lend)

pub overflow_cast-place : goal.overflow_cast-place
overflow_cast-place c =
    let done = c.loop-share.invariant.0 in
    let count : length done + length (into_iter_items c.loop-share.share-iterator) ≡ length c.args.shares.items =
    sym (length-append done (into_iter_items c.loop-share.share-iterator)) ∙ ap (λ (l : List Share). length l) c.loop-share.invariant.1 in
    omega (arith, as_many c.args.homes.now.entries c.loop-share.homes.entries done c.loop-share.jobs.items c.loop-share.invariant.2, c.requires.few, c.len-place.ensures, c.loop-share.jobs.ok.0)

pub push_reserved-requires : goal.push_reserved-requires
push_reserved-requires c =
    let done = c.loop-share.invariant.0 in
    let count : length done + length (into_iter_items c.loop-share.share-iterator) ≡ length c.args.shares.items =
    sym (length-append done (into_iter_items c.loop-share.share-iterator)) ∙ ap (λ (l : List Share). length l) c.loop-share.invariant.1 in
    let more : length (into_iter_items c.loop-share.share-iterator) ≡ length (c.in-Some.share ∷ into_iter_items c.next.new.self) =
    ap (λ (l : List Share). length l) c.in-Some.ensures.steps.0 in
    omega (arith, as_many c.args.homes.now.entries c.loop-share.homes.entries done c.loop-share.jobs.items c.loop-share.invariant.2, c.requires.room, c.loop-share.invariant.3, c.loop-share.jobs.ok.0)

pub loop-share-preserved : goal.loop-share-preserved
loop-share-preserved c =
    let old = c.args.homes.now.entries in
    let now = c.loop-share.homes.entries in
    let later = c.take_passes-passes.new.homes.entries in
    let done = c.loop-share.invariant.0 in
    let share = c.in-Some.share in
    let passes = c.take_passes-passes.result.items in
    let job : JobView = record { births = share.births.items; passes = passes; worked = false } in (
      done ++ share ∷ [],
      moved done (into_iter_items c.next.new.self) c.args.shares.items (into_iter_items c.loop-share.share-iterator) share c.loop-share.invariant.1 c.in-Some.ensures.steps.0,
      subst (λ (l : List JobView). AreGiven old later (map births_in_share (done ++ share ∷ [])) l) (sym c.push_reserved.ensures.items)
          (one_given old now later done share c.loop-share.jobs.items job c.loop-share.invariant.2 refl refl
          (subst (λ (l : List BirthView). ArePassesFor now l passes) c.deref.ensures.value c.take_passes-passes.ensures.passes) c.take_passes-passes.ensures.homes),
      c.push_reserved.ensures.capacity ∙ c.loop-share.invariant.3,
    )
