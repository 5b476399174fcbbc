use Rattle.std.proofs.Common.{rules, arith, ◌≡◌, List, [], length, sym, ap, ◌∙◌, subst}
use Rattle.std.specs.Vec.Iter.{into_iter_items, into_iter_len}
use Rattle.std.proofs.lemmas.List.{nil_from_length}
use Rattle.wp_nodes.specs.KeptNodes.{Keeping}
use Rattle.wp_commit.specs.declared.newborn.Newborn.{Newborn}
use Rattle.wp_commit.specs.Newborns.{with_newborns, waiting_of, AreNew, AreQueued}
use Rattle.wp_commit.specs.Latest.{AreNoted}
use Rattle.wp_commit.proofs.LatestLemmas.{noted_next, noted_none}
use Rattle.wp_commit.proofs.KeepLemmas.{first_later, first_unseen, is_next, IsNext, queued_next, queued_none}
use Rattle.wp_commit.proofs.keep.keep_all.Goals as goal

pub keep-requires-clause-later : goal.keep-requires-clause-later
keep-requires-clause-later c =
    let kept = c.loop-newborn.searched.nodes.kept in
    first_later kept c.in-Some.newborn (into_iter_items c.next.new.self) (subst (AreNew kept) c.in-Some.ensures.steps.0 c.loop-newborn.invariant.new)

pub keep-requires-clause-unseen : goal.keep-requires-clause-unseen
keep-requires-clause-unseen c =
    let kept = c.loop-newborn.searched.nodes.kept in
    first_unseen kept c.in-Some.newborn (into_iter_items c.next.new.self) (subst (AreNew kept) c.in-Some.ensures.steps.0 c.loop-newborn.invariant.new)

pub loop-newborn-preserved : goal.loop-newborn-preserved
loop-newborn-preserved c =
    let settings = c.args.settings.now in
    let was = c.loop-newborn.searched in
    let now = c.keep.new.searched in
    let rest = into_iter_items c.next.new.self in
    let held = c.loop-newborn.invariant in
    let here = c.in-Some.ensures.steps.0 in
    let next : IsNext was.nodes now.nodes c.args.parent c.args.track rest =
    is_next settings c.args.parent c.args.track was.nodes now.nodes c.in-Some.newborn rest c.in_ok-keep.ensures.nodes
    (subst (AreNew was.nodes.kept) here held.new) held.parent held.track in record {
      nodes = ap (λ (n : Keeping). with_newborns settings c.args.parent c.args.track n rest) c.in_ok-keep.ensures.nodes
          ∙ (ap (λ (xs : List Newborn). with_newborns settings c.args.parent c.args.track was.nodes xs) (sym here) ∙ held.nodes);
      queue = λ new others. held.queue new (subst (λ (xs : List Newborn). AreQueued was.queue (waiting_of settings xs) new) (sym here)
          (queued_next settings c.in-Some.newborn rest was.queue now.queue new c.in_ok-keep.ensures.queue others));
      latest = λ new others. held.latest new (subst (λ (xs : List Newborn). AreNoted xs was.latest.entries new) (sym here)
          (noted_next c.in-Some.newborn rest was.latest.entries now.latest.entries new c.in_ok-keep.ensures.latest others));
      new = next.new;
      parent = next.parent_kept;
      track = next.track_kept;
      few = omega (arith, c.in_ok-keep.ensures.kept, ap (λ (xs : List Newborn). length xs) here, next.few);
      kept = omega (arith, c.in_ok-keep.ensures.kept);
      numbered = search rules;
      expanded = search rules;
      repeats = search rules;
    }

pub returns-clause-queue : goal.returns-clause-queue
returns-clause-queue c =
    let none : into_iter_len c.loop-newborn.newborn-iterator ≡ 0 = c.in-None.ensures.steps.0 in
    let done : into_iter_items c.loop-newborn.newborn-iterator ≡ [] = nil_from_length (into_iter_items c.loop-newborn.newborn-iterator) (omega arith) in
    let queue = c.loop-newborn.searched.queue in
    c.loop-newborn.invariant.queue queue
    (subst (λ (xs : List Newborn). AreQueued queue (waiting_of c.args.settings.now xs) queue) (sym done) (queued_none queue))

pub returns-clause-latest : goal.returns-clause-latest
returns-clause-latest c =
    let none : into_iter_len c.loop-newborn.newborn-iterator ≡ 0 = c.in-None.ensures.steps.0 in
    let done : into_iter_items c.loop-newborn.newborn-iterator ≡ [] = nil_from_length (into_iter_items c.loop-newborn.newborn-iterator) (omega arith) in
    let latest = c.loop-newborn.searched.latest.entries in
    c.loop-newborn.invariant.latest latest (subst (λ (xs : List Newborn). AreNoted xs latest latest) (sym done) (noted_none latest))
