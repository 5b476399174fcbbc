use Rattle.std.proofs.Common.{◌∷◌, ◌++◌, List, set, heap_items, IsPermutation, subst, sym, ap, ◌∙◌, arith}
use Rattle.std.proofs.lemmas.List.{nil_from_length}
use Rattle.wp_relax.specs.Buckets.{Waiting, waiting_at, in_buckets}
use Rattle.wp_relax.proofs.BucketLemmas.{popped, near_first, all_far, far_first, far_taken}
use Rattle.wp_relax.proofs.buckets.Buckets.pop.Goals as goal

pub returns-in-Some-clause-taken : goal.returns-in-Some-clause-taken
returns-in-Some-clause-taken c =
    let buckets = c.loop-self.self-inside.buckets.items in
    let far = heap_items c.loop-self.self-inside.far in
    let least = c.loop-self.self-inside.least in
    subst (λ (l : List Waiting). IsPermutation l (waiting_at least c.in-Some.p ∷ (in_buckets 0 (set buckets least c.pop.new.self) ++ far))) c.loop-self.invariant.same
    (popped buckets (heap_items c.loop-self.self-inside.far) c.loop-self.self-inside.least c.in-Some.p c.index_mut.result.now c.pop.new.self
    (omega (arith, c.loop-self-test.true, c.loop-self.invariant.buckets.count)) c.index_mut.ensures.value c.in-Some.ensures.taken)

pub returns-in-Some-clause-least : goal.returns-in-Some-clause-least
returns-in-Some-clause-least c =
    near_first c.loop-self.self-inside.buckets.items c.loop-self.self-inside.least (heap_items c.loop-self.self-inside.far) c.args.self.now
    c.loop-self.invariant.buckets c.loop-self.invariant.same (omega (arith, c.loop-self-test.true))

pub returns-in-Some-pop-clause-taken : goal.returns-in-Some-pop-clause-taken
returns-in-Some-pop-clause-taken c =
    far_taken c.loop-self.self-inside.buckets.items c.loop-self.self-inside.least (heap_items c.loop-self.self-inside.far) c.args.self.now
    c.loop-self.invariant.buckets c.loop-self.invariant.same (omega (arith, c.loop-self-test.false))
    c.in-Some-pop.first (heap_items c.pop-2.new.self) c.in-Some-pop.ensures.permutation

pub returns-in-Some-pop-clause-least : goal.returns-in-Some-pop-clause-least
returns-in-Some-pop-clause-least c =
    far_first c.loop-self.self-inside.buckets.items c.loop-self.self-inside.least (heap_items c.loop-self.self-inside.far) c.args.self.now
    c.loop-self.invariant.buckets c.loop-self.invariant.same (omega (arith, c.loop-self-test.false))
    c.in-Some-pop.first (heap_items c.pop-2.new.self) c.in-Some-pop.ensures.heap_order

pub returns-clause-empty : goal.returns-clause-empty
returns-clause-empty c =
    let far = c.loop-self.self-inside.far in
    sym (all_far c.loop-self.self-inside.buckets.items c.loop-self.self-inside.least (heap_items far) c.args.self.now
    c.loop-self.invariant.buckets c.loop-self.invariant.same (omega (arith, c.loop-self-test.false)))
    ∙ nil_from_length (heap_items far) (omega (arith, c.in_default-pop.ensures.none, far.data.ok))

pub returns-clause-kept : goal.returns-clause-kept
returns-clause-kept c =
    let far = c.loop-self.self-inside.far in
    ap (λ l. in_buckets 0 c.loop-self.self-inside.buckets.items ++ l) c.in_default-pop.ensures.unchanged.0
    ∙ (c.loop-self.invariant.same ∙ returns-clause-empty c)
