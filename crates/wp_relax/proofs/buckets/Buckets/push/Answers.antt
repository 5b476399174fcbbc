use Rattle.std.proofs.Common.{◌≤◌, List, ◌∷◌, ◌++◌, set, heap_items, IsPermutation, subst, arith}
use Rattle.std.proofs.lemmas.List.Elements.{All-cons}
use Rattle.std.proofs.lemmas.List.Sorted.{All-permutation}
use Rattle.wp_relax.specs.Buckets.{Waiting, waiting_at, bucket_count, in_buckets}
use Rattle.wp_relax.proofs.BucketLemmas.{pushed, pushed_far}
use Rattle.wp_relax.proofs.buckets.Buckets.push.Goals as goal

pub invariant_of-self-then-cost : goal.invariant_of-self-then-cost
invariant_of-self-then-cost c =
    let one : Waiting = waiting_at c.args.cost c.args.p in
    let old = heap_items c.self.inside.far in
    record {
      count = c.self.invariant.count;
      empty = c.self.invariant.empty;
      within = c.self.invariant.within;
      above = All-permutation (λ w. bucket_count ≤ w.0.0) (one ∷ old) (heap_items c.push.new.self) c.in_ok-push.ensures.permutation
          (All-cons (λ w. bucket_count ≤ w.0.0) one old (omega (arith, c.if-cost.true)) c.self.invariant.above);
      ordered = c.in_ok-push.ensures.heap_order c.self.invariant.ordered;
    }

pub returns-then-cost-clause-added : goal.returns-then-cost-clause-added
returns-then-cost-clause-added c =
    let one : Waiting = waiting_at c.args.cost c.args.p in
    let near = in_buckets 0 c.self.inside.buckets.items in
    subst (λ (l : List Waiting). IsPermutation (one ∷ l) (near ++ heap_items c.push.new.self)) c.self.view_is
    (pushed_far near (heap_items c.self.inside.far) (heap_items c.push.new.self) one c.in_ok-push.ensures.permutation)

pub returns-clause-added : goal.returns-clause-added
returns-clause-added c =
    let one : Waiting = waiting_at c.args.cost c.args.p in
    let buckets = c.self.inside.buckets.items in
    let far = heap_items c.self.inside.far in
    subst (λ (l : List Waiting). IsPermutation (one ∷ l) (in_buckets 0 (set buckets c.args.cost c.push-2.new.self) ++ far)) c.self.view_is
    (pushed buckets far c.args.cost c.args.p c.index_mut.result.now c.push-2.new.self
    (omega (arith, c.if-cost.false, c.self.invariant.count)) c.index_mut.ensures.value c.in_ok-push-2.ensures.added)
