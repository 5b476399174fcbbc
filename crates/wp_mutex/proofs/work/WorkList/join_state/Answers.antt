use Rattle.std.proofs.Common.{◌≡◌, ◌&&◌, ◌<◌, ◌≤◌, ◌+◌, ℕ, true, length, ◌∙◌, ⊎_elim, below_more, arith}
use Rattle.std.proofs.lemmas.Bool.{and_from, cases_lt}
use Rattle.wp_task.specs.Set.{has}
use Rattle.wp_mutex.specs.PossiblePairs.{joins}
use Rattle.wp_mutex.proofs.PairLemmas.{joins-swap}
use Rattle.wp_mutex.proofs.Growing.{grows_on, within_on}
use Rattle.wp_mutex.proofs.LeastClosed.{below_size}
use Rattle.wp_mutex.proofs.work.WorkList.join_state.Goals as goal

pub loop-q-preserved : goal.loop-q-preserved
loop-q-preserved c =
    let s = c.args.s.now in
    let new = c.join_row.new.self in
    record {
      grows = grows_on c.args.self.now c.loop-q.self new c.loop-q.invariant.grows c.in_ok-join_row.ensures.grows;
      there = below_more (λ (k : ℕ). (p : ℕ) → p < k + 1 → (has s p && has s k) ≡ true → joins new.pairs p k ≡ true) c.loop-q.q
          (λ k less p within holds. c.in_ok-join_row.ensures.grows.more p k (c.loop-q.invariant.there k less p within holds))
          c.in_ok-join_row.ensures.there;
      within = within_on (λ x y. has s x && has s y) (λ x y. has s x && has s y)
          c.args.self.now.pairs c.loop-q.self.pairs new.pairs c.loop-q.invariant.within c.in_ok-join_row.ensures.within
          (λ x y holds. holds);
    }

pub returns-clause-there : goal.returns-clause-there
returns-clause-there c = λ p q one other.
    let s = c.args.s.now in
    let left : p < length s = below_size s p one in
    let right : q < length s = below_size s q other in
    ⊎_elim
    (λ (less : q < p).
    joins-swap c.loop-q.self.pairs p q
    ∙ c.loop-q.invariant.there p (omega (arith, left, c.size-q-end.ensures, c.loop-q-test.false)) q (omega arith) (and_from (has s q) (has s p) other one))
    (λ (more : p ≤ q).
    c.loop-q.invariant.there q (omega (arith, right, c.size-q-end.ensures, c.loop-q-test.false)) p (omega arith) (and_from (has s p) (has s q) one other))
    (cases_lt q p)
