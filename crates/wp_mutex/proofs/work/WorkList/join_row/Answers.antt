use Rattle.std.proofs.Common.{◌≡◌, ◌==◌, ◌&&◌, ◌<◌, ◌≤◌, ℕ, true, sym, ap, ◌∙◌, subst, ⊎_elim, arith}
use Rattle.std.proofs.lemmas.Bool.{and_parts, eqb-true, cases_lt}
use Rattle.wp_task.specs.Set.{has}
use Rattle.wp_mutex.specs.PossiblePairs.{joins}
use Rattle.wp_mutex.proofs.Growing.{grows_on, within_on}
use Rattle.wp_mutex.proofs.work.WorkList.join_row.Goals as goal

pub loop-p-preserved : goal.loop-p-preserved
loop-p-preserved c =
    let s = c.args.s.now in
    let q = c.args.q in
    let p = c.loop-p.p in
    let new = c.join_if.new.self in
    record {
      grows = grows_on c.args.self.now c.loop-p.self new c.loop-p.invariant.grows c.in_ok-join_if.ensures.grows;
      there = λ k less both. ⊎_elim
          (λ (before : k < p). c.in_ok-join_if.ensures.grows.more k q (c.loop-p.invariant.there k before both))
          (λ (late : p ≤ k).
          let is : k ≡ p = omega arith in
          let here : (has s p && has s q) ≡ true = ap (λ (i : ℕ). has s i && has s q) (sym is) ∙ both in
          subst (λ (i : ℕ). joins new.pairs i q ≡ true) (sym is) (c.in_ok-join_if.ensures.there (c.has_both-both.ensures ∙ here)))
          (cases_lt k p);
      within = within_on (λ x y. has s x && has s y) (λ x y. c.has_both-both.result && ((x == p) && (y == q)))
          c.args.self.now.pairs c.loop-p.self.pairs new.pairs c.loop-p.invariant.within c.in_ok-join_if.ensures.within
          (λ x y holds.
          let parts = and_parts c.has_both-both.result ((x == p) && (y == q)) holds in
          let names = and_parts (x == p) (y == q) parts.1 in
          let left : x ≡ p = eqb-true x p names.0 in
          let right : y ≡ q = eqb-true y q names.1 in
          (λ j. has s (left j) && has s (right j)) ∙ (sym c.has_both-both.ensures ∙ parts.0));
    }
