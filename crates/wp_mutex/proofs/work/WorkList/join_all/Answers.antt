use Rattle.std.proofs.Common.{◌≡◌, ◌==◌, ◌&&◌, ℕ, true, get_or, ap, ◌∙◌, subst, below_more, arith}
use Rattle.std.proofs.lemmas.Bool.{and_parts, and_from, eqb-true}
use Rattle.wp_task.specs.Set.{lists}
use Rattle.wp_mutex.specs.PossiblePairs.{joins}
use Rattle.wp_mutex.proofs.Growing.{grows_on, within_on}
use Rattle.wp_mutex.proofs.Settling.{lists_place, lists_at}
use Rattle.wp_mutex.proofs.work.WorkList.join_all.Goals as goal

pub loop-p-preserved : goal.loop-p-preserved
loop-p-preserved c =
    let atoms = c.args.atoms.now in
    let q = c.args.q in
    let k = c.loop-p.p-index in
    let item = get_or atoms k 0 in
    record {
      grows = grows_on c.args.self.now c.loop-p.self c.join.new.self c.loop-p.invariant.grows c.in_ok-join.ensures.grows;
      there = below_more (λ (i : ℕ). joins c.join.new.self.pairs (get_or atoms i 0) q ≡ true) k
          (λ i less. c.in_ok-join.ensures.grows.more (get_or atoms i 0) q (c.loop-p.invariant.there i less))
          c.in_ok-join.ensures.there;
      within = within_on (λ x y. lists atoms x && (y == q)) (λ x y. (x == item) && (y == q))
          c.args.self.now.pairs c.loop-p.self.pairs c.join.new.self.pairs c.loop-p.invariant.within c.in_ok-join.ensures.within
          (λ x y both.
          let parts = and_parts (x == item) (y == q) both in
          let is : x ≡ item = eqb-true x item parts.0 in
          and_from (lists atoms x) (y == q) (ap (lists atoms) is ∙ lists_at atoms k c.loop-p-test.true) parts.1);
    }

pub returns-clause-there : goal.returns-clause-there
returns-clause-there c = λ p listed.
    let at = lists_place c.args.atoms.now p listed in
    subst (λ (x : ℕ). joins c.loop-p.self.pairs x c.args.q ≡ true) at.2
    (c.loop-p.invariant.there at.0 (omega (arith, at.1, c.loop-p-test.false)))
