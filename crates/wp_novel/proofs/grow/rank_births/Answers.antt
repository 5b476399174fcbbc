use Rattle.std.proofs.Common.{◌≡◌, ◌+◌, ◌<◌, List, ℕ, length, take, sym, ap, ◌∙◌, subst, arith}
use Rattle.std.specs.List.{All, list_all}
use Rattle.std.proofs.lemmas.Bool.{both_ways}
use Rattle.std.proofs.lemmas.List.{take_all}
use Rattle.wp_task.specs.Set.{atoms_in}
use Rattle.wp_tuples.specs.Ranking.{Ranking, is_held, Extends}
use Rattle.wp_tuples.proofs.RankLemmas.{extends_itself, extends_then}
use Rattle.wp_novel.specs.Births.{BirthView}
use Rattle.wp_novel.specs.NoveltyTables.{counters_of, is_same}
use Rattle.wp_novel.specs.Jobs.{AreHeld}
use Rattle.wp_novel.specs.Dealing.{IsOfPair}
use Rattle.wp_novel.proofs.PairLemmas.{is_same_itself}
use Rattle.wp_novel.proofs.HeldLemmas.{new_within, old_within}
use Rattle.wp_novel.proofs.GrowLemmas.{still_held}
use Rattle.wp_novel.proofs.GrowthLemmas.{birth_ranked, state_held}
use Rattle.wp_novel.proofs.grow.rank_births.Goals as goal
use Rattle.wp_novel.proofs.grow.rank_births.Goals.{then-has_pair+in_ok-rank_atoms+in_ok-rank_atoms-2, else-has_pair}

pub rank_atoms-requires : goal.rank_atoms-requires
rank_atoms-requires c =
    let b = c.birth-item.result in
    let n : ℕ = length c.loop-birth.ranks.ranks in
    let size : length b.node.state ≡ n = ap (λ (x : BirthView). length x.node.state) c.birth-item.is ∙ (c.requires c.loop-birth.birth-index b c.loop-birth-test.true ∙ sym c.loop-birth.invariant.count) in
    subst (λ (l : List ℕ). All (λ p. p < n) l) (sym c.new_atoms.ensures) (new_within b n size)

pub rank_atoms-requires-then-has_pair : goal.rank_atoms-requires-then-has_pair
rank_atoms-requires-then-has_pair c =
    let b = c.birth-item.result in
    let n : ℕ = length c.rank_atoms.new.ranks.ranks in
    let size : length b.node.state ≡ n = ap (λ (x : BirthView). length x.node.state) c.birth-item.is
    ∙ (c.requires c.loop-birth.birth-index b c.loop-birth-test.true ∙ sym (c.in_ok-rank_atoms.ensures.atoms ∙ c.loop-birth.invariant.count)) in
    subst (λ (l : List ℕ). All (λ p. p < n) l) (sym c.old_atoms.ensures) (old_within b n size)

pub loop-birth-preserved : goal.loop-birth-preserved
loop-birth-preserved c =
    let b = c.birth-item.result in
    let was = c.loop-birth.ranks in
    let births = c.args.births.now in
    elim c.if-has_pair.branch [
      | then-has_pair+in_ok-rank_atoms+in_ok-rank_atoms-2 w ↦
          let half = w.rank_atoms.new.ranks in
          let now = w.rank_atoms-then-has_pair.new.ranks in
          let one = w.in_ok-rank_atoms.ensures in
          let two = w.in_ok-rank_atoms-2.ensures in
          let more : Extends was now = extends_then was half now one.extends two.extends in
          let new = still_held half now two.extends w.new_atoms.result.now one.held in
          let mine : AreHeld now b.node.state = state_held now b
          (ap (λ (l : List ℕ). list_all (is_held now) l) (sym w.new_atoms.ensures) ∙ new) (ap (λ (l : List ℕ). list_all (is_held now) l) (sym w.old_atoms.ensures) ∙ two.held) in
          let back = sym w.ranks-is in
          record {
            extends = subst (Extends c.args.ranks.now) back (extends_then c.args.ranks.now was now c.loop-birth.invariant.extends more);
            count = subst (λ (r : Ranking). length r.ranks ≡ length c.args.ranks.now.ranks) back (two.atoms ∙ (one.atoms ∙ c.loop-birth.invariant.count));
            held = subst (λ (r : Ranking). All (IsOfPair c.args.pair (λ x. AreHeld r x.node.state)) (take (c.loop-birth.birth-index + 1) births)) back
                (birth_ranked c.args.pair births c.loop-birth.birth-index b was now c.loop-birth-test.true c.birth-item.is more c.loop-birth.invariant.held (λ same. mine));
          }
      | else-has_pair w ↦
          let back = sym w.ranks-is in
          record {
            extends = subst (Extends c.args.ranks.now) back c.loop-birth.invariant.extends;
            count = subst (λ (r : Ranking). length r.ranks ≡ length c.args.ranks.now.ranks) back c.loop-birth.invariant.count;
            held = subst (λ (r : Ranking). All (IsOfPair c.args.pair (λ x. AreHeld r x.node.state)) (take (c.loop-birth.birth-index + 1) births)) back
                (birth_ranked c.args.pair births c.loop-birth.birth-index b was was c.loop-birth-test.true c.birth-item.is (extends_itself was) c.loop-birth.invariant.held
                (λ same. absurd (both_ways (is_same b.node.counters (counters_of c.args.pair)) (sym c.has_pair.ensures ∙ w.if-has_pair.false)
                (ap (λ k. is_same b.node.counters k) same ∙ is_same_itself b.node.counters))));
          }
    ]

pub returns-clause-held : goal.returns-clause-held
returns-clause-held c =
    subst (λ (l : List BirthView). All (IsOfPair c.args.pair (λ x. AreHeld c.loop-birth.ranks x.node.state)) l)
    (take_all c.loop-birth.birth-index c.args.births.now (omega (arith, c.loop-birth-test.false))) c.loop-birth.invariant.held
