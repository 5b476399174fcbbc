use Rattle.std.proofs.Common.{◌≡◌, ◌⊎◌, ◌+◌, ◌∷◌, ◌++◌, [], ℕ, List, Option, length, take, get_or, true, false, sym, ap, ◌∙◌, subst, inl, inr, arith}
use Rattle.std.specs.Prelude.{IfSome, IfNone}
use Rattle.std.specs.List.{All}
use Rattle.std.proofs.lemmas.List.{take_all}
use Rattle.wp_novel.specs.Births.{BirthView}
use Rattle.wp_novel.specs.declared.grow.Growth.{Growth}
use Rattle.wp_novel.specs.NoveltyTables.{counters_of}
use Rattle.wp_novel.specs.Jobs.{IsHeldIn}
use Rattle.wp_novel.specs.Dealing.{AreOver, IsGrowth, has_growth, AreGrowths}
use Rattle.wp_novel.proofs.PairLemmas.{Homes}
use Rattle.wp_novel.proofs.GrowthLemmas.{none_left, growths_kept, growths_added}
use Rattle.wp_novel.proofs.grow.growths_for.Goals as goal
use Rattle.wp_novel.proofs.grow.growths_for.Goals.{then-not-has_growth+in_ok-growth+in-Some+in_ok-push, then-not-has_growth+in_ok-growth+in_default, else-not-has_growth}

pub loop-birth-preserved : goal.loop-birth-preserved
loop-birth-preserved c =
    let births = c.args.births.now in
    let homes = c.args.homes.now.entries in
    let now = c.loop-birth.homes.entries in
    let was : now ≡ homes = c.loop-birth.invariant.same in
    let i = c.loop-birth.birth-index in
    let b = c.birth-item.result in
    let growths = c.loop-birth.growths.items in
    let test : c.has_growth.result ≡ has_growth growths b.node.counters =
    c.has_growth.ensures ∙ (λ j. has_growth (c.deref.ensures.value j) (c.pair-pair.ensures j)) in
    let size : (atoms : ℕ) → AreOver atoms homes births → length b.node.state ≡ atoms =
    λ atoms over. ap (λ (x : BirthView). length x.node.state) c.birth-item.is ∙ over.sizes i b c.loop-birth-test.true in
    elim c.if-not-has_growth.branch [
      | then-not-has_growth+in_ok-growth+in-Some+in_ok-push w ↦
          let g = w.in-Some.growth in
          let Made : Option Growth → Type 0 = λ (o : Option Growth). IfSome o (λ (h : Growth). (counters_of h.pair ≡ b.node.counters) × IsGrowth (length b.node.state) births now h) in
          let made = subst Made w.in-Some.is w.in_ok-growth.ensures.some in
          record {
            same = ap (λ v. v.entries) w.homes-is ∙ (w.growth_of.ensures.same ∙ was);
            growths = λ atoms over.
                growths_added atoms births homes i b growths c.if-not-has_growth.growths.items g c.loop-birth-test.true c.birth-item.is (c.loop-birth.invariant.growths atoms over)
                (ap (λ v. v.items) w.growths-is ∙ w.in_ok-push.ensures.items)
                (subst (λ (n : ℕ). IsGrowth n births homes g) (size atoms over) (subst (λ (h : Homes). IsGrowth (length b.node.state) births h g) was made.1)) made.0
                (sym test ∙ w.if-not-has_growth.true);
          }
      | then-not-has_growth+in_ok-growth+in_default w ↦
          record {
            same = ap (λ v. v.entries) w.homes-is ∙ (w.growth_of.ensures.same ∙ was);
            growths = λ atoms over.
                subst (AreGrowths atoms births homes (take (i + 1) births)) (sym (ap (λ v. v.items) w.growths-is))
                (growths_kept atoms births homes i b growths c.loop-birth-test.true c.birth-item.is (c.loop-birth.invariant.growths atoms over)
                (inl (subst (λ (h : Homes). IsHeldIn h b) was (none_left _ (IsHeldIn now b) w.in_ok-growth.ensures.none w.in_default.not-Some))));
          }
      | else-not-has_growth w ↦
          record {
            same = ap (λ v. v.entries) w.homes-is ∙ was;
            growths = λ atoms over.
                subst (AreGrowths atoms births homes (take (i + 1) births)) (sym (ap (λ v. v.items) w.growths-is))
                (growths_kept atoms births homes i b growths c.loop-birth-test.true c.birth-item.is (c.loop-birth.invariant.growths atoms over) (inr (sym test ∙ w.if-not-has_growth.false)));
          }
    ]

pub returns-clause-growths : goal.returns-clause-growths
returns-clause-growths c = λ atoms over.
    subst (λ (l : List BirthView). AreGrowths atoms c.args.births.now c.args.homes.now.entries l c.loop-birth.growths.items)
    (take_all c.loop-birth.birth-index c.args.births.now (omega (arith, c.loop-birth-test.false))) (c.loop-birth.invariant.growths atoms over)
