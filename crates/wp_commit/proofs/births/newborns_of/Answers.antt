use Rattle.std.proofs.Common.{suc, ◌≡◌, ◌∷◌, ◌++◌, List, length, sym, ap, ◌∙◌, subst, arith}
use Rattle.std.specs.List.{All}
use Rattle.std.specs.Vec.Iter.{into_iter_items}
use Rattle.wp_task.specs.Novelty.{Generated}
use Rattle.wp_novel.specs.Births.{BirthView}
use Rattle.wp_novel.specs.NoveltyTables.{placed, IsAtHome}
use Rattle.wp_novel.specs.StandsFor.{StandsFor}
use Rattle.wp_plain.specs.Explored.{all_numbered}
use Rattle.wp_commit.specs.declared.births.Rest.{Rest}
use Rattle.wp_commit.specs.Entering.{CanBeAsked}
use Rattle.wp_commit.proofs.BirthLemmas.{IsLeft, left-next}
use Rattle.wp_commit.proofs.births.newborns_of.Goals as goal

pub loop-birth-preserved : goal.loop-birth-preserved
loop-birth-preserved g c =
    let tables = c.loop-birth.tables in
    let places = g.P.Places.places in
    let same : c.newborn_of-newborn.new.tables ≡ tables = c.newborn_of-newborn.ensures.same in
    let done = c.loop-birth.newborns.items in
    let now = c.push.new.self.items in
    let b = c.in-Some.birth in
    let r = c.in-Some-next.rest in
    let bs = into_iter_items c.next.new.self in
    let rs = into_iter_items c.next-in-loop-birth.new.self in
    let births_before = into_iter_items c.loop-birth.birth-iterator in
    let births : births_before ≡ b ∷ bs = c.in-Some.ensures.steps.0 in
    let rests : into_iter_items c.loop-birth.rests ≡ r ∷ rs = c.in-Some-next.ensures.items in
    record {
      same = same ∙ c.loop-birth.invariant.same;
      parts = let longer : suc (length rs) ≡ suc (length bs) = ap length (sym rests) ∙ (c.loop-birth.invariant.parts ∙ ap length births) in omega arith;
      home = subst (λ t. IsAtHome (placed places t)) (sym same) c.loop-birth.invariant.home;
      asked = subst (λ t. All (CanBeAsked (placed places t)) bs) (sym same)
          (λ k d within. subst (All (CanBeAsked (placed places tables))) births c.loop-birth.invariant.asked (suc k) d (omega arith));
      newborns = λ nodes first children births_are rests_are stands.
          let all : List Generated = nodes ++ all_numbered first children in
          let then : StandsFor (placed places tables) all = subst (λ t. StandsFor (placed places t) all) same stands in
          subst (λ t. IsLeft (placed places t).index.width all first children now bs rs) (sym same)
          (left-next (placed places tables) nodes first children done now b bs r rs c.newborn_of-newborn.result
          c.in_ok-push.ensures.items c.newborn_of-newborn.ensures.number c.newborn_of-newborn.ensures.child c.newborn_of-newborn.ensures.novelty then
          (subst (λ (l : List BirthView). IsLeft (placed places tables).index.width all first children done l (r ∷ rs)) births
          (subst (λ (l : List Rest). IsLeft (placed places tables).index.width all first children done births_before l) rests
          (c.loop-birth.invariant.newborns nodes first children births_are rests_are then))));
    }
