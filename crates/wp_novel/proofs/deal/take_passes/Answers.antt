use Rattle.std.proofs.Common.{◌≡◌, ◌∷◌, ◌++◌, [], true, List, take, sym, ap, ◌∙◌, subst}
use Rattle.std.proofs.lemmas.List.{take_more}
use Rattle.wp_novel.specs.Births.{BirthView}
use Rattle.wp_novel.specs.declared.job.JobPass.{JobPass}
use Rattle.wp_novel.specs.NoveltyTables.{is_among, pairs_of}
use Rattle.wp_novel.specs.Jobs.{HomesBecome, Lends}
use Rattle.wp_novel.specs.Dealing.{ArePassesFor}
use Rattle.wp_novel.proofs.HomeLemmas.{become_then}
use Rattle.wp_novel.proofs.PassLemmas.{lends_more}
use Rattle.wp_novel.proofs.TakingLemmas.{given_more, lend_open, lend_parts}
use Rattle.wp_novel.proofs.deal.take_passes.Goals as goal

pub take_pass-requires-clause-open : goal.take_pass-requires-clause-open
take_pass-requires-clause-open c =
    let homes = c.args.homes.now.entries in
    lend_open c.loop-birth.passes.items homes c.loop-birth.homes.entries c.birth-item.result c.pair.result c.loop-birth.invariant.homes
    (subst (λ (b : BirthView). is_among (pairs_of homes) b.node.counters ≡ true) (sym c.birth-item.is)
    (c.requires.lend.opens c.loop-birth.birth-index c.birth-item.result c.loop-birth-test.true))
    c.pair.ensures

pub take_pass-requires-clause-parts : goal.take_pass-requires-clause-parts
take_pass-requires-clause-parts c = λ none.
    lend_parts c.loop-birth.passes.items c.args.homes.now.entries c.loop-birth.homes.entries c.pair.result c.loop-birth.invariant.homes c.requires.lend.parts none

pub loop-birth-preserved : goal.loop-birth-preserved
loop-birth-preserved c =
    let homes = c.args.homes.now.entries in
    let now = c.loop-birth.homes.entries in
    let later = c.take_pass.new.homes.entries in
    let births = c.args.births.now in
    let i = c.loop-birth.birth-index in
    let b = c.birth-item.result in
    let passes = c.loop-birth.passes.items in
    let after = c.take_pass.new.passes.items in
    let takes = c.take_pass.ensures.takes in
    record {
      passes = subst (λ (done : List BirthView). ArePassesFor homes done after)
          (sym (take_more births i b c.loop-birth-test.true ∙ ap (λ x. take i births ++ x ∷ []) (sym c.birth-item.is)))
          (given_more homes now later (take i births) b c.pair.result passes after c.loop-birth.invariant.passes c.loop-birth.invariant.homes c.pair.ensures takes);
      homes = subst (λ (l : List JobPass). HomesBecome (Lends l) homes later) (sym takes.is)
          (become_then (Lends passes) (Lends takes.more) (Lends (passes ++ takes.more)) homes now later (lends_more passes takes.more) c.loop-birth.invariant.homes takes.homes);
      room = c.take_pass.ensures.room ∙ c.loop-birth.invariant.room;
    }
