use Rattle.std.proofs.Common.{◌∙◌, get_or, refl}
use Rattle.wp_ground.proofs.WithoutLemmas.{walking-next, walking-end}
use Rattle.wp_ground.proofs.acts.without.Goals as goal

pub loop-number-preserved : goal.loop-number-preserved
loop-number-preserved c =
    walking-next c.args.numbers.now c.args.others.now c.loop-number.number-index c.loop-number.rest.items c.loop-number.passed
    (get_or c.args.numbers.now c.loop-number.number-index 0) c.pass-passed.result c.is_at.result c.push_unless.new.numbers.items
    c.requires.numbers c.requires.others c.loop-number.invariant c.loop-number-test.true refl
    c.pass-passed.ensures.less c.pass-passed.ensures.stop c.is_at.ensures.yes c.is_at.ensures.no c.in_ok-push_unless.ensures

pub returns : goal.returns
returns c =
    c.of_vec.ensures
    ∙ walking-end c.args.numbers.now c.args.others.now c.loop-number.number-index c.loop-number.rest.items c.loop-number.passed c.loop-number.invariant c.loop-number-test.false
