use Rattle.std.proofs.Common.{◌∙◌}
use Rattle.std.proofs.lemmas.List.{nil_from_length}
use Rattle.wp_mutex.proofs.Settling.{looked, all_settled}
use Rattle.wp_mutex.proofs.work.WorkList.settle.Goals as goal

pub loop-pair-preserved : goal.loop-pair-preserved
loop-pair-preserved c =
    looked c.args.task.now.acts c.args.task.now.init c.loop-pair.self c.take.new.self c.look.new.self c.in-Some.pair.0 c.in-Some.pair.1
    c.loop-pair.invariant c.take.ensures.pairs c.in-Some.ensures.waiting c.in_ok-look.ensures.grows c.in_ok-look.ensures.sound c.in_ok-look.ensures.made

pub returns : goal.returns
returns c =
    c.take.ensures.pairs
    ∙ all_settled c.args.task.now.acts c.args.task.now.init c.loop-pair.self c.loop-pair.invariant
    (nil_from_length c.loop-pair.self.waiting c.in_default.ensures.last)
