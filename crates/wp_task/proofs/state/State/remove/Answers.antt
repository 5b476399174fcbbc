use Rattle.std.proofs.Common.{◌≡◌, length, arith}
use Rattle.wp_task.proofs.PackingLemmas.{removed, length-flags_in}
use Rattle.wp_task.proofs.state.State.remove.Goals as goal

pub clear_bit-requires : goal.clear_bit-requires
clear_bit-requires c =
    let size : length c.args.self.now ≡ c.self.inside.size =
    rw (← c.self.view_is) (length-flags_in c.self.inside.words.items c.self.inside.size) in
    omega (arith, c.self.invariant.room)

pub invariant_of-self : goal.invariant_of-self
invariant_of-self c =
    let size : length c.args.self.now ≡ c.self.inside.size =
    rw (← c.self.view_is) (length-flags_in c.self.inside.words.items c.self.inside.size) in
    (removed c.self.inside.words.items c.clear_bit.new.words.items c.self.inside.size c.args.p c.self.invariant c.clear_bit.ensures.len c.clear_bit.ensures.bits).packed

pub returns-clause-set : goal.returns-clause-set
returns-clause-set c =
    let size : length c.args.self.now ≡ c.self.inside.size =
    rw (← c.self.view_is) (length-flags_in c.self.inside.words.items c.self.inside.size) in
    rw (← c.self.view_is)
    ((removed c.self.inside.words.items c.clear_bit.new.words.items c.self.inside.size c.args.p c.self.invariant c.clear_bit.ensures.len c.clear_bit.ensures.bits).flags)
