use Rattle.std.proofs.Common.{◌≡◌, length, arith}
use Rattle.wp_task.proofs.PackingLemmas.{inserted, length-flags_in}
use Rattle.wp_task.proofs.state.State.insert.Goals as goal

pub set_bit-requires : goal.set_bit-requires
set_bit-requires c =
    let size : length c.args.self.now ≡ c.self.inside.size =
    rw (← c.self.view_is) (length-flags_in c.self.inside.words.items c.self.inside.size) in
    omega (arith, c.self.invariant.room)

pub invariant_of-self : goal.invariant_of-self
invariant_of-self c =
    let size : length c.args.self.now ≡ c.self.inside.size =
    rw (← c.self.view_is) (length-flags_in c.self.inside.words.items c.self.inside.size) in
    (inserted c.self.inside.words.items c.set_bit.new.words.items c.self.inside.size c.args.p c.self.invariant (omega arith) c.set_bit.ensures.len c.set_bit.ensures.bits).packed

pub returns-clause-set : goal.returns-clause-set
returns-clause-set c =
    let size : length c.args.self.now ≡ c.self.inside.size =
    rw (← c.self.view_is) (length-flags_in c.self.inside.words.items c.self.inside.size) in
    rw (← c.self.view_is)
    ((inserted c.self.inside.words.items c.set_bit.new.words.items c.self.inside.size c.args.p c.self.invariant (omega arith) c.set_bit.ensures.len c.set_bit.ensures.bits).flags)
