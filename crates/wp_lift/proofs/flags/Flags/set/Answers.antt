use Rattle.std.proofs.Common.{sym, arith}
use Rattle.wp_lift.proofs.FlagLemmas.{flags-set, set-past}
use Rattle.wp_lift.proofs.flags.Flags.set.Goals as goal

pub returns-then-place-self : goal.returns-then-place-self
returns-then-place-self c = rw (← c.self.view_is)
    (flags-set c.self.inside.words.items c.set_bit.new.words.items c.self.inside.count c.args.place c.set_bit.ensures.bits (omega arith))

pub returns-else-place-self : goal.returns-else-place-self
returns-else-place-self c = rw (← c.self.view_is)
    (sym (set-past c.self.inside.words.items c.self.inside.count c.args.place (omega arith)))
