use Rattle.std.proofs.Common.{sym, arith}
use Rattle.wp_lift.proofs.FlagLemmas.{flag-in, flag-past}
use Rattle.wp_lift.proofs.flags.Flags.at.Goals as goal

pub returns : goal.returns
returns c = rw (c.is_set.ensures, c.as_slice.ensures.value, ← c.self.view_is)
    (sym (flag-in c.self.inside.words.items c.self.inside.count c.args.place (omega arith)))

pub returns-then-place-self : goal.returns-then-place-self
returns-then-place-self c = rw (← c.self.view_is)
    (sym (flag-past c.self.inside.words.items c.self.inside.count c.args.place (omega arith)))
