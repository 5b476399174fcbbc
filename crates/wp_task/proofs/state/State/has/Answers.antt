use Rattle.std.proofs.Common.{sym}
use Rattle.wp_task.proofs.PackingLemmas.{has-flags_in}
use Rattle.wp_task.proofs.state.State.has.Goals as goal

pub returns : goal.returns
returns c = rw (c.is_set.ensures, c.as_slice.ensures.value, ← c.self.view_is)
    (sym (has-flags_in c.self.inside.words.items c.self.inside.size c.self.invariant c.args.p))
