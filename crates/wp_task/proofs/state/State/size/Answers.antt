use Rattle.std.proofs.Common.{sym}
use Rattle.wp_task.proofs.PackingLemmas.{length-flags_in}
use Rattle.wp_task.proofs.state.State.size.Goals as goal

pub returns : goal.returns
returns c = rw (← c.self.view_is) (sym (length-flags_in c.self.inside.words.items c.self.inside.size))
