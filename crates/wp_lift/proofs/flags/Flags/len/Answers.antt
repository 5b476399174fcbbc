use Rattle.std.proofs.Common.{length, sym, ap, ◌∙◌}
use Rattle.wp_lift.proofs.FlagLemmas.{length-flags}
use Rattle.wp_lift.proofs.flags.Flags.len.Goals as goal

pub returns : goal.returns
returns c = sym (length-flags c.self.inside.words.items c.self.inside.count) ∙ ap length c.self.view_is
