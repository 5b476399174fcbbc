use Rattle.std.proofs.Common.{refl}
use Rattle.wp_lift.proofs.meaning.add.Goals as goal

pub returns-in_ok-note : goal.returns-in_ok-note
returns-in_ok-note c = rw (c.in_ok-note.ensures, c.in_ok-atom.ensures, c.if-effect.true) refl
