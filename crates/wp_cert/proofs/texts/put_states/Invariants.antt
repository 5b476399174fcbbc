use Rattle.std.proofs.Common.{◌≡◌, ◌++◌, drop}
use Rattle.wp_cert.specs.Format.{states_text}
use Rattle.wp_cert.proofs.texts.put_states.Given as goal

abbrev pub invariant-loop-atoms : goal.invariant-loop-atoms
invariant-loop-atoms l = l.out.items ++ states_text (drop l.atoms-index l.states) ≡ l.fn.out.items ++ states_text l.states
