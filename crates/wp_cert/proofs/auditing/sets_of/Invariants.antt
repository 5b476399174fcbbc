use Rattle.std.proofs.Common.{◌≡◌, Bool, List, take}
use Rattle.wp_cert.specs.Audits.{is_among, states_of}
use Rattle.wp_cert.proofs.auditing.sets_of.Given as goal

abbrev pub invariant-loop-number : goal.invariant-loop-number
invariant-loop-number l = (s : List Bool) → is_among l.found.keys s ≡ is_among (states_of l.task.atoms (take l.number l.states)) s
