use Rattle.std.proofs.Common.{◌≡◌, drop}
use Rattle.wp_cert.specs.Audits.{foreign_from}
use Rattle.wp_cert.proofs.auditing.first_foreign.Given as goal

abbrev pub invariant-loop-number : goal.invariant-loop-number
invariant-loop-number l = foreign_from l.task.atoms l.number (drop l.number l.states) ≡ foreign_from l.task.atoms 0 l.states
