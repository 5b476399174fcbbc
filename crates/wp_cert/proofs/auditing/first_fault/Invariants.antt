use Rattle.std.proofs.Common.{◌≡◌, drop}
use Rattle.wp_cert.specs.Audits.{is_among, faults_from, states_of}
use Rattle.wp_cert.proofs.auditing.first_fault.Given as goal

abbrev pub invariant-loop-number : goal.invariant-loop-number
invariant-loop-number l =
    faults_from l.task (is_among l.found.keys) l.number (states_of l.task.atoms (drop l.number l.states))
    ≡ faults_from l.task (is_among l.found.keys) 0 (states_of l.task.atoms l.states)
