use Rattle.std.proofs.Common.{◌≡◌, drop}
use Rattle.wp_cert.specs.Audits.{is_among, first_leaving}
use Rattle.wp_cert.proofs.auditing.first_leaving.Given as goal

abbrev pub invariant-loop-a : goal.invariant-loop-a
invariant-loop-a l =
    first_leaving l.task.acts (is_among l.found.keys) l.state (drop l.a-index l.acts) ≡ first_leaving l.task.acts (is_among l.found.keys) l.state l.acts
