use Rattle.wp_cert.proofs.AuditLemmas.{closed_from_yes, yes_from_closed}
use Rattle.wp_cert.proofs.LawLemmas.{yes_has_no_plan, yes_has_no_valid_plan}
use Rattle.wp_cert.proofs.laws.yes_has_no_plan.Goals as goal

pub returns : goal.returns
returns c = record {
  closed = λ task states. (closed_from_yes task states, yes_from_closed task states);
  plan = yes_has_no_plan c.emptied_has_no_plan.ensures.closed;
  valid = yes_has_no_valid_plan c.emptied_has_no_plan.ensures.closed c.plans_are_valid.ensures c.valid_plans_are_numbered.ensures
      c.unreached_goals_have_no_plan.ensures;
}
