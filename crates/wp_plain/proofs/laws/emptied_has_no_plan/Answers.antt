use Rattle.wp_plain.proofs.EmptiedLemmas.{emptied_is_closed, closed_has_no_plan, emptied_has_no_plan}
use Rattle.wp_plain.proofs.laws.emptied_has_no_plan.Goals as goal

pub returns : goal.returns
returns c = record {
  kept = emptied_is_closed;
  closed = closed_has_no_plan;
  none = emptied_has_no_plan;
}
