use Rattle.wp_arrive.proofs.Orders.{first_is_least, ends_as_first, any_order}
use Rattle.wp_arrive.proofs.laws.marks_in_any_order.Goals as goal

pub returns-clause-least : goal.returns-clause-least
returns-clause-least c = first_is_least

pub returns-clause-firsts : goal.returns-clause-firsts
returns-clause-firsts c = ends_as_first

pub returns-clause-order : goal.returns-clause-order
returns-clause-order c = any_order
