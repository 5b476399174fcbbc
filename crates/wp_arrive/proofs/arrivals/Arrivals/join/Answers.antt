use Rattle.std.proofs.Common.{ap, sym, ◌∙◌, arith}
use Rattle.wp_arrive.specs.Seen.{PassView}
use Rattle.wp_arrive.proofs.Steps.{joins}
use Rattle.wp_arrive.proofs.arrivals.Arrivals.join.Goals as goal

pub join_seat-requires : goal.join_seat-requires
join_seat-requires c = (
  ap (λ (p : PassView). p.table) c.pass.view_is ∙ c.requires.table ∙ sym c.self.view_is,
  ap (λ (p : PassView). p.table) c.other.view_is ∙ c.requires.other ∙ sym c.self.view_is,
  c.other.invariant,
  omega (arith, c.self.invariant.1),
  joins _ _ _ _ _,
)
