use Rattle.std.proofs.Common.{ap, sym, ◌∙◌, arith}
use Rattle.wp_arrive.specs.Seen.{PassView}
use Rattle.wp_arrive.proofs.Steps.{splits}
use Rattle.wp_arrive.proofs.arrivals.Arrivals.split.Goals as goal

pub split_seat-requires : goal.split_seat-requires
split_seat-requires c = (
  ap (λ (p : PassView). p.table) c.pass.view_is ∙ c.requires.table ∙ sym c.self.view_is,
  omega (arith, c.self.invariant.1),
  splits _ _ _ (omega (arith, ap (λ (p : PassView). p.parts) c.pass.view_is, c.requires.parts)),
)
