use Rattle.std.proofs.Common.{◌<◌, ap, sym, ◌∙◌, arith}
use Rattle.wp_arrive.specs.Seen.{TableId, PassView}
use Rattle.wp_arrive.proofs.Steps.{looks}
use Rattle.wp_arrive.proofs.arrivals.Arrivals.look.Goals as goal

pub load-requires : goal.load-requires
load-requires c =
    let words = ap (λ (z : TableId). z.words) c.self.view_is in
    let near : c.args.t < c.self.inside.table.shared.table_id.words = omega (arith, words, c.requires.place) in (
      ap (λ (p : PassView). p.table) c.pass.view_is ∙ c.requires.table ∙ sym c.self.view_is,
      omega (arith, near),
      looks _ _ _ _ _ (omega (arith, near, c.self.invariant.0)),
    )
