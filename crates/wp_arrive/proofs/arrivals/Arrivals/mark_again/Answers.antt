use Rattle.std.proofs.Common.{◌≡◌, ◌<◌, ap, sym, ◌∙◌, arith}
use Rattle.wp_arrive.specs.Rule.{latest}
use Rattle.wp_arrive.specs.Seen.{TableId, PassView}
use Rattle.wp_arrive.proofs.Steps.{repeats}
use Rattle.wp_arrive.proofs.arrivals.Arrivals.mark_again.Goals as goal

pub load-word-requires : goal.load-word-requires
load-word-requires c =
    let words = ap (λ (z : TableId). z.words) c.self.view_is in
    let near : c.args.t < c.self.inside.table.shared.table_id.words = omega (arith, words, c.requires.place) in
    let last : latest c.pass.inside.seat.me.0.marks ≡ c.args.n = ap (λ (p : PassView). latest p.marks) c.pass.view_is ∙ c.requires.latest in (
      ap (λ (p : PassView). p.table) c.pass.view_is ∙ c.requires.table ∙ sym c.self.view_is,
      near,
      repeats _ _ _ _ _ (omega (arith, near, c.self.invariant.0)) (omega (arith, c.requires.number)) (omega (arith, ap (λ (p : PassView). p.parts) c.pass.view_is, c.requires.part)),
    )
