use Rattle.std.proofs.Common.{◌≡◌, ◌<◌, length, get_or, ap, sym, ◌∙◌, arith, length-set}
use Rattle.wp_relax.specs.Frontier.{Front}
use Rattle.wp_relax.proofs.FrontierLemmas.{offered}
use Rattle.wp_relax.proofs.frontier.Frontier.lower.Goals as goal

pub invariant_of-self-2 : goal.invariant_of-self-2
invariant_of-self-2 c =
    let costs = c.self.inside.costs.items in
    let is : costs ≡ c.args.self.now.costs = ap (λ (f : Front). f.costs) c.self.view_is in
    let size : length costs ≡ length c.args.self.now.costs = ap length is in
    let cost : get_or costs c.args.p 0 ≡ get_or c.args.self.now.costs c.args.p 0 = ap (λ l. get_or l c.args.p 0) is in
    let within : c.args.p < length costs = omega (arith, c.requires.atom) in (
      c.self.invariant.0 ∙ sym (length-set costs c.args.p c.args.price),
      offered costs c.self.inside.settled.items c.self.inside.waiting c.push.new.self
          c.args.p c.args.price c.self.invariant.1 within (omega (arith, c.requires.less)) c.in_ok-push.ensures.added,
    )
