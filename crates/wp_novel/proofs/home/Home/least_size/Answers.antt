use Rattle.std.proofs.Common.{◌≡◌, ◌<◌, ◌≤◌, ◌^◌, ℕ, rules, sym, ap, ◌∙◌, arith}
use Rattle.wp_novel.proofs.HeldLemmas.{size_unheld}
use Rattle.wp_novel.proofs.home.Home.least_size.Goals as goal

pub returns-clause-size : goal.returns-clause-size
returns-clause-size c = λ index apart width size counted earlier.
    let word : c.args.birth.now.node.number < 2 ^ 64 = search rules in
    size_unheld index c.args.self.now c.args.birth.now width size counted (sym c.holds.ensures ∙ c.if-holds.false) apart.width.0 word
