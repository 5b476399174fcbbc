use Rattle.std.proofs.Common.{◌≡◌, length, ap, ◌∙◌, arith}
use Rattle.wp_succ.specs.Tree.{reached_by_count}
use Rattle.wp_succ.proofs.ReachedLemmas.{opened}
use Rattle.wp_succ.proofs.growing.Growing.open.Goals as goal

pub returns-clause-same : goal.returns-clause-same
returns-clause-same c = λ s.
    let it = c.args.self.now in
    let last : c.len-before.result ≡ length it.nodes.items = omega (arith, c.len-before.ensures, it.nodes.ok.0) in
    opened s (reached_by_count s it.nodes.items) it.way.items c.push.new.self.items
    (record { acts = c.replace-acts.result; before = c.len-before.result; atom = c.args.atom })
    it.acts.items c.replace-acts.new.dest.items (length it.nodes.items)
    c.in_ok-push.ensures.items (ap (λ v. v.items) c.replace-acts.ensures.value) last
    (ap (λ v. v.items) c.replace-acts.ensures.after ∙ c.new.ensures.items)
