use Rattle.std.proofs.Common.{◌≡◌, ◌++◌, ℕ, [], ◌-◌, ◌<◌, ◌≤◌, suc, cond, length, sym, ap, ◌∙◌, subst, arith}
use Rattle.std.proofs.lemmas.List.{append-nil}
use Rattle.wp_task.specs.Set.{has}
use Rattle.wp_succ.specs.declared.tree.Node.{Node}
use Rattle.wp_succ.specs.Tree.{among, reached_by_count}
use Rattle.wp_succ.proofs.ReachedLemmas.{looked_at, left_before, reached_by_count-none}
use Rattle.wp_succ.proofs.tree.reached.Goals as goal

pub loop-left-preserved : goal.loop-left-preserved
loop-left-preserved c =
    let s = c.args.s.now in
    let nodes = c.args.nodes.now in
    let node = c.index-nodes-left.result in
    let k = c.loop-left.left - 1 in
    let size : c.loop-left.left ≡ suc k = omega (arith, c.loop-left-test.true) in
    let inside : k < length nodes = omega (arith, size, c.loop-left.invariant.within) in
    let low : node.before ≤ k = subst (λ (x : Node). x.before ≤ k) (sym c.index-nodes-left.is) (c.requires k node inside) in
    let goes : c.in_ok-left.left ≡ cond (has s node.atom) k node.before =
    c.in_ok-left.ensures.left ∙ ap (λ b. cond b k node.before) c.has.ensures in
    let finds : c.visit.new.found.items ≡ c.loop-left.found.items ++ cond (has s node.atom) node.acts.items [] =
    c.in_ok-left.ensures.found ∙ ap (λ b. c.loop-left.found.items ++ cond b node.acts.items []) c.has.ensures in
    let less : c.in_ok-left.left ≤ k = left_before (has s node.atom) k node.before c.in_ok-left.left goes low in
    record {
      within = omega (arith, less, inside);
      found = looked_at s nodes k node c.loop-left.left c.in_ok-left.left c.loop-left.found.items c.visit.new.found.items _
          c.requires inside c.index-nodes-left.is size finds goes c.loop-left.invariant.found;
    }

pub loop-left-smaller : goal.loop-left-smaller
loop-left-smaller c =
    let nodes = c.args.nodes.now in
    let node = c.index-nodes-left.result in
    let k = c.loop-left.left - 1 in
    let size : c.loop-left.left ≡ suc k = omega (arith, c.loop-left-test.true) in
    let inside : k < length nodes = omega (arith, size, c.loop-left.invariant.within) in
    let low : node.before ≤ k = subst (λ (x : Node). x.before ≤ k) (sym c.index-nodes-left.is) (c.requires k node inside) in
    let less : c.in_ok-left.left ≤ k = left_before c.has.result k node.before c.in_ok-left.left c.in_ok-left.ensures.left low in
    omega (arith, less, size)

pub returns : goal.returns
returns c =
    let lists = reached_by_count c.args.s.now c.args.nodes.now in
    let none : c.loop-left.left ≡ 0 = omega (arith, c.loop-left-test.false) in
    sym (append-nil c.loop-left.found.items)
    ∙ (ap (λ l. c.loop-left.found.items ++ l) (sym (reached_by_count-none c.args.s.now c.args.nodes.now))
    ∙ (ap (λ n. c.loop-left.found.items ++ among lists n) (sym none) ∙ c.loop-left.invariant.found))
