use Rattle.std.proofs.Common.{◌++◌, length, sym, ap, ◌∙◌}
use Rattle.wp_succ.specs.Tree.{times, among, reached_by_count}
use Rattle.wp_succ.specs.Growing.{reached_along}
use Rattle.wp_succ.proofs.NeedLemmas.{serves-same}
use Rattle.wp_succ.proofs.tree.Tree.of.Goals as goal

pub tree_of-requires : goal.tree_of-requires
tree_of-requires c =
    let grown = c.in_ok-nodes.field-0 in
    record {
      linked = c.in_ok-nodes.ensures.growing.linked;
      whole = λ s a.
          let lists = reached_by_count s grown.nodes.items in
          ap (λ way. times (reached_along s lists way (grown.acts.items ++ among lists (length grown.nodes.items))) a) (sym c.in_ok-nodes.ensures.closed)
          ∙ c.in_ok-nodes.ensures.whole s a;
    }

pub returns : goal.returns
returns c = serves-same c.tree_of.result c.args.task.now.acts c.tree_of.ensures
