use Rattle.std.proofs.Common.{◌≡◌, ◌-◌, ◌∙◌, length, arith}
use Rattle.std.specs.List.{count_by}
use Rattle.wp_plain.specs.declared.ending.Counts.{Counts}
use Rattle.wp_plain.specs.Nodes.{generated_in}
use Rattle.wp_plain.specs.Pairs.{pairs_in}
use Rattle.wp_commit.proofs.EndLemmas.{pairs-count}
use Rattle.wp_commit.proofs.ExpansionLemmas.{kept-count, kept-few}
use Rattle.wp_commit.proofs.searched.counts_of.Goals as goal

pub overflow_sub-result : goal.overflow_sub-result
overflow_sub-result c =
    let m = c.requires.3 in
    let holds = c.requires.4 in
    omega (arith, kept-few c.args.searched.now.nodes.kept m.nodes holds.nodes.nodes_are, holds.counts.kept, holds.counts.numbered)

pub returns : goal.returns
returns c task settings tables m holds open_are =
    let s = c.args.searched.now in
    let kept : s.kept ≡ count_by (λ n. n.kept) m.nodes = holds.counts.kept ∙ kept-count s.nodes.kept m.nodes holds.nodes.nodes_are in
    let pairs : c.args.pairs ≡ length (pairs_in (generated_in m.nodes)) = open_are ∙ pairs-count task settings s tables m holds in
    λ j. (let counts : Counts = record {
      expanded = holds.counts.expanded j;
      numbered = holds.counts.numbered j;
      kept = kept j;
      pruned = holds.counts.numbered j - kept j;
      repeats = holds.counts.repeats j;
      pairs = pairs j;
    } in counts)
