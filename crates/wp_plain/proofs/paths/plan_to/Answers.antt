use Rattle.std.proofs.Common.{◌≡◌, ◌<◌, ◌++◌, Some, length, reverse, sym, ap, ◌∙◌, arith}
use Rattle.std.proofs.lemmas.List.{get_or_read}
use Rattle.wp_plain.specs.declared.explored.Way.{Way}
use Rattle.wp_plain.specs.Nodes.{path_at}
use Rattle.wp_plain.specs.Explored.{lists_of, no_way, way_at}
use Rattle.wp_plain.proofs.PathLemmas.{parent-before, acts-back, acts-root}
use Rattle.wp_plain.proofs.paths.plan_to.Goals as goal

pub loop-link-preserved : goal.loop-link-preserved
loop-link-preserved c =
    let ways = c.args.explored.now.ways.items in
    let lists = lists_of c.args.explored.now in
    let at = c.loop-link.at in
    let link = c.in-Some.link in
    let any = c.requires.reached in
    let inside : at < length ways = omega (arith, c.loop-link.invariant.within, any.2.way_each) in
    let read : c.index.result.now ≡ way_at ways at = get_or_read ways at c.index.result.now inside c.index.ensures no_way in
    let back : (way_at ways at).back ≡ Some link = ap (λ (way : Way). way.back) (sym read) ∙ c.in-Some.is in
    record {
      within = omega (arith, c.loop-link.invariant.within, parent-before any.0 any.1 lists at any.2 c.loop-link.invariant.within link back);
      left = λ task paths reached.
          ap (λ acts. (path_at paths link.parent).acts ++ reverse acts) c.in_ok-push.ensures.items
          ∙ (acts-back task paths lists at reached c.loop-link.invariant.within link c.loop-link.acts.items back
          ∙ c.loop-link.invariant.left task paths reached);
    }

pub returns : goal.returns
returns c task paths reached =
    let ways = c.args.explored.now.ways.items in
    let at = c.loop-link.at in
    let inside : at < length ways = omega (arith, c.loop-link.invariant.within, reached.way_each) in
    let read : c.index.result.now ≡ way_at ways at = get_or_read ways at c.index.result.now inside c.index.ensures no_way in
    c.of_vec.ensures
    ∙ (c.reverse.ensures.items
    ∙ (ap (λ acts. acts ++ reverse c.loop-link.acts.items)
    (sym (acts-root task paths (lists_of c.args.explored.now) at reached c.loop-link.invariant.within
    (λ link is. c.in_default.not-Some link (ap (λ (way : Way). way.back) read ∙ is))))
    ∙ c.loop-link.invariant.left task paths reached))
