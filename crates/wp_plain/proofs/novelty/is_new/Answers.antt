use Rattle.std.proofs.Common.{◌&&◌, not, sym, ap, ◌∙◌}
use Rattle.std.specs.List.{list_all}
use Rattle.wp_task.specs.Set.{has}
use Rattle.wp_task.specs.Novelty.{is_earlier}
use Rattle.wp_plain.specs.Nodes.{generated_in}
use Rattle.wp_plain.proofs.ListLemmas.{list_any-map, list_all-not}
use Rattle.wp_plain.proofs.novelty.is_new.Goals as goal

pub returns : goal.returns
returns c =
    let x = c.args.x.now in
    let tuple = c.args.tuple.now in
    let nodes = c.args.nodes.now in
    ap not (c.some_makes_old.ensures ∙ sym (list_any-map (λ y. is_earlier x y && list_all (has y.state) tuple) (λ n. n.generated) nodes))
    ∙ sym (list_all-not (λ y. list_all (has y.state) tuple) (is_earlier x) (generated_in nodes))
