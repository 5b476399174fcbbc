use Rattle.std.proofs.Common.{◌≡◌, sym, ap, ◌∙◌, subst}
use Rattle.wp_task.specs.Task.{PlanningTask, IsReachable}
use Rattle.wp_tuples.specs.Placing.{Placing}
use Rattle.wp_novel.specs.MarkedTuples.{AreCounted}
use Rattle.wp_novel.specs.NoveltyTables.{TablesOver}
use Rattle.wp_search_calls.proofs.shuttle.search_the_shuttle.Goals as goal

pub search_over-requires-clause-index : goal.search_over-requires-clause-index
search_over-requires-clause-index g c κs bounds =
    let index : c.new-tables.result.index ≡ c.args.index = ap (λ t. t.index) c.new-tables.ensures.value in
    record {
      atoms = ap (λ i. (g.P.Places.places i).atoms) index ∙ (c.requires.atoms ∙ sym (ap (λ (t : PlanningTask). t.atoms) c.in_ok-task.ensures));
      width = ap (λ i. (g.P.Places.places i).width) index ∙ c.requires.width;
      counted = λ state reachable. subst (λ i. AreCounted (g.P.Places.places i) state) (sym index)
          (c.requires.counted state (subst (λ (t : PlanningTask). IsReachable t state) c.in_ok-task.ensures reachable));
    }
