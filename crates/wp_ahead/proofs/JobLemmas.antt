-- Jobs of kept nodes.
use Rattle.std.proofs.Common.{ℕ, Bool, List, length, sym, ◌∙◌, ap, subst}
use Rattle.std.specs.List.{All}
use Rattle.std.proofs.lemmas.List.Elements.{All-weaker}
use Rattle.wp_task.specs.declared.track.Mark.{Mark}
use Rattle.wp_task.specs.Task.{PlanningTask}
use Rattle.wp_count.specs.Broods.{IsMarkOf}
use Rattle.wp_nodes.specs.KeptNodes.{Keeping}
use Rattle.wp_ahead.specs.Jobs.{Job, track_of, IsJobOf, CanWork}
use Rattle.wp_ahead.specs.Laws.{AreMarked}

can_work : (task : PlanningTask) (nodes : Keeping) → AreMarked task nodes → (job : Job) → IsJobOf nodes job → CanWork task job
can_work task nodes marked job of =
    let parts = of.parts in
    let at = marked parts.node parts.there in
    record {
      unworked = of.unworked;
      size = ap (λ (s : List Bool). length s) parts.state ∙ at.0;
      marked =
          subst (λ (track : List ℕ). IsMarkOf task job.state job.mark track) (sym parts.track)
          (subst (λ (mark : Mark). IsMarkOf task job.state mark (track_of nodes parts.node)) (sym parts.mark)
          (subst (λ (state : List Bool). IsMarkOf task state parts.node.mark (track_of nodes parts.node)) (sym parts.state) at.1));
    }

pub jobs_work : (task : PlanningTask) (nodes : Keeping) (jobs : List Job) → AreMarked task nodes → All (IsJobOf nodes) jobs → All (CanWork task) jobs
jobs_work task nodes jobs marked all = All-weaker (IsJobOf nodes) (CanWork task) (can_work task nodes marked) jobs all
