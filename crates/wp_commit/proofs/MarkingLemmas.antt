-- Jobs that are worked one by one are all worked.
use Rattle.std.proofs.Common.{◌≡◌, ◌≢◌, ◌<◌, ◌++◌, ℕ, false, List, [], length, map, get_or, take, drop, sym, ap, ◌∙◌, subst, inl, inr, arith}
use Rattle.std.specs.List.{All}
use Rattle.std.proofs.Math.Seq.{take-append_seam}
use Rattle.std.proofs.lemmas.List.{ext_get_or, get_or-map, length-map}
use Rattle.wp_task.specs.Task.{PlanningTask}
use Rattle.wp_novel.specs.declared.birth.Pair.{Pair}
use Rattle.wp_novel.specs.NoveltyTables.{HomeView}
use Rattle.wp_novel.specs.Jobs.{JobView, worked_job}
use Rattle.wp_nodes.specs.KeptNodes.{Keeping}
use Rattle.wp_ahead.specs.declared.job.Outcome.TheVariants.{NotWorked, Made, Refused}
use Rattle.wp_ahead.specs.Jobs.{Job, job_brood, IsJobOf, IsWorked}
use Rattle.wp_ahead.specs.Laws.{WorkFits}
use Rattle.wp_commit.specs.Phases.{AreWorked, AreMade}

pub each_worked : (homes : List (Pair × HomeView)) (jobs worked : List JobView) → length worked ≡ length jobs →
    ((i : ℕ) (d : JobView) → i < length jobs → get_or worked i d ≡ worked_job homes (get_or jobs i d)) → worked ≡ map (worked_job homes) jobs
each_worked homes jobs worked count each =
    let none : JobView = record { births = []; passes = []; worked = false } in
    ext_get_or none worked (map (worked_job homes) jobs) (count ∙ sym (length-map jobs (worked_job homes)))
    (λ i within. let inside : i < length jobs = omega arith in each i none inside ∙ sym (get_or-map (worked_job homes) jobs i none none inside))

-- jobs of kept nodes that were worked have the broods of these nodes, or none
pub are-made : WorkFits → (task : PlanningTask) (nodes : Keeping) (old new : List Job) → All (IsJobOf nodes) old → AreWorked task old new → AreMade task nodes new
are-made law task nodes old new of worked = record {
  worked = λ i d within.
      let inside : i < length old = omega (arith, worked.count) in
      done (get_or old i d) (get_or new i d) (worked.each i d inside);
  fit = λ i d within.
      let inside : i < length old = omega (arith, worked.count) in
      law task nodes (get_or old i d) (get_or new i d) (of i d inside).parts (worked.each i d inside);
} where
  done : (job after : Job) → IsWorked task job after → after.outcome ≢ NotWorked
  done job after (inl made) same = let is : Made (job_brood task job) ≡ NotWorked = sym (ap (λ (j : Job). j.outcome) made) ∙ same in absurd (cc)
  done job after (inr refused) same = let is : Refused ≡ NotWorked = sym (ap (λ (j : Job). j.outcome) refused) ∙ same in absurd (cc)

-- what is written through a slice of a whole list is the list
pub written : {X : Type 0} (n : ℕ) (old new : List X) → length new ≡ n → take n (new ++ drop (length new) old) ≡ new
written n old new count = subst (λ k. take k (new ++ drop (length new) old) ≡ new) count (take-append_seam new (drop (length new) old))
