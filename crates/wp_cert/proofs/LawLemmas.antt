-- What an audit's yes means for plans, and what BFWS(f5) keeps.
use Rattle.std.specs.Prelude.{◌↔◌}
use Rattle.std.proofs.Common.{◌≡◌, ◌&&◌, ◌||◌, not, ℕ, ◌<◌, Bool, true, false, List, length, map, Option, Some, None, Contains, refl, sym, ap, ◌∙◌, subst, arith}
use Rattle.std.specs.List.{list_all}
use Rattle.std.proofs.lemmas.Bool.{both_ways, false_from_ne_true}
use Rattle.std.proofs.lemmas.List.FromFn.{length-map-range_with_len}
use Rattle.wp_task.specs.Set.{has, lists, atoms_in}
use Rattle.wp_task.specs.Task.{PlanningTask, IsTask, IsReachable, act_at, result_of, is_plan}
use Rattle.wp_task.proofs.Members.{In, Contains-from_In}
use Rattle.wp_lift.specs.Problem.{Lifting, Instance}
use Rattle.wp_lift.specs.Worlds.{among, is_valid}
use Rattle.wp_lift.specs.Formed.{IsFormed}
use Rattle.wp_ground.specs.Reached.{reached}
use Rattle.wp_ground.specs.Tasks.{task_of, instance_at}
use Rattle.wp_ground.specs.Laws.{PlansAreValid, ValidPlansAreNumbered, UnreachedGoalsHaveNoPlan}
use Rattle.wp_plain.specs.declared.ending.Ending.{Ending}
use Rattle.wp_plain.specs.declared.ending.How.TheVariants.{Emptied}
use Rattle.wp_plain.specs.Laws.{IsClosed, ClosedHasNoPlan, AreStatesKept}
use Rattle.wp_cert.specs.declared.answer.Audit.TheVariants.{Yes}
use Rattle.wp_cert.specs.Audits.{audit_of, states_of}
use Rattle.wp_cert.specs.Closing.{closed_states}
use Rattle.wp_cert.specs.Laws.{YesHasNoPlan, YesHasNoValidPlan, AreReachable, KeptStatesAreCertified}
use Rattle.wp_cert.proofs.AuditLemmas.{closed_from_yes, yes_from_closed, yes_states, yes_listed}
use Rattle.wp_cert.proofs.ReachableLemmas.{holds_of_reachable, reachable_in_closed, closed_are_reachable, none_are_many}

pub yes_has_no_plan : ClosedHasNoPlan → YesHasNoPlan
yes_has_no_plan none task cert closed plan =
    none task (states_of task.atoms cert) (closed_from_yes task (states_of task.atoms cert) (yes_states task cert closed)) plan

pub yes_has_no_valid_plan : ClosedHasNoPlan → PlansAreValid → ValidPlansAreNumbered → UnreachedGoalsHaveNoPlan → YesHasNoValidPlan
yes_has_no_valid_plan none valid numbered unreached lifted cert formed closed steps =
    by (list_all (among (reached lifted)) lifted.goals) refl where
      by : (t : Bool) → list_all (among (reached lifted)) lifted.goals ≡ t → is_valid lifted steps ≡ false
      by false is = unreached lifted formed is steps
      by true is = false_from_ne_true (is_valid lifted steps) (λ (holds : is_valid lifted steps ≡ true).
          let found = numbered lifted formed steps holds in
          both_ways (is_plan (task_of lifted) found.0) (yes_has_no_plan none (task_of lifted) cert closed found.0)
          ((valid lifted formed is found.0).1 (found.1, ap (is_valid lifted) found.2 ∙ holds)))

-- ---- BFWS(f5)
length-result : (task : PlanningTask) (s : List Bool) (a : ℕ) → length (result_of (act_at task.acts a) s) ≡ length s
length-result task s a =
    length-map-range_with_len (λ p. (has s p && not (lists (act_at task.acts a).del p)) || lists (act_at task.acts a).add p) 0 (length s)

pub reachable_sized : (task : PlanningTask) → IsTask task → (s : List Bool) → IsReachable task s → length s ≡ task.atoms
reachable_sized task fits s reached =
    holds_of_reachable task (λ t. length t ≡ task.atoms) (λ t a size within applied. length-result task t a ∙ size) fits.init_size s reached

pub kept_are_certified : KeptStatesAreCertified
kept_are_certified task ending kept fits are emptied = by (closed_states task ending.counts.kept) refl where
  closed : IsClosed task kept
  closed = are.closed emptied

  by : (o : Option (List (List Bool))) → closed_states task ending.counts.kept ≡ o →
      (states : List (List Bool)) × (closed_states task ending.counts.kept ≡ Some states)
      × ((s : List Bool) → Contains states s ↔ Contains kept s) × (audit_of task (map atoms_in states) ≡ Yes)
  by None is =
      let many : ending.counts.kept < length kept =
      none_are_many task ending.counts.kept kept is (λ s reached. reachable_in_closed task kept closed s reached) in
      absurd (omega (arith, many, are.count))
  by (Some states) is =
      let all = (closed_are_reachable task ending.counts.kept states is).0 in
      let same : (s : List Bool) → Contains states s ↔ Contains kept s =
      (λ s. ((λ there. reachable_in_closed task kept closed s ((all.each s).0 there)), (λ there. (all.each s).1 (are.reachable s there)))) in
      let closed_there : IsClosed task states = record {
        start = (same task.init).1 closed.start;
        closed = λ s a there within applied. (same (result_of (act_at task.acts a) s)).1 (closed.closed s a ((same s).0 there) within applied);
        unmet = λ s there. closed.unmet s ((same s).0 there);
      } in
      let sized : (s : List Bool) → In s states → length s ≡ task.atoms =
      (λ s there. reachable_sized task fits s ((all.each s).0 (Contains-from_In s states there))) in
      let found : (states : List (List Bool)) × (closed_states task ending.counts.kept ≡ Some states)
      × ((s : List Bool) → Contains states s ↔ Contains kept s) × (audit_of task (map atoms_in states) ≡ Yes) =
      (states, is, same, yes_listed task states sized (yes_from_closed task states closed_there)) in found
