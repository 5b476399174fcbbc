-- What a node keeps of its path, at a base and after one.
use Rattle.std.proofs.Common.{◌≡◌, ◌<◌, ◌+◌, ◌&&◌, ◌||◌, ◌∷◌, [], not, ℕ, Bool, true, false, cond, Option, None, Some, List, length, replicate, get_or, refl, sym, ap, ◌∙◌, subst, ⊎_elim, arith}
use Rattle.std.specs.Prelude.{nat_lt}
use Rattle.std.specs.List.{filter, range_with_len}
use Rattle.std.specs.List.Sorted.{IsStrictlyIncreasing}
use Rattle.std.proofs.Math.Bool.{and_comm, and-false}
use Rattle.std.proofs.lemmas.Bool.{cases_Bool, and_parts, both_ways}
use Rattle.std.proofs.lemmas.List.{length-replicate}
use Rattle.std.proofs.lemmas.List.FromFn.{get_or-range_with_len, length-range_with_len, length-map-range_with_len}
use Rattle.std.proofs.lemmas.List.Kept.{IsStrictlyIncreasing-filter}
use Rattle.std.proofs.lemmas.List.Sums.{length-filter}
use Rattle.wp_task.specs.declared.acts.Act.{Act}
use Rattle.wp_task.specs.declared.track.Mark.{Mark}
use Rattle.wp_task.specs.Set.{has, lists, atoms_in}
use Rattle.wp_task.specs.Task.{PlanningTask, goal_counter}
use Rattle.wp_task.proofs.SetLemmas.{has-replicate}
use Rattle.wp_relax.specs.RelaxedPlan.{is_added, added_by, relaxed_plan_of, relaxed_atoms_of}
use Rattle.wp_count.specs.declared.brood.Child.{Child}
use Rattle.wp_count.specs.Counters.{is_base, base_of, after_base, in_some, base_atoms}
use Rattle.wp_count.specs.Broods.{with_achieved, base_child, later_child, child_of}
use Rattle.wp_count.specs.Laws.{IsMarked, HasCounters, IsEvaluated, mark_of, track_after}
use Rattle.wp_count.proofs.AtomLemmas.{length-atoms_in, lists-filter, none_in, has-with_achieved}

-- ---- R rises
range_rises : (n : ℕ) → IsStrictlyIncreasing (range_with_len 0 n)
range_rises n = λ k within.
    let short : k + 1 < n = omega (arith, length-range_with_len 0 n) in
    let here : get_or (range_with_len 0 n) k 0 ≡ 0 + k = get_or-range_with_len 0 n k 0 (omega arith) in
    let next : get_or (range_with_len 0 n) (k + 1) 0 ≡ 0 + (k + 1) = get_or-range_with_len 0 n (k + 1) 0 short in
    omega arith

added_by-rises : (acts : List Act) (state : List Bool) (plan : Option (List ℕ)) → IsStrictlyIncreasing (added_by acts state plan)
added_by-rises acts state None = λ k within. absurd (omega arith)
added_by-rises acts state (Some plan) =
    IsStrictlyIncreasing-filter (λ q. is_added acts plan q && not (has state q)) (range_with_len 0 (length state)) (range_rises (length state))

pub base_atoms-rise : (task : PlanningTask) (path : List (List Bool)) → IsStrictlyIncreasing (base_atoms task path)
base_atoms-rise task path =
    let base = base_of task.goals path in
    added_by-rises task.acts base (relaxed_plan_of task.acts task.goals base)

-- ---- a mark counts what its path does
pub mark_counts : (task : PlanningTask) (state : List Bool) (before : List (List Bool)) (mark : Mark) (track : List ℕ) →
    IsMarked task state before mark track → HasCounters task state before mark.g mark.r
mark_counts task state before mark track m =
    let after = after_base task.goals (state ∷ before) in
    let atoms = base_atoms task (state ∷ before) in
    let same : (q : ℕ) → has mark.got q ≡ lists (filter (in_some after) atoms) q =
    λ q. m.achieved q
    ∙ (ap (λ (l : List ℕ). lists l q && in_some after q) m.base
    ∙ (and_comm (lists atoms q) (in_some after q)
    ∙ sym (lists-filter (in_some after) atoms q))) in
    record {
      unmet = m.fits.unmet;
      relaxed =
          m.fits.count
          ∙ (length-atoms_in mark.got (filter (in_some after) atoms)
          (IsStrictlyIncreasing-filter (in_some after) atoms (base_atoms-rise task (state ∷ before))) same
          ∙ length-filter (in_some after) atoms);
    }

-- ---- a base is marked with nothing achieved
pub base_marked : (task : PlanningTask) (state : List Bool) (before : List (List Bool)) (number : ℕ) →
    is_base task.goals state before ≡ true → length state ≡ task.atoms →
    IsMarked task state before
    (record { g = goal_counter task.goals state; r = 0; track = number; got = replicate task.atoms false })
    (relaxed_atoms_of task.acts task.goals state)
base_marked task state before number base size =
    let track = relaxed_atoms_of task.acts task.goals state in
    record {
      size = size;
      fits = record {
        unmet = refl;
        size = length-replicate task.atoms false;
        tracked = λ p there. absurd (both_ways (has (replicate task.atoms false) p) (has-replicate task.atoms p) there);
        count = sym (none_in task.atoms);
      };
      base = ap (λ b. relaxed_atoms_of task.acts task.goals (cond b state (base_of task.goals before))) (sym base);
      achieved = λ p.
          has-replicate task.atoms p
          ∙ sym (ap (λ b. lists track p && in_some (cond b [] (state ∷ after_base task.goals before)) p) base
          ∙ and-false (lists track p));
    }

-- ---- a node after the base has its parent's atoms and those of its own state
joined : (l a h : Bool) → ((l && a) || (l && h)) ≡ (l && (h || a))
joined true true true = refl
joined true true false = refl
joined true false true = refl
joined true false false = refl
joined false a h = refl

pub later_marked : (task : PlanningTask) (state : List Bool) (before : List (List Bool)) (mark : Mark) (track : List ℕ) →
    IsMarked task state before mark track →
    (next : List Bool) (number : ℕ) → length next ≡ task.atoms → is_base task.goals next (state ∷ before) ≡ false →
    IsMarked task next (state ∷ before)
    (record {
      g = goal_counter task.goals next;
      r = length (atoms_in (with_achieved mark.got track next));
      track = number;
      got = with_achieved mark.got track next;
    })
    track
later_marked task state before mark track m next number size later =
    let after = after_base task.goals (state ∷ before) in
    let same : length next ≡ length mark.got = size ∙ sym m.fits.size in
    let achieved : (p : ℕ) → has (with_achieved mark.got track next) p ≡ (lists track p && in_some (after_base task.goals (next ∷ state ∷ before)) p) =
    λ p. has-with_achieved mark.got track next same p
    ∙ (ap (λ b. b || (lists track p && has next p)) (m.achieved p)
    ∙ (joined (lists track p) (in_some after p) (has next p)
    ∙ ap (λ b. lists track p && in_some (cond b [] (next ∷ after)) p) (sym later))) in
    record {
      size = size;
      fits = record {
        unmet = refl;
        size = length-map-range_with_len (λ p. has mark.got p || (lists track p && has next p)) 0 (length mark.got) ∙ m.fits.size;
        tracked = λ p there.
            (and_parts (lists track p) (in_some (after_base task.goals (next ∷ state ∷ before)) p) (sym (achieved p) ∙ there)).0;
        count = refl;
      };
      base =
          m.base
          ∙ ap (λ b. relaxed_atoms_of task.acts task.goals (cond b next (base_of task.goals (state ∷ before)))) (sym later);
      achieved = achieved;
    }

-- ---- a child of a marked node
evaluated : (task : PlanningTask) (path : List (List Bool)) (track : List ℕ) (child : Child) →
    ((number : ℕ) → IsMarked task child.state path (mark_of child number) (track_after track child.fresh)) →
    IsEvaluated task path track child
evaluated task path track child marked = record {
  counters = mark_counts task child.state path (mark_of child 0) (track_after track child.fresh) (marked 0);
  marked = marked;
}

pub child_evaluated : (task : PlanningTask) (state : List Bool) (before : List (List Bool)) (mark : Mark) (track : List ℕ) →
    IsMarked task state before mark track → (a : ℕ) (next : List Bool) → length next ≡ task.atoms →
    IsEvaluated task (state ∷ before) track (child_of task mark track a next)
child_evaluated task state before mark track m a next size =
    let falls = nat_lt (goal_counter task.goals next) mark.g in
    let as_base : is_base task.goals next (state ∷ before) ≡ falls =
    ap (nat_lt (goal_counter task.goals next)) (sym m.fits.unmet) in
    let first = base_child task a next in
    let other = later_child task a next (with_achieved mark.got track next) in
    ⊎_elim
    (λ (fell : falls ≡ true).
    subst (IsEvaluated task (state ∷ before) track) (ap (λ b. cond b first other) (sym fell))
    (evaluated task (state ∷ before) track first
    (λ number. base_marked task next (state ∷ before) number (as_base ∙ fell) size)))
    (λ (stayed : falls ≡ false).
    subst (IsEvaluated task (state ∷ before) track) (ap (λ b. cond b first other) (sym stayed))
    (evaluated task (state ∷ before) track other
    (λ number. later_marked task state before mark track m next number size (as_base ∙ stayed))))
    (cases_Bool falls)
