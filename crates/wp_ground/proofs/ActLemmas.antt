-- The actions of the task are the instances that hold, over numbers; and the task that they make fits together.
use Rattle.std.proofs.Common.{◌≡◌, ◌∙◌, ℕ, ◌+◌, ◌<◌, ◌≤◌, ◌&&◌, ◌==◌, not, Bool, true, false, cond, List, [], ◌∷◌, ◌++◌, length, map, filter, get_or, take, refl, sym, ap, subst, arith}
use Rattle.std.specs.Bool.{beq}
use Rattle.std.specs.List.{All, range_with_len}
use Rattle.std.specs.List.Sorted.{IsStrictlySortedBy}
use Rattle.std.specs.declared.cmp.Ordering.TheVariants.{Less}
use Rattle.std.specs.Ordering.{nat_cmp}
use Rattle.std.specs.Cmp.{nat_cmp_is}
use Rattle.std.proofs.lemmas.Bool.{eqb-true}
use Rattle.std.proofs.lemmas.List.{map_more, length-map}
use Rattle.std.proofs.lemmas.List.Elements.{All-map}
use Rattle.std.proofs.lemmas.List.FromFn.{fill_by_all}
use Rattle.std.proofs.lemmas.Map.Keys.{IsStrictlyIncreasing-from_sorted}
use Rattle.wp_task.specs.declared.acts.Act.{Act}
use Rattle.wp_task.specs.Set.{lists, set_of, AreAtoms}
use Rattle.wp_task.specs.Task.{IsAct, IsTask}
use Rattle.wp_task.proofs.Members.{In, In-filter_cases, list_any-at}
use Rattle.wp_lift.specs.declared.atoms.GroundAtom.{GroundAtom}
use Rattle.wp_lift.specs.declared.schemas.SlotEffect.{SlotEffect}
use Rattle.wp_lift.specs.Problem.{Lifting, Instance, schema_at, instances}
use Rattle.wp_lift.specs.Worlds.{among, grounded, all_hold, adds_of, dels_of}
use Rattle.wp_ground.specs.Tasks.{steps_of, atom_at, numbers_of, needs_of, act_of, task_with}
use Rattle.wp_ground.specs.Acts.{changed_atoms}
use Rattle.wp_ground.proofs.EnumerationLemmas.{All-from_members, In-range_cases}
use Rattle.wp_ground.proofs.InstanceLemmas.{In-instances_cases, one_of}
use Rattle.wp_ground.proofs.FollowLemmas.{has-map, number_cases, lists-numbers}
use Rattle.wp_ground.proofs.OrderLemmas.{Rises, in-all}
use Rattle.wp_ground.proofs.NumberLemmas.{Below, numbers-rise, filter-same}

pub acts-more : {X Y : Type 0} (f : X → Y) (xs : List X) (i : ℕ) (x : X) (y : Y) (old new : List Y) → i < length xs → x ≡ get_or xs i x → y ≡ f x
    → old ≡ map f (take i xs) → new ≡ old ++ y ∷ [] → new ≡ map f (take (i + 1) xs)
acts-more f xs i x y old new within read made is next =
    next ∙ (λ j. is j ++ (made ∙ ap f read) j ∷ []) ∙ sym (map_more f xs i x within)

-- ---- one action
is-true : (b : Bool) → beq b true ≡ b
is-true true = refl
is-true false = refl

is-false : (b : Bool) → beq b false ≡ not b
is-false true = refl
is-false false = refl

pub changed-are : (lifted : Lifting) (step : Instance) (add : Bool) (args : List ℕ) (effects : List SlotEffect) → args ≡ step.args
    → effects ≡ (schema_at lifted step.schema).effects → changed_atoms add args effects ≡ cond add (adds_of lifted step) (dels_of lifted step)
changed-are lifted step add args effects a e =
    (λ i. changed_atoms add (a i) (e i))
    ∙ elim add as (λ add. changed_atoms add step.args (schema_at lifted step.schema).effects ≡ cond add (adds_of lifted step) (dels_of lifted step)) [
      | true ↦ λ i. map (λ (effect : SlotEffect). grounded step.args effect.atom) (filter (λ (effect : SlotEffect). is-true effect.add i) (schema_at lifted step.schema).effects)
      | false ↦ λ i. map (λ (effect : SlotEffect). grounded step.args effect.atom) (filter (λ (effect : SlotEffect). is-false effect.add i) (schema_at lifted step.schema).effects)
    ]

filter-both : {X : Type 0} (s t : X → Bool) (xs : List X) → filter s (filter t xs) ≡ filter (λ x. t x && s x) xs
filter-both s t [] = refl
filter-both s t (x ∷ xs) =
    elim (t x) as (λ b. filter s (cond b (x ∷ filter t xs) (filter t xs)) ≡ cond (b && s x) (x ∷ filter (λ x. t x && s x) xs) (filter (λ x. t x && s x) xs)) [
      | true ↦ ap (λ l. cond (s x) (x ∷ l) l) (filter-both s t xs)
      | false ↦ filter-both s t xs
    ]

pub rest-are : (atoms : List GroundAtom) (s t : GroundAtom → Bool)
    → filter (λ (p : ℕ). not (lists (numbers_of atoms s) p)) (numbers_of atoms t) ≡ numbers_of atoms (λ (a : GroundAtom). t a && not (s a))
rest-are atoms s t =
    filter-both (λ (p : ℕ). not (lists (numbers_of atoms s) p)) (λ (p : ℕ). t (atom_at atoms p)) (range_with_len 0 (length atoms))
    ∙ filter-same (λ (p : ℕ). t (atom_at atoms p) && not (lists (numbers_of atoms s) p)) (λ (p : ℕ). t (atom_at atoms p) && not (s (atom_at atoms p)))
    (range_with_len 0 (length atoms))
    (λ p there. ap (λ b. t (atom_at atoms p) && not b) (lists-numbers atoms s p (let within = (In-range_cases p 0 (length atoms) there).1 in omega arith)))

pub act-is : (lifted : Lifting) (atoms : List GroundAtom) (step : Instance) (pre add deleted del : List ℕ)
    → pre ≡ numbers_of atoms (among (needs_of lifted step)) → add ≡ numbers_of atoms (among (adds_of lifted step))
    → deleted ≡ numbers_of atoms (among (dels_of lifted step)) → del ≡ filter (λ (p : ℕ). not (lists add p)) deleted
    → (let act : Act = record { pre = pre; add = add; del = del } in act) ≡ act_of lifted atoms step
act-is lifted atoms step pre add deleted del p a d is =
    let rest = is ∙ (λ i. filter (λ (p : ℕ). not (lists (a i) p)) (d i)) ∙ rest-are atoms (among (adds_of lifted step)) (among (dels_of lifted step)) in
    λ i. record { pre = p i; add = a i; del = rest i }

pub steps-there : (lifted : Lifting) (is_reached : GroundAtom → Bool) (steps : List Instance) → steps ≡ steps_of lifted is_reached
    → All (λ (step : Instance). step.schema < length lifted.schemas) steps
steps-there lifted is_reached steps is =
    All-from_members (λ (step : Instance). step.schema < length lifted.schemas) steps
    (λ step there.
    let from = In-filter_cases (λ (step : Instance). all_hold lifted step is_reached) (instances lifted) step (subst (λ (l : List Instance). In step l) is there) in
    (one_of lifted step (In-instances_cases lifted step from.0)).schema_there)

-- ---- the task fits together
rises-sorted : (numbers : List ℕ) → Rises Below numbers → IsStrictlySortedBy nat_cmp numbers
unfolding IsStrictlySortedBy
rises-sorted [] h = tt
rises-sorted (p ∷ numbers) h = (in-all (λ (q : ℕ). nat_cmp p q ≡ Less) numbers (λ q there. sym (nat_cmp_is p q Less (h.0 q there))), rises-sorted numbers h.1)

pub numbers-fit : (atoms : List GroundAtom) (test : GroundAtom → Bool) → AreAtoms (length atoms) (numbers_of atoms test)
numbers-fit atoms test = record {
  below = All-from_members (λ (p : ℕ). p < length atoms) (numbers_of atoms test) (λ p there. (number_cases atoms test p there).0);
  rising = IsStrictlyIncreasing-from_sorted (numbers_of atoms test) (rises-sorted (numbers_of atoms test) (numbers-rise atoms test));
}

numbers-apart : (atoms : List GroundAtom) (s t : GroundAtom → Bool) (p : ℕ) → lists (numbers_of atoms s) p ≡ true
    → lists (numbers_of atoms (λ (a : GroundAtom). t a && not (s a))) p ≡ false
numbers-apart atoms s t p h =
    let found = list_any-at (λ (q : ℕ). q == p) (numbers_of atoms s) h in
    let same : found.0 ≡ p = eqb-true found.0 p found.2 in
    let number = number_cases atoms s p (subst (λ (q : ℕ). In q (numbers_of atoms s)) same found.1) in
    lists-numbers atoms (λ (a : GroundAtom). t a && not (s a)) p number.0
    ∙ ap (λ b. t (atom_at atoms p) && not b) number.1 ∙ and-false (t (atom_at atoms p))
  where
    and-false : (b : Bool) → (b && false) ≡ false
    and-false true = refl
    and-false false = refl

pub act-fits : (lifted : Lifting) (atoms : List GroundAtom) (step : Instance) → IsAct (length atoms) (act_of lifted atoms step)
act-fits lifted atoms step = record {
  needs = numbers-fit atoms (among (needs_of lifted step));
  adds = numbers-fit atoms (among (adds_of lifted step));
  deletes = numbers-fit atoms (λ (a : GroundAtom). among (dels_of lifted step) a && not (among (adds_of lifted step) a));
  apart = numbers-apart atoms (among (adds_of lifted step)) (among (dels_of lifted step));
}

pub set-of-numbers : (atoms : List GroundAtom) (test : GroundAtom → Bool) → set_of (numbers_of atoms test) (length atoms) ≡ map test atoms
set-of-numbers atoms test =
    sym (fill_by_all (lists (numbers_of atoms test)) (map test atoms) (length atoms) false (length-map atoms test)
    (λ p within. has-map atoms test p within ∙ sym (lists-numbers atoms test p within)))

pub task-fits : (lifted : Lifting) (atoms : List GroundAtom) (steps : List Instance) → length atoms ≤ 65536 → length steps ≤ 1048576
    → IsTask (task_with lifted atoms steps)
task-fits lifted atoms steps few_atoms few_steps = record {
  few_atoms = few_atoms;
  few_acts = let same = length-map steps (act_of lifted atoms) in omega arith;
  init_size = length-map atoms (among lifted.opening);
  goal_atoms = numbers-fit atoms (among lifted.goals);
  act_atoms = All-map (IsAct (length atoms)) (act_of lifted atoms) steps (λ k d within. act-fits lifted atoms (get_or steps k d));
}
