-- What holds of each node of every run: its path leads to its state, and its counters are of that path.
use Rattle.std.proofs.Common.{◌≡◌, ◌&&◌, not, ℕ, ◌<◌, ◌≤◌, Bool, true, false, cond, List, [], ◌∷◌, ◌++◌, Option, Some, None, length, nat_lt, refl, sym, ap, ◌∙◌, subst, inl, inr, arith, filter, count_by}
use Rattle.std.specs.List.{range_with_len}
use Rattle.std.proofs.lemmas.List.FromFn.{length-range_with_len}
use Rattle.std.proofs.lemmas.List.Sums.{count_by-le-length, length-filter}
use Rattle.wp_task.specs.declared.acts.Act.{Act}
use Rattle.wp_task.specs.Set.{has}
use Rattle.wp_task.specs.Task.{PlanningTask, act_at, applies, goal_counter, leads_to, result_of}
use Rattle.wp_task.proofs.Members.{In}
use Rattle.wp_task.proofs.PlanLemmas.{leads_to-step, length-result_of}
use Rattle.wp_relax.specs.RelaxedPlan.{added_by, is_added, relaxed_plan_of}
use Rattle.wp_count.specs.Counters.{after_base, base_atoms, base_of, in_some, is_base, relaxed_counter}
use Rattle.wp_plain.specs.declared.settings.Settings.{Settings}
use Rattle.wp_plain.specs.declared.ending.How.{How}
use Rattle.wp_plain.specs.Nodes.{Node, Path, path_at, extended, states_kept, left}
use Rattle.wp_plain.specs.Expansion.{path_counters, root_node, successors_of}
use Rattle.wp_plain.specs.Run.{Moment, opening, run, fresh_at, all_at}
use Rattle.wp_plain.specs.Numbers.{IsNumbered}
use Rattle.wp_plain.proofs.UnseenLemmas.{unseen-sub}
use Rattle.wp_plain.proofs.StepCases.{first_there, IsEnd, IsExpansion, at_run}
use Rattle.wp_plain.proofs.NextNodes.{IsChild, IsNext, next, next_cases, numbered-next, path-child, path-older, successor_by}
use Rattle.wp_plain.proofs.NextNodes.IsNext.{expanded_one, older, child}

-- ---- one action more
pub leads_to-push : (acts : List Act) (state last : List Bool) (plan : List ℕ) (a : ℕ) → leads_to acts state plan ≡ Some last →
    a < length acts → applies (act_at acts a) last ≡ true → leads_to acts state (plan ++ a ∷ []) ≡ Some (result_of (act_at acts a) last)
leads_to-push acts state last [] a leads within applied =
    let same : state ≡ last = cc in
    ap (λ s. leads_to acts s (a ∷ [])) same ∙ leads_to-step acts last a [] within applied
leads_to-push acts state last (b ∷ plan) a leads within applied =
    by (nat_lt b (length acts) && applies (act_at acts b) state) leads (leads_to-push acts (result_of (act_at acts b) state) last plan a) where
      by : (t : Bool) → elim t as (λ _. Option (List Bool)) [ true ↦ leads_to acts (result_of (act_at acts b) state) plan | false ↦ None ] ≡ Some last →
          (leads_to acts (result_of (act_at acts b) state) plan ≡ Some last → a < length acts → applies (act_at acts a) last ≡ true →
          leads_to acts (result_of (act_at acts b) state) (plan ++ a ∷ []) ≡ Some (result_of (act_at acts a) last)) →
          elim t as (λ _. Option (List Bool)) [ true ↦ leads_to acts (result_of (act_at acts b) state) (plan ++ a ∷ []) | false ↦ None ]
          ≡ Some (result_of (act_at acts a) last)
      by true is rest = rest is within applied
      by false is rest = absurd (cc)

-- ---- #r is at most the number of atoms
abbrev pub AreSized : ℕ → List (List Bool) → Type 0
AreSized n states = (s : List Bool) → In s states → length s ≡ n

base-short : (goals : List ℕ) (n : ℕ) (path : List (List Bool)) → AreSized n path → length (base_of goals path) ≤ n
base-short goals n [] sized = omega arith
base-short goals n (state ∷ before) sized =
    by (is_base goals state before) (base-short goals n before (λ s there. sized s (inr there))) where
      by : (b : Bool) → length (base_of goals before) ≤ n → length (cond b state (base_of goals before)) ≤ n
      by true rest = let here : length state ≡ n = sized state (inl refl) in omega arith
      by false rest = rest

added-few : (acts : List Act) (state : List Bool) (plan : Option (List ℕ)) → length (added_by acts state plan) ≤ length state
added-few acts state None = omega arith
added-few acts state (Some plan) =
    let test : ℕ → Bool = λ q. is_added acts plan q && not (has state q) in
    let kept : length (filter test (range_with_len 0 (length state))) ≡ count_by test (range_with_len 0 (length state)) =
    length-filter test (range_with_len 0 (length state)) in
    let few : count_by test (range_with_len 0 (length state)) ≤ length (range_with_len 0 (length state)) =
    count_by-le-length test (range_with_len 0 (length state)) in
    omega (arith, length-range_with_len 0 (length state))

counter-few : (task : PlanningTask) (n : ℕ) (path : List (List Bool)) → AreSized n path → relaxed_counter task path ≤ n
counter-few task n path sized =
    let base = base_of task.goals path in
    let atoms = base_atoms task path in
    let short : length base ≤ n = base-short task.goals n path sized in
    let few : length atoms ≤ length base = added-few task.acts base (relaxed_plan_of task.acts task.goals base) in
    let counted : count_by (in_some (after_base task.goals path)) atoms ≤ length atoms =
    count_by-le-length (in_some (after_base task.goals path)) atoms in
    omega arith

-- ---- nodes and their paths
pub record IsTraced (task : PlanningTask) (x : Node) (path : Path) : Type 0 where
  pub leads : leads_to task.acts task.init path.acts ≡ Some x.generated.state
  pub unmet : x.generated.counters.0 ≡ goal_counter task.goals x.generated.state
  pub few : x.generated.counters.1 ≤ length task.init
  pub size : length x.generated.state ≡ length task.init
  pub sizes : AreSized (length task.init) path.states

pub record AreTraced (task : PlanningTask) (m : Moment) : Type 0 where
  pub numbered : IsNumbered m
  pub each : (x : Node) → In x m.nodes → IsTraced task x (path_at m.paths x.generated.number)

traced_child : (task : PlanningTask) (settings : Settings) (m : Moment) (node : Node) → AreTraced task m → In node m.nodes →
    (y : Node) (born : IsChild (path_counters task) settings (all_at task m node) (path_at m.paths node.generated.number) (length m.nodes) (fresh_at task m node) y) →
    IsTraced task y (extended (path_at m.paths node.generated.number) born.from)
traced_child task settings m node traced there y born =
    let parent = traced.each node there in
    let path = path_at m.paths node.generated.number in
    let by = successor_by task.acts node.generated.state born.from
    (unseen-sub (λ x. x.state) (states_kept m.nodes) (successors_of task.acts node.generated.state) born.from born.there) in
    let state : y.generated.state ≡ born.from.state = ap (λ n. n.generated.state) born.is in
    let size : length born.from.state ≡ length task.init =
    ap length by.state_is ∙ (length-result_of (act_at task.acts born.from.act) node.generated.state ∙ parent.size) in
    let sizes : AreSized (length task.init) (born.from.state ∷ path.states) = λ s. elim [
      | inl same ↦ ap length same ∙ size
      | inr before ↦ parent.sizes s before
    ] in
    record {
      leads = leads_to-push task.acts task.init node.generated.state path.acts born.from.act parent.leads by.number by.applied
          ∙ ap (λ s. Some s) (sym (state ∙ by.state_is));
      unmet = ap (λ n. n.generated.counters.0) born.is ∙ ap (goal_counter task.goals) (sym state);
      few = subst (λ r. r ≤ length task.init) (sym (ap (λ n. n.generated.counters.1) born.is))
          (counter-few task (length task.init) (born.from.state ∷ path.states) sizes);
      size = ap length state ∙ size;
      sizes = sizes;
    }

pub traced-next : (task : PlanningTask) (settings : Settings) (m : Moment) (node : Node) (traced : AreTraced task m) (there : In node m.nodes) →
    AreTraced task (next task settings m node traced.numbered there)
traced-next task settings m node traced there =
    let after = next task settings m node traced.numbered there in
    record {
      numbered = numbered-next task settings m node traced.numbered there;
      each = λ y among. by y (next_cases task settings m node traced.numbered there y among);
    } where
      by : (y : Node) → IsNext task settings m node traced.numbered there y →
          IsTraced task y (path_at (next task settings m node traced.numbered there).paths y.generated.number)
      by y (expanded_one is) =
          let before : IsTraced task node (path_at (next task settings m node traced.numbered there).paths node.generated.number) =
          subst (IsTraced task node) (sym (path-older task settings m node traced.numbered there node there)) (traced.each node there) in
          let here : IsTraced task (left node) (path_at (next task settings m node traced.numbered there).paths node.generated.number) = record {
            leads = before.leads;
            unmet = before.unmet;
            few = before.few;
            size = before.size;
            sizes = before.sizes;
          } in
          subst (λ z. IsTraced task z (path_at (next task settings m node traced.numbered there).paths z.generated.number)) (sym is) here
      by y (older among) = subst (IsTraced task y) (sym (path-older task settings m node traced.numbered there y among)) (traced.each y among)
      by y (child born) =
          subst (IsTraced task y) (sym (path-child task settings m node traced.numbered there y born))
          (traced_child task settings m node traced there y born)

traced-opening : (task : PlanningTask) (settings : Settings) → AreTraced task (opening task settings)
traced-opening task settings =
    let path : Path = record { acts = []; states = task.init ∷ [] } in
    let sizes : AreSized (length task.init) (task.init ∷ []) = λ s. elim [ inl same ↦ ap length same | inr none ↦ absurd none ] in
    let root : IsTraced task (root_node task settings) path = record {
      leads = refl;
      unmet = refl;
      few = counter-few task (length task.init) (task.init ∷ []) sizes;
      size = refl;
      sizes = sizes;
    } in
    record {
      numbered = record { count = refl; numbers = (refl, tt) };
      each = λ x. elim [
        | inl same ↦ subst (λ z. IsTraced task z (path_at (path ∷ []) z.generated.number)) (sym same) root
        | inr none ↦ absurd none
      ];
    }

-- ---- runs
-- what each expansion keeps of moments whose nodes are traced
abbrev pub Keeps : PlanningTask → Settings → ℕ → (Moment → Type 0) → Type 0
Keeps task settings tuples P = (m : Moment) (node : Node) (traced : AreTraced task m) (there : In node m.nodes) → P m →
    IsExpansion task settings tuples m (next task settings m node traced.numbered there) node →
    P (next task settings m node traced.numbered there)

pub record IsEnded (task : PlanningTask) (settings : Settings) (tuples : ℕ) (P : Moment → Type 0) (end : How × Moment) : Type 0 where
  pub traced : AreTraced task end.1
  pub holds : P end.1
  pub reason : IsEnd task settings tuples end.1 end.0

pub ended : (task : PlanningTask) (settings : Settings) (tuples : ℕ) (P : Moment → Type 0) → P (opening task settings) → Keeps task settings tuples P →
    IsEnded task settings tuples P (run task settings tuples)
ended task settings tuples P start keep =
    let end = at_run task settings tuples (λ m. AreTraced task m × P m)
    (λ m later node holds x.
    let there = first_there m.nodes node x.first in
    let after = next task settings m node holds.0.numbered there in
    subst (λ n. AreTraced task n × P n) (sym x.next_is) (
      traced-next task settings m node holds.0 there,
      keep m node holds.0 there holds.1 (record { first = x.first; unmet = x.unmet; spare = x.spare; few = x.few; next_is = refl }),
    ))
    (traced-opening task settings, start) in
    record { traced = end.0.0; holds = end.0.1; reason = end.1 }
