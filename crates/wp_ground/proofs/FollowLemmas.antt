-- A plan of the task and the plan of its instances go side by side: the state of a world has the flag of each numbered atom.
use Rattle.std.proofs.Common.{◌≡◌, ℕ, ◌<◌, ◌==◌, ◌||◌, ◌&&◌, nat_lt, not, Bool, true, false, Option, None, List, [], ◌∷◌, length, map, get_or, refl, sym, ◌∙◌, ap, subst, ⊎_elim, arith}
use Rattle.std.specs.List.{AllByRecursion, list_all, range_with_len}
use Rattle.std.proofs.lemmas.Bool.{cases_Bool, both_ways, and_parts, and_from, or_cases, or_left, ltb-true, eq-eqb, eqb-true}
use Rattle.std.proofs.lemmas.List.{get_or-map, length-map}
use Rattle.std.proofs.lemmas.List.FromFn.{fill_by_all}
use Rattle.wp_lift.specs.declared.atoms.GroundAtom.{GroundAtom}
use Rattle.wp_lift.specs.declared.schemas.SlotCond.{SlotCond}
use Rattle.wp_lift.specs.declared.schemas.SlotCond.TheVariants.{Atom, Same, Differ}
use Rattle.wp_lift.specs.Problem.{Lifting, Instance, schema_at, instances}
use Rattle.wp_lift.specs.Worlds.{among, object_in, grounded, holds, all_hold, adds_of, dels_of, after, is_instance, is_valid_from}
use Rattle.wp_lift.specs.Formed.{IsFormed}
use Rattle.wp_task.specs.declared.acts.Act.{Act}
use Rattle.wp_task.specs.Set.{has, lists}
use Rattle.wp_task.specs.Task.{act_at, applies, result_of, leads_to, has_goals}
use Rattle.wp_task.proofs.PlanLemmas.{leads_to-step}
use Rattle.wp_task.proofs.Members.{In, In-filter, In-filter_cases, list_all-at, list_all-from, list_any-at, list_any-from}
use Rattle.wp_ground.specs.Tasks.{changes, atoms_of, steps_of, atom_at, numbers_of, needs_in, needs_of, act_of}
use Rattle.wp_ground.proofs.EnumerationLemmas.{place_of, In-get, In-range, In-range_cases}
use Rattle.wp_ground.proofs.InstanceLemmas.{In-instances, In-instances_cases, delete_changes}
use Rattle.wp_ground.proofs.OriginLemmas.{IsReach}
use Rattle.wp_ground.proofs.SetLemmas.{Within, among-from, among-in, all_hold-more}

-- ---- flags and numbers
same_from_both : (a b : Bool) → (a ≡ true → b ≡ true) → (b ≡ true → a ≡ true) → a ≡ b
same_from_both true b h k = sym (h refl)
same_from_both false true h k = k refl
same_from_both false false h k = refl

abbrev no_atom : GroundAtom
no_atom = record { pred = 0; args = [] }

pub has-map : (atoms : List GroundAtom) (world : GroundAtom → Bool) (p : ℕ) → p < length atoms → has (map world atoms) p ≡ world (atom_at atoms p)
has-map atoms world p h = get_or-map world atoms p _ false h

pub number_there : (atoms : List GroundAtom) (test : GroundAtom → Bool) (p : ℕ) → p < length atoms → test (atom_at atoms p) ≡ true → In p (numbers_of atoms test)
number_there atoms test p h passes =
    In-filter (λ (p : ℕ). test (atom_at atoms p)) (range_with_len 0 (length atoms)) p (In-range p 0 (length atoms) (omega arith) (omega (arith, h))) passes

pub number_cases : (atoms : List GroundAtom) (test : GroundAtom → Bool) (p : ℕ) → In p (numbers_of atoms test) → (p < length atoms) × (test (atom_at atoms p) ≡ true)
number_cases atoms test p h =
    let found = In-filter_cases (λ (p : ℕ). test (atom_at atoms p)) (range_with_len 0 (length atoms)) p h in
    let range = In-range_cases p 0 (length atoms) found.0 in
    (omega (arith, range.1), found.1)

pub lists-numbers : (atoms : List GroundAtom) (test : GroundAtom → Bool) (p : ℕ) → p < length atoms → lists (numbers_of atoms test) p ≡ test (atom_at atoms p)
lists-numbers atoms test p h =
    same_from_both (lists (numbers_of atoms test) p) (test (atom_at atoms p))
    (λ listed.
    let found = list_any-at (λ (q : ℕ). q == p) (numbers_of atoms test) listed in
    let same : found.0 ≡ p = eqb-true found.0 p found.2 in
    subst (λ (q : ℕ). test (atom_at atoms q) ≡ true) same (number_cases atoms test found.0 found.1).1)
    (λ passes. list_any-from (λ (q : ℕ). q == p) (numbers_of atoms test) p (number_there atoms test p h passes) (eq-eqb p p refl))

-- ---- worlds along a plan
-- the world has reached atoms alone, and all of those that never change
pub record Follows (lifted : Lifting) (is_reached world : GroundAtom → Bool) : Type 0 where
  pub within : Within world is_reached
  pub keeps : (a : GroundAtom) → is_reached a ≡ true → changes lifted a.pred ≡ false → world a ≡ true

-- the state has the numbers of reached atoms exactly where the world has these atoms
wants_same : (lifted : Lifting) (is_reached world : GroundAtom → Bool) → IsReach lifted is_reached → Follows lifted is_reached world
    → (wanted : List GroundAtom) → ((a : GroundAtom) → In a wanted → is_reached a ≡ true)
    → list_all (has (map world (atoms_of lifted is_reached))) (numbers_of (atoms_of lifted is_reached) (among wanted)) ≡ list_all world wanted
wants_same lifted is_reached world reach follows wanted there =
    let atoms = atoms_of lifted is_reached in
    let numbers = numbers_of atoms (among wanted) in
    same_from_both (list_all (has (map world atoms)) numbers) (list_all world wanted)
    (λ all. list_all-from world wanted (λ a h. ⊎_elim
    (λ (changing : changes lifted a.pred ≡ true).
    let found = place_of no_atom atoms a (reach.numbered a (there a h) changing) in
    let p = found.0 in
    let same : atom_at atoms p ≡ a = found.2 in
    let number : In p numbers = number_there atoms (among wanted) p found.1 (ap (among wanted) same ∙ among-from wanted a h) in
    ap world (sym same) ∙ sym (has-map atoms world p found.1) ∙ list_all-at (has (map world atoms)) numbers all p number)
    (λ (never : changes lifted a.pred ≡ false). follows.keeps a (there a h) never)
    (cases_Bool (changes lifted a.pred))))
    (λ all. list_all-from (has (map world atoms)) numbers (λ p h.
    let found = number_cases atoms (among wanted) p h in
    has-map atoms world p found.0 ∙ list_all-at world wanted all (atom_at atoms p) (among-in wanted (atom_at atoms p) found.1)))

-- ---- conditions
conds_same : (args : List ℕ) (is_reached world : GroundAtom → Bool) (conds : List SlotCond) → list_all (holds args is_reached) conds ≡ true
    → list_all (holds args world) conds ≡ list_all world (needs_in args conds)
conds_same args is_reached world [] h = refl
conds_same args is_reached world (Atom atom ∷ conds) h =
    ap (λ b. world (grounded args atom) && b)
    (conds_same args is_reached world conds (and_parts (is_reached (grounded args atom)) (list_all (holds args is_reached) conds) h).1)
conds_same args is_reached world (Same a b ∷ conds) h =
    let parts = and_parts (object_in args a == object_in args b) (list_all (holds args is_reached) conds) h in
    ap (λ t. t && list_all (holds args world) conds) parts.0 ∙ conds_same args is_reached world conds parts.1
conds_same args is_reached world (Differ a b ∷ conds) h =
    let parts = and_parts (not (object_in args a == object_in args b)) (list_all (holds args is_reached) conds) h in
    ap (λ t. t && list_all (holds args world) conds) parts.0 ∙ conds_same args is_reached world conds parts.1

needs_reached : (args : List ℕ) (is_reached : GroundAtom → Bool) (conds : List SlotCond) → list_all (holds args is_reached) conds ≡ true
    → (a : GroundAtom) → In a (needs_in args conds) → is_reached a ≡ true
needs_reached args is_reached [] h a there = absurd there
needs_reached args is_reached (Atom atom ∷ conds) h a there =
    let parts = and_parts (is_reached (grounded args atom)) (list_all (holds args is_reached) conds) h in
    ⊎_elim
    (λ (same : a ≡ grounded args atom). ap is_reached same ∙ parts.0)
    (λ (later : In a (needs_in args conds)). needs_reached args is_reached conds parts.1 a later)
    there
needs_reached args is_reached (Same x y ∷ conds) h a there =
    needs_reached args is_reached conds (and_parts (object_in args x == object_in args y) (list_all (holds args is_reached) conds) h).1 a there
needs_reached args is_reached (Differ x y ∷ conds) h a there =
    needs_reached args is_reached conds (and_parts (not (object_in args x == object_in args y)) (list_all (holds args is_reached) conds) h).1 a there

applies_same : (lifted : Lifting) (is_reached world : GroundAtom → Bool) → IsReach lifted is_reached → Follows lifted is_reached world
    → (step : Instance) → all_hold lifted step is_reached ≡ true
    → applies (act_of lifted (atoms_of lifted is_reached) step) (map world (atoms_of lifted is_reached)) ≡ all_hold lifted step world
applies_same lifted is_reached world reach follows step held =
    let conds = (schema_at lifted step.schema).conds in
    wants_same lifted is_reached world reach follows (needs_of lifted step) (needs_reached step.args is_reached conds held)
    ∙ sym (conds_same step.args is_reached world conds held)

-- ---- results
deletes_less_adds : (w d a : Bool) → ((w && not d) || a) ≡ ((w && not (d && not a)) || a)
deletes_less_adds true true true = refl
deletes_less_adds true true false = refl
deletes_less_adds true false true = refl
deletes_less_adds true false false = refl
deletes_less_adds false true true = refl
deletes_less_adds false true false = refl
deletes_less_adds false false true = refl
deletes_less_adds false false false = refl

result_same : (lifted : Lifting) (atoms : List GroundAtom) (world : GroundAtom → Bool) (step : Instance)
    → result_of (act_of lifted atoms step) (map world atoms) ≡ map (after lifted step world) atoms
result_same lifted atoms world step =
    let act = act_of lifted atoms step in
    let state = map world atoms in
    let dels = dels_of lifted step in
    let adds = adds_of lifted step in
    let deleting : GroundAtom → Bool = λ a. among dels a && not (among adds a) in
    let size : length state ≡ length atoms = length-map atoms world in
    sym (fill_by_all (λ (p : ℕ). (has state p && not (lists act.del p)) || lists act.add p) (map (after lifted step world) atoms) (length state) false
    (length-map atoms (after lifted step world) ∙ sym size)
    (λ p h.
    let within : p < length atoms = omega (arith, h, size) in
    let a = atom_at atoms p in
    get_or-map (after lifted step world) atoms p _ false within
    ∙ deletes_less_adds (world a) (among dels a) (among adds a)
    ∙ (λ i. (sym (has-map atoms world p within) i && not (sym (lists-numbers atoms deleting p within) i)) || sym (lists-numbers atoms (among adds) p within) i)))

after_follows : (lifted : Lifting) (is_reached world : GroundAtom → Bool) → IsReach lifted is_reached → Follows lifted is_reached world
    → (step : Instance) → is_instance lifted step ≡ true → all_hold lifted step world ≡ true → Follows lifted is_reached (after lifted step world)
after_follows lifted is_reached world reach follows step one held = record {
  within = record {
    each = λ a h. ⊎_elim
        (λ (stays : (world a && not (among (dels_of lifted step) a)) ≡ true). follows.within.each a (and_parts (world a) (not (among (dels_of lifted step) a)) stays).0)
        (λ (added : among (adds_of lifted step) a ≡ true).
        reach.closed.adds step one (all_hold-more lifted step world is_reached follows.within held) a added)
        (or_cases (world a && not (among (dels_of lifted step) a)) (among (adds_of lifted step) a) h);
  };
  keeps = λ a h never.
      or_left (world a && not (among (dels_of lifted step) a)) (among (adds_of lifted step) a)
      (and_from (world a) (not (among (dels_of lifted step) a)) (follows.keeps a h never)
      (⊎_elim
      (λ (deleted : among (dels_of lifted step) a ≡ true).
      absurd (both_ways (changes lifted a.pred) never (delete_changes lifted step one a (among-in (dels_of lifted step) a deleted))))
      (λ (stays : among (dels_of lifted step) a ≡ false). ap not stays)
      (cases_Bool (among (dels_of lifted step) a))));
}

pub opening_follows : (lifted : Lifting) (is_reached : GroundAtom → Bool) → IsReach lifted is_reached → Follows lifted is_reached (among lifted.opening)
opening_follows lifted is_reached reach = record { within = record { each = reach.closed.opens }; keeps = reach.fixed }

-- ---- actions and their instances
abbrev pub step_at : List Instance → ℕ → Instance
step_at steps a = get_or steps a (let none : Instance = record { schema = 0; args = [] } in none)

step_there : (lifted : Lifting) (is_reached : GroundAtom → Bool) (a : ℕ) → a < length (steps_of lifted is_reached)
    → (is_instance lifted (step_at (steps_of lifted is_reached) a) ≡ true) × (all_hold lifted (step_at (steps_of lifted is_reached) a) is_reached ≡ true)
step_there lifted is_reached a h =
    let step = step_at (steps_of lifted is_reached) a in
    let found = In-filter_cases (λ (step : Instance). all_hold lifted step is_reached) (instances lifted) step (In-get _ (steps_of lifted is_reached) a h) in
    (In-instances_cases lifted step found.0, found.1)

abbrev pub acts_of : Lifting → (GroundAtom → Bool) → List Act
acts_of lifted is_reached = map (act_of lifted (atoms_of lifted is_reached)) (steps_of lifted is_reached)

act_there : (lifted : Lifting) (is_reached : GroundAtom → Bool) (a : ℕ) → a < length (steps_of lifted is_reached)
    → act_at (acts_of lifted is_reached) a ≡ act_of lifted (atoms_of lifted is_reached) (step_at (steps_of lifted is_reached) a)
act_there lifted is_reached a h = get_or-map (act_of lifted (atoms_of lifted is_reached)) (steps_of lifted is_reached) a _ _ h

acts_count : (lifted : Lifting) (is_reached : GroundAtom → Bool) → length (acts_of lifted is_reached) ≡ length (steps_of lifted is_reached)
acts_count lifted is_reached = length-map (steps_of lifted is_reached) (act_of lifted (atoms_of lifted is_reached))

-- ---- plans
abbrev pub goals_of : Lifting → (GroundAtom → Bool) → List ℕ
goals_of lifted is_reached = numbers_of (atoms_of lifted is_reached) (among lifted.goals)

-- the action applies in the state, and leads to the state of the world after its instance
pub record GoesWith (lifted : Lifting) (is_reached world : GroundAtom → Bool) (a : ℕ) : Type 0 where
  pub applying : applies (act_at (acts_of lifted is_reached) a) (map world (atoms_of lifted is_reached))
      ≡ all_hold lifted (step_at (steps_of lifted is_reached) a) world
  pub leading : result_of (act_at (acts_of lifted is_reached) a) (map world (atoms_of lifted is_reached))
      ≡ map (after lifted (step_at (steps_of lifted is_reached) a) world) (atoms_of lifted is_reached)

goes_with : (lifted : Lifting) (is_reached world : GroundAtom → Bool) → IsReach lifted is_reached → Follows lifted is_reached world
    → (a : ℕ) → a < length (steps_of lifted is_reached) → GoesWith lifted is_reached world a
goes_with lifted is_reached world reach follows a h =
    let atoms = atoms_of lifted is_reached in
    let step = step_at (steps_of lifted is_reached) a in
    let act = act_there lifted is_reached a h in
    record {
      applying = ap (λ (act : Act). applies act (map world atoms)) act
          ∙ applies_same lifted is_reached world reach follows step (step_there lifted is_reached a h).1;
      leading = ap (λ (act : Act). result_of act (map world atoms)) act ∙ result_same lifted atoms world step;
    }

leads_on : (acts : List Act) (goals plan : List ℕ) (state : List Bool) (a : ℕ) → has_goals goals (leads_to acts state (a ∷ plan)) ≡ true
    → (a < length acts) × (applies (act_at acts a) state ≡ true) × (has_goals goals (leads_to acts (result_of (act_at acts a) state) plan) ≡ true)
leads_on acts goals plan state a h =
    let going = leads_to acts (result_of (act_at acts a) state) plan in
    let tested = nat_lt a (length acts) && applies (act_at acts a) state in
    let passed : (tested ≡ true) × (has_goals goals going ≡ true) =
    elim tested as (λ (t : Bool). has_goals goals (elim t as (λ _. Option (List Bool)) [ true ↦ going | false ↦ None ]) ≡ true → (t ≡ true) × (has_goals goals going ≡ true)) [
      | true ↦ λ h. (refl, h)
      | false ↦ λ h. cc
    ] h in
    let parts = and_parts (nat_lt a (length acts)) (applies (act_at acts a) state) passed.0 in
    (ltb-true a (length acts) parts.0, parts.1, passed.1)

-- what a plan of the task says of its instances
pub plan_valid : (lifted : Lifting) (is_reached world : GroundAtom → Bool) → IsReach lifted is_reached → Follows lifted is_reached world
    → ((a : GroundAtom) → In a lifted.goals → is_reached a ≡ true) → (plan : List ℕ)
    → has_goals (goals_of lifted is_reached) (leads_to (acts_of lifted is_reached) (map world (atoms_of lifted is_reached)) plan) ≡ true
    → AllByRecursion (λ (a : ℕ). a < length (acts_of lifted is_reached)) plan × (is_valid_from lifted world (map (step_at (steps_of lifted is_reached)) plan) ≡ true)
plan_valid lifted is_reached world reach follows goals [] h =
    (tt, sym (wants_same lifted is_reached world reach follows lifted.goals goals) ∙ h)
plan_valid lifted is_reached world reach follows goals (a ∷ plan) h =
    let acts = acts_of lifted is_reached in
    let atoms = atoms_of lifted is_reached in
    let step = step_at (steps_of lifted is_reached) a in
    let goes = leads_on acts (goals_of lifted is_reached) plan (map world atoms) a h in
    let within : a < length (steps_of lifted is_reached) = omega (arith, goes.0, acts_count lifted is_reached) in
    let with' = goes_with lifted is_reached world reach follows a within in
    let held : all_hold lifted step world ≡ true = sym with'.applying ∙ goes.1 in
    let one = (step_there lifted is_reached a within).0 in
    let rest = plan_valid lifted is_reached (after lifted step world) reach (after_follows lifted is_reached world reach follows step one held) goals plan
    (ap (λ (state : List Bool). has_goals (goals_of lifted is_reached) (leads_to acts state plan)) (sym with'.leading) ∙ goes.2) in (
      (goes.0, rest.0),
      and_from (is_instance lifted step) (all_hold lifted step world && is_valid_from lifted (after lifted step world) (map (step_at (steps_of lifted is_reached)) plan)) one
          (and_from (all_hold lifted step world) (is_valid_from lifted (after lifted step world) (map (step_at (steps_of lifted is_reached)) plan)) held rest.1),
    )

-- what a valid plan of instances says of their numbers
pub valid_plan : (lifted : Lifting) (is_reached world : GroundAtom → Bool) → IsReach lifted is_reached → Follows lifted is_reached world
    → ((a : GroundAtom) → In a lifted.goals → is_reached a ≡ true) → (plan : List ℕ)
    → AllByRecursion (λ (a : ℕ). a < length (acts_of lifted is_reached)) plan → is_valid_from lifted world (map (step_at (steps_of lifted is_reached)) plan) ≡ true
    → has_goals (goals_of lifted is_reached) (leads_to (acts_of lifted is_reached) (map world (atoms_of lifted is_reached)) plan) ≡ true
valid_plan lifted is_reached world reach follows goals [] there h =
    wants_same lifted is_reached world reach follows lifted.goals goals ∙ h
valid_plan lifted is_reached world reach follows goals (a ∷ plan) there h =
    let acts = acts_of lifted is_reached in
    let atoms = atoms_of lifted is_reached in
    let step = step_at (steps_of lifted is_reached) a in
    let behind = map (step_at (steps_of lifted is_reached)) plan in
    let instance_parts = and_parts (is_instance lifted step) (all_hold lifted step world && is_valid_from lifted (after lifted step world) behind) h in
    let parts = and_parts (all_hold lifted step world) (is_valid_from lifted (after lifted step world) behind) instance_parts.1 in
    let here : a < length acts = there.0 in
    let within : a < length (steps_of lifted is_reached) = omega (arith, here, acts_count lifted is_reached) in
    let with' = goes_with lifted is_reached world reach follows a within in
    ap (has_goals (goals_of lifted is_reached)) (leads_to-step acts (map world atoms) a plan here (with'.applying ∙ parts.0))
    ∙ ap (λ (state : List Bool). has_goals (goals_of lifted is_reached) (leads_to acts state plan)) with'.leading
    ∙ valid_plan lifted is_reached (after lifted step world) reach (after_follows lifted is_reached world reach follows step instance_parts.0 parts.0) goals plan there.1 parts.1

-- each instance of a valid plan has a number
pub valid_numbered : (lifted : Lifting) → IsFormed lifted → (is_reached world : GroundAtom → Bool) → IsReach lifted is_reached → Follows lifted is_reached world
    → (steps : List Instance) → is_valid_from lifted world steps ≡ true
    → (plan : List ℕ) × AllByRecursion (λ (a : ℕ). a < length (acts_of lifted is_reached)) plan × (map (step_at (steps_of lifted is_reached)) plan ≡ steps)
valid_numbered lifted formed is_reached world reach follows [] h = ([], tt, refl)
valid_numbered lifted formed is_reached world reach follows (step ∷ steps) h =
    let none : Instance = record { schema = 0; args = [] } in
    let instance_parts = and_parts (is_instance lifted step) (all_hold lifted step world && is_valid_from lifted (after lifted step world) steps) h in
    let parts = and_parts (all_hold lifted step world) (is_valid_from lifted (after lifted step world) steps) instance_parts.1 in
    let held = all_hold-more lifted step world is_reached follows.within parts.0 in
    let there : In step (steps_of lifted is_reached) =
    In-filter (λ (step : Instance). all_hold lifted step is_reached) (instances lifted) step (In-instances lifted formed step instance_parts.0) held in
    let found = place_of none (steps_of lifted is_reached) step there in
    let within : found.0 < length (acts_of lifted is_reached) = let below = found.1 in omega (arith, below, acts_count lifted is_reached) in
    let rest = valid_numbered lifted formed is_reached (after lifted step world) reach
    (after_follows lifted is_reached world reach follows step instance_parts.0 parts.0) steps parts.1 in
    (found.0 ∷ rest.0, (within, rest.1), λ i. found.2 i ∷ rest.2 i)

-- where a plan is valid its goals are reached
pub goals_reached : (lifted : Lifting) (is_reached world : GroundAtom → Bool) → IsReach lifted is_reached → Follows lifted is_reached world
    → (steps : List Instance) → is_valid_from lifted world steps ≡ true → list_all is_reached lifted.goals ≡ true
goals_reached lifted is_reached world reach follows [] h =
    list_all-from is_reached lifted.goals (λ a there. follows.within.each a (list_all-at world lifted.goals h a there))
goals_reached lifted is_reached world reach follows (step ∷ steps) h =
    let instance_parts = and_parts (is_instance lifted step) (all_hold lifted step world && is_valid_from lifted (after lifted step world) steps) h in
    let parts = and_parts (all_hold lifted step world) (is_valid_from lifted (after lifted step world) steps) instance_parts.1 in
    goals_reached lifted is_reached (after lifted step world) reach
    (after_follows lifted is_reached world reach follows step instance_parts.0 parts.0) steps parts.1
