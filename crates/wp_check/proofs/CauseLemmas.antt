-- The computed verdict names the first step that is bad with its first cause, or the first goal atom that does not hold.
use Rattle.std.proofs.Common.{◌≡◌, ◌≢◌, ℕ, zero, suc, ◌+◌, ◌<◌, ◌==◌, ◌⊎◌, inl, inr, not, Bool, true, false, cond, Option, None, Some, unwrap_or, List, [], ◌∷◌, ◌++◌, length, get_or, refl, sym, ◌∙◌, ap, subst, arith}
use Rattle.std.specs.Prelude.{option_map}
use Rattle.std.specs.List.{position, position_from}
use Rattle.std.proofs.lemmas.Bool.{and_parts, eqb-true, eqb-false, eq-eqb, ne_eqb}
use Rattle.std.proofs.lemmas.List.{length-map}
use Rattle.std.proofs.lemmas.Iterator.Adapters.{position_from-zero}
use Rattle.wp_lift.specs.declared.atoms.GroundAtom.{GroundAtom}
use Rattle.wp_lift.specs.Problem.{Lifting, Instance, schema_at, fits, all_fit}
use Rattle.wp_lift.specs.Worlds.{among, holds, first_false, unmet_goal, after}
use Rattle.wp_lift.specs.Names.{object_named, schema_named}
use Rattle.wp_check.specs.declared.step.Step.{Step}
use Rattle.wp_check.specs.declared.cause.Why.{Why}
use Rattle.wp_check.specs.declared.cause.Why.TheVariants.{UnknownAction, Arguments, UnknownObject, Misfit, Condition}
use Rattle.wp_check.specs.declared.cause.Verdict.{Verdict}
use Rattle.wp_check.specs.declared.cause.Verdict.TheVariants.{Valid, Bad, GoalUnmet}
use Rattle.wp_check.specs.Verdicts.{instance_of, fault_of_object, or_else, fault_of_args, fault_of_instance, if_counted, fault_of_schema, fault_of_step, verdict_at_end, verdict_from, verdict_of}
use Rattle.wp_check.specs.Causes.{IsFirstFalse, Applies, IsFitting, FitsUpTo, IsFirstCause, LeadTo, VerdictsNameTheFirstCause, VerdictsNameTheFirstGoal}
use Rattle.wp_check.proofs.ValidLemmas.{named_by, applies_by, no_fault, object_there, object_fits, args_fit}

-- ---- the first that fails
none_under : {X : Type 0} (p : X → Bool) (x : X) (xs : List X) (i : ℕ) → p x ≡ true → ((q : ℕ) (d : X) → q < i → p (get_or xs q d) ≡ true)
    → (q : ℕ) (d : X) → q < suc i → p (get_or (x ∷ xs) q d) ≡ true
none_under p x xs i here rest zero d h = here
none_under p x xs i here rest (suc q) d h = rest q d (omega arith)

some_in : (a b : ℕ) → Some a ≡ Some b → a ≡ b
some_in a b e = ap (λ (found : Option ℕ). unwrap_or found a) e

first_from : {X : Type 0} (p : X → Bool) (n : ℕ) (xs : List X) (k : ℕ) → position_from (λ x. not (p x)) n xs ≡ Some k
    → (i : ℕ) × (k ≡ n + i) × IsFirstFalse p xs i
first_from p n [] k e = cc
first_from p n (x ∷ xs) k e =
    elim (p x) as (λ t. p x ≡ t → cond (not t) (Some n) (position_from (λ x. not (p x)) (n + 1) xs) ≡ Some k → (i : ℕ) × (k ≡ n + i) × IsFirstFalse p (x ∷ xs) i) [
      | true ↦ λ here e.
          let rest = first_from p (n + 1) xs k e in
          let found = rest.2 in (
            suc rest.0,
            omega (arith, rest.1),
            record {
              there = let lt = found.there in omega arith;
              fails = found.fails;
              others = none_under p x xs rest.0 here found.others;
            },
          )
      | false ↦ λ here e. (
        0,
        omega (arith, some_in n k e),
        record { there = omega arith; fails = λ d. here; others = λ q d h. absurd (omega arith) },
      )
    ] refl e

from_first : {X : Type 0} (p : X → Bool) (n : ℕ) (xs : List X) (i : ℕ) → IsFirstFalse p xs i → position_from (λ x. not (p x)) n xs ≡ Some (n + i)
from_first p n [] i h = absurd (let lt = h.there in omega arith)
from_first p n (x ∷ xs) zero h =
    ap (λ (t : Bool). cond (not t) (Some n) (position_from (λ x. not (p x)) (n + 1) xs)) (h.fails x) ∙ ap Some (let e : n ≡ n + 0 = omega arith in e)
from_first p n (x ∷ xs) (suc i) h =
    ap (λ (t : Bool). cond (not t) (Some n) (position_from (λ x. not (p x)) (n + 1) xs)) (h.others 0 x (omega arith))
    ∙ from_first p (n + 1) xs i (record {
      there = let lt = h.there in omega arith;
      fails = h.fails;
      others = λ q d lt. h.others (suc q) d (omega arith);
    })
    ∙ ap Some (let e : n + 1 + i ≡ n + suc i = omega arith in e)

is_first : {X : Type 0} (p : X → Bool) (xs : List X) (k : ℕ) → position (λ x. not (p x)) xs ≡ Some k → IsFirstFalse p xs k
is_first p xs k e =
    let found = first_from p 0 xs k (sym (position_from-zero (λ x. not (p x)) xs) ∙ e) in
    let same : found.0 ≡ k = omega (arith, found.1) in
    subst (λ (i : ℕ). IsFirstFalse p xs i) same found.2

first_is : {X : Type 0} (p : X → Bool) (xs : List X) (k : ℕ) → IsFirstFalse p xs k → position (λ x. not (p x)) xs ≡ Some k
first_is p xs k h = position_from-zero (λ x. not (p x)) xs ∙ from_first p 0 xs k h ∙ ap Some (let e : 0 + k ≡ k = omega arith in e)

-- ---- the first cause there is
why_of : Option Why → Why
why_of None = UnknownAction
why_of (Some why) = why

or_some : (first other : Option Why) (why : Why) → or_else first other ≡ Some why → (first ≡ Some why) ⊎ ((first ≡ None) × (other ≡ Some why))
or_some None other why e = inr (refl, e)
or_some (Some one) other why e = inl e

counted_some : (b : Bool) (fault : Option Why) (one why : Why) → if_counted b fault (Some one) ≡ Some why
    → ((b ≡ true) × (fault ≡ Some why)) ⊎ ((b ≡ false) × (one ≡ why))
unfolding why_of
counted_some true fault one why e = inl (refl, e)
counted_some false fault one why e = inr (refl, ap why_of e)

condition_some : (found : Option ℕ) (why : Why) → option_map Condition found ≡ Some why → (place : ℕ) × (found ≡ Some place) × (Condition place ≡ why)
unfolding why_of
condition_some None why e = cc
condition_some (Some place) why e = (place, refl, ap why_of e)

-- ---- arguments
record IsBadArg (lifted : Lifting) (schema n : ℕ) (words : List (List ℕ)) (i : ℕ) (why : Why) : Type 0 where
  there : i < length words
  before : (q : ℕ) → q < i → IsFitting lifted schema (n + q) (get_or words q [])
  bad : fault_of_object lifted schema (n + i) (object_named lifted (get_or words i [])) ≡ Some why

fitting_under : (lifted : Lifting) (schema n : ℕ) (word : List ℕ) (words : List (List ℕ)) (i : ℕ) → IsFitting lifted schema n word
    → ((q : ℕ) → q < i → IsFitting lifted schema (n + 1 + q) (get_or words q []))
    → (q : ℕ) → q < suc i → IsFitting lifted schema (n + q) (get_or (word ∷ words) q [])
fitting_under lifted schema n word words i here rest zero h =
    subst (λ (m : ℕ). IsFitting lifted schema m word) (let e : n ≡ n + 0 = omega arith in e) here
fitting_under lifted schema n word words i here rest (suc q) h =
    subst (λ (m : ℕ). IsFitting lifted schema m (get_or words q [])) (let e : n + 1 + q ≡ n + suc q = omega arith in e) (rest q (omega arith))

args_bad : (lifted : Lifting) (schema n : ℕ) (words : List (List ℕ)) (why : Why) → fault_of_args lifted schema n words ≡ Some why
    → (i : ℕ) × IsBadArg lifted schema n words i why
args_bad lifted schema n [] why e = cc
args_bad lifted schema n (word ∷ words) why e =
    elim (or_some (fault_of_object lifted schema n (object_named lifted word)) (fault_of_args lifted schema (n + 1) words) why e) [
      | inl here ↦ (
        0,
        record {
          there = omega arith;
          before = λ q h. absurd (omega arith);
          bad = subst (λ (m : ℕ). fault_of_object lifted schema m (object_named lifted word) ≡ Some why) (let e : n ≡ n + 0 = omega arith in e) here;
        },
      )
      | inr later ↦
          let rest = args_bad lifted schema (n + 1) words why later.1 in
          let found = rest.1 in
          let named = object_there lifted schema n (object_named lifted word) later.0 in (
            suc rest.0,
            record {
              there = let lt = found.there in omega arith;
              before = fitting_under lifted schema n word words rest.0 (unwrap_or (object_named lifted word) 0, named.0, named.1) found.before;
              bad = subst (λ (m : ℕ). fault_of_object lifted schema m (object_named lifted (get_or words rest.0 [])) ≡ Some why)
                  (let e : n + 1 + rest.0 ≡ n + suc rest.0 = omega arith in e) found.bad;
            },
          )
    ]

bad_args : (lifted : Lifting) (schema n : ℕ) (words : List (List ℕ)) (i : ℕ) (why : Why) → IsBadArg lifted schema n words i why
    → fault_of_args lifted schema n words ≡ Some why
bad_args lifted schema n [] i why h = absurd (let lt = h.there in omega arith)
bad_args lifted schema n (word ∷ words) zero why h =
    ap (λ (fault : Option Why). or_else fault (fault_of_args lifted schema (n + 1) words))
    (subst (λ (m : ℕ). fault_of_object lifted schema m (object_named lifted word) ≡ Some why) (let e : n + 0 ≡ n = omega arith in e) h.bad)
bad_args lifted schema n (word ∷ words) (suc i) why h =
    let first = subst (λ (m : ℕ). IsFitting lifted schema m word) (let e : n + 0 ≡ n = omega arith in e) (h.before 0 (omega arith)) in
    ap (λ (found : Option ℕ). or_else (fault_of_object lifted schema n found) (fault_of_args lifted schema (n + 1) words)) first.1
    ∙ ap (λ (fault : Option Why). or_else fault (fault_of_args lifted schema (n + 1) words)) (object_fits lifted schema n first.0 first.2)
    ∙ bad_args lifted schema (n + 1) words i why (record {
      there = let lt = h.there in omega arith;
      before = λ q lt. subst (λ (m : ℕ). IsFitting lifted schema m (get_or words q [])) (let e : n + suc q ≡ n + 1 + q = omega arith in e) (h.before (suc q) (omega arith));
      bad = subst (λ (m : ℕ). fault_of_object lifted schema m (object_named lifted (get_or words i [])) ≡ Some why)
          (let e : n + suc i ≡ n + 1 + i = omega arith in e) h.bad;
    })

object_bad : (lifted : Lifting) (schema place : ℕ) (found : Option ℕ) (why : Why) → fault_of_object lifted schema place found ≡ Some why
    → ((found ≡ None) × (UnknownObject place ≡ why)) ⊎ (((object : ℕ) × (found ≡ Some object) × (fits lifted schema place object ≡ false)) × (Misfit place ≡ why))
unfolding why_of
object_bad lifted schema place None why e = inl (refl, ap why_of e)
object_bad lifted schema place (Some object) why e =
    elim (fits lifted schema place object) as (λ t. fits lifted schema place object ≡ t → (elim t as (λ _. Option Why) [ true ↦ None | false ↦ Some (Misfit place) ]) ≡ Some why
    → ((Some object ≡ None) × (UnknownObject place ≡ why)) ⊎ (((one : ℕ) × (Some object ≡ Some one) × (fits lifted schema place one ≡ false)) × (Misfit place ≡ why))) [
      | true ↦ λ t e. cc
      | false ↦ λ t e. inr ((object, refl, t), ap why_of e)
    ] refl e

misfit : (lifted : Lifting) (schema place object : ℕ) → fits lifted schema place object ≡ false → fault_of_object lifted schema place (Some object) ≡ Some (Misfit place)
misfit lifted schema place object e = ap (λ (t : Bool). elim t as (λ _. Option Why) [ true ↦ None | false ↦ Some (Misfit place) ]) e

-- ---- a step
arg_cause : (lifted : Lifting) (world : GroundAtom → Bool) (step : Step) (schema : ℕ) (why : Why) → schema_named lifted step.name ≡ Some schema
    → length step.args ≡ (schema_at lifted schema).arity → fault_of_args lifted schema 0 step.args ≡ Some why → IsFirstCause lifted world step why
arg_cause lifted world step schema why s counted e =
    let found = args_bad lifted schema 0 step.args why e in
    let i = found.0 in
    let bad = found.1 in
    let up : FitsUpTo lifted step schema i = record {
      named = s;
      counted = counted;
      there = bad.there;
      before = λ q h. subst (λ (m : ℕ). IsFitting lifted schema m (get_or step.args q [])) (let e : 0 + q ≡ q = omega arith in e) (bad.before q h);
    } in
    let here = subst (λ (m : ℕ). fault_of_object lifted schema m (object_named lifted (get_or step.args i [])) ≡ Some why) (let e : 0 + i ≡ i = omega arith in e) bad.bad in
    elim (object_bad lifted schema i (object_named lifted (get_or step.args i [])) why here) [
      | inl unknown ↦ subst (IsFirstCause lifted world step) unknown.1 (schema, up, unknown.0)
      | inr unfit ↦ subst (IsFirstCause lifted world step) unfit.1 (schema, up, unfit.0)
    ]

cause_by : (lifted : Lifting) (world : GroundAtom → Bool) (step : Step) (found : Option ℕ) (why : Why) → schema_named lifted step.name ≡ found
    → fault_of_schema lifted world found step ≡ Some why → IsFirstCause lifted world step why
unfolding why_of
cause_by lifted world step None why s e = subst (IsFirstCause lifted world step) (ap why_of e) s
cause_by lifted world step (Some schema) why s e =
    let arity = (schema_at lifted schema).arity in
    elim (counted_some (length step.args == arity) (fault_of_instance lifted world schema step) (Arguments (length step.args) arity) why e) [
      | inr off ↦ subst (IsFirstCause lifted world step) off.1 (schema, s, refl, refl, eqb-false (length step.args) arity off.0)
      | inl on ↦
          let counted = eqb-true (length step.args) arity on.0 in
          elim (or_some (fault_of_args lifted schema 0 step.args) (option_map Condition (first_false lifted (instance_of lifted step) world)) why on.1) [
            | inl bad ↦ arg_cause lifted world step schema why s counted bad
            | inr fine ↦
                let named = named_by lifted step schema s on.0 fine.0 in
                let one = instance_of lifted step in
                let false_there = condition_some (first_false lifted one world) why fine.1 in
                subst (IsFirstCause lifted world step) false_there.2
                (one, named.0, named.1, is_first (holds one.args world) (schema_at lifted one.schema).conds false_there.0 false_there.1)
          ]
    ]

counted_is : (lifted : Lifting) (world : GroundAtom → Bool) (step : Step) (schema : ℕ) → schema_named lifted step.name ≡ Some schema
    → length step.args ≡ (schema_at lifted schema).arity → fault_of_step lifted world step ≡ fault_of_instance lifted world schema step
counted_is lifted world step schema s counted =
    ap (λ (found : Option ℕ). fault_of_schema lifted world found step) s
    ∙ ap (λ (b : Bool). if_counted b (fault_of_instance lifted world schema step) (Some (Arguments (length step.args) (schema_at lifted schema).arity)))
    (eq-eqb (length step.args) (schema_at lifted schema).arity counted)

bad_is : (lifted : Lifting) (world : GroundAtom → Bool) (step : Step) (schema place : ℕ) (why : Why) → FitsUpTo lifted step schema place
    → fault_of_object lifted schema place (object_named lifted (get_or step.args place [])) ≡ Some why → fault_of_step lifted world step ≡ Some why
bad_is lifted world step schema place why up e =
    let bad : IsBadArg lifted schema 0 step.args place why = record {
      there = up.there;
      before = λ q h. subst (λ (m : ℕ). IsFitting lifted schema m (get_or step.args q [])) (let e : q ≡ 0 + q = omega arith in e) (up.before q h);
      bad = subst (λ (m : ℕ). fault_of_object lifted schema m (object_named lifted (get_or step.args place [])) ≡ Some why) (let e : place ≡ 0 + place = omega arith in e) e;
    } in
    counted_is lifted world step schema up.named up.counted
    ∙ ap (λ (fault : Option Why). or_else fault (option_map Condition (first_false lifted (instance_of lifted step) world))) (bad_args lifted schema 0 step.args place why bad)

fault_from : (lifted : Lifting) (world : GroundAtom → Bool) (step : Step) (why : Why) → IsFirstCause lifted world step why → fault_of_step lifted world step ≡ Some why
fault_from lifted world step UnknownAction h = ap (λ (found : Option ℕ). fault_of_schema lifted world found step) h
fault_from lifted world step (Arguments given wanted) h =
    let schema = h.0 in
    let arity = (schema_at lifted schema).arity in
    let off : length step.args ≢ arity = λ same. h.4 (h.2 ∙ same ∙ sym h.3) in
    ap (λ (found : Option ℕ). fault_of_schema lifted world found step) h.1
    ∙ ap (λ (b : Bool). if_counted b (fault_of_instance lifted world schema step) (Some (Arguments (length step.args) arity))) (ne_eqb (length step.args) arity off)
    ∙ (λ i. Some (Arguments (sym h.2 i) (sym h.3 i)))
fault_from lifted world step (UnknownObject place) h =
    bad_is lifted world step h.0 place (UnknownObject place) h.1 (ap (fault_of_object lifted h.0 place) h.2)
fault_from lifted world step (Misfit place) h =
    bad_is lifted world step h.0 place (Misfit place) h.1 (ap (fault_of_object lifted h.0 place) h.2.1 ∙ misfit lifted h.0 place h.2.0 h.2.2)
fault_from lifted world step (Condition place) h =
    let named = h.0 in
    let schema = named.schema in
    let arity = (schema_at lifted schema).arity in
    let there = and_parts _ _ h.2 in
    let counted = and_parts (length named.args == arity) (all_fit lifted schema 0 named.args) there.1 in
    let objects = args_fit lifted schema 0 step.args named.args h.1.objects counted.1 in
    let same : instance_of lifted step ≡ named = λ i. record { schema = unwrap_or (h.1.schema i) 0; args = objects.1 i } in
    let count : length step.args ≡ arity =
    sym (length-map step.args (λ (word : List ℕ). unwrap_or (object_named lifted word) 0)) ∙ ap length objects.1 ∙ eqb-true (length named.args) arity counted.0 in
    counted_is lifted world step schema h.1.schema count
    ∙ ap (λ (fault : Option Why). or_else fault (option_map Condition (first_false lifted (instance_of lifted step) world))) objects.0
    ∙ ap (λ (one : Instance). option_map Condition (first_false lifted one world)) same
    ∙ ap (option_map Condition) (first_is (holds named.args world) (schema_at lifted schema).conds place h.3)

-- ---- all steps
number_of : Verdict → ℕ
number_of Valid = 0
number_of (Bad number why) = number
number_of (GoalUnmet place) = place

cause_of : Verdict → Why
cause_of Valid = UnknownAction
cause_of (Bad number why) = why
cause_of (GoalUnmet place) = UnknownAction

record IsBadFrom (lifted : Lifting) (first : GroundAtom → Bool) (from : ℕ) (steps : List Step) (number : ℕ) (why : Why) : Type 0 where
  front : List Step
  step : Step
  rest : List Step
  world : GroundAtom → Bool
  split : steps ≡ front ++ step ∷ rest
  numbered : number ≡ from + length front
  leads : LeadTo lifted first front world
  cause : IsFirstCause lifted world step why

end_bad : (found : Option ℕ) (number : ℕ) (why : Why) → verdict_at_end found ≡ Bad number why → ⊥
end_bad None number why e = cc
end_bad (Some place) number why e = cc

bad_names : (lifted : Lifting) (world : GroundAtom → Bool) (from : ℕ) (steps : List Step) (number : ℕ) (why : Why) → verdict_from lifted world from steps ≡ Bad number why
    → IsBadFrom lifted world from steps number why
unfolding number_of cause_of
bad_names lifted world from [] number why e = absurd (end_bad (unmet_goal lifted world) number why e)
bad_names lifted world from (step ∷ steps) number why e =
    let named = instance_of lifted step in
    let next = after lifted named world in
    elim (fault_of_step lifted world step) as (λ fault. fault_of_step lifted world step ≡ fault
    → (elim fault as (λ _. Verdict) [ Some why ↦ Bad from why | None ↦ verdict_from lifted next (from + 1) steps ]) ≡ Bad number why
    → IsBadFrom lifted world from (step ∷ steps) number why) [
      | Some one ↦ λ f e. record {
        front = [];
        step = step;
        rest = steps;
        world = world;
        split = refl;
        numbered = omega (arith, ap number_of e);
        leads = refl;
        cause = subst (IsFirstCause lifted world step) (ap cause_of e) (cause_by lifted world step (schema_named lifted step.name) one refl f);
      }
      | None ↦ λ f e.
          let here = applies_by lifted world step (schema_named lifted step.name) refl f in
          let later = bad_names lifted next (from + 1) steps number why e in
          record {
            front = step ∷ later.front;
            step = later.step;
            rest = later.rest;
            world = later.world;
            split = ap (λ steps. step ∷ steps) later.split;
            numbered = let e = later.numbered in omega arith;
            leads = (named, here, later.leads);
            cause = later.cause;
          }
    ] refl e

after_fine : (lifted : Lifting) (world : GroundAtom → Bool) (from : ℕ) (step : Step) (steps : List Step) (named : Instance) → Applies lifted world step named
    → verdict_from lifted world from (step ∷ steps) ≡ verdict_from lifted (after lifted named world) (from + 1) steps
after_fine lifted world from step steps named h =
    let fine = no_fault lifted world step named h in
    ap (λ (fault : Option Why). elim fault as (λ _. Verdict) [
      | Some why ↦ Bad from why
      | None ↦ verdict_from lifted (after lifted (instance_of lifted step) world) (from + 1) steps
    ]) fine.0
    ∙ ap (λ (one : Instance). verdict_from lifted (after lifted one world) (from + 1) steps) fine.1

names_bad : (lifted : Lifting) (world last : GroundAtom → Bool) (from : ℕ) (front : List Step) (step : Step) (rest : List Step) (why : Why) → LeadTo lifted world front last
    → IsFirstCause lifted last step why → verdict_from lifted world from (front ++ step ∷ rest) ≡ Bad (from + length front) why
names_bad lifted world last from [] step rest why leads cause =
    ap (λ (fault : Option Why). elim fault as (λ _. Verdict) [
      | Some why ↦ Bad from why
      | None ↦ verdict_from lifted (after lifted (instance_of lifted step) world) (from + 1) rest
    ]) (fault_from lifted world step why (subst (λ (w : GroundAtom → Bool). IsFirstCause lifted w step why) (sym leads) cause))
    ∙ ap (λ (n : ℕ). Bad n why) (let e : from ≡ from + 0 = omega arith in e)
names_bad lifted world last from (one ∷ front) step rest why leads cause =
    after_fine lifted world from one (front ++ step ∷ rest) leads.0 leads.1
    ∙ names_bad lifted (after lifted leads.0 world) last (from + 1) front step rest why leads.2 cause
    ∙ ap (λ (n : ℕ). Bad n why) (let e : from + 1 + length front ≡ from + suc (length front) = omega arith in e)

pub first-causes : VerdictsNameTheFirstCause
unfolding verdict_of
first-causes lifted steps number why = (
  λ e.
      let bad = bad_names lifted (among lifted.opening) 1 steps number why e in
      record {
        front = bad.front;
        step = bad.step;
        rest = bad.rest;
        world = bad.world;
        split = bad.split;
        numbered = let e = bad.numbered in omega arith;
        leads = bad.leads;
        cause = bad.cause;
      },
  λ bad.
      ap (verdict_from lifted (among lifted.opening) 1) bad.split
      ∙ names_bad lifted (among lifted.opening) bad.world 1 bad.front bad.step bad.rest why bad.leads bad.cause
      ∙ ap (λ (n : ℕ). Bad n why) (let e : 1 + length bad.front ≡ number = (let e = bad.numbered in omega arith) in e),
)

-- ---- goals
end_unmet : (found : Option ℕ) (place : ℕ) → verdict_at_end found ≡ GoalUnmet place → found ≡ Some place
unfolding number_of
end_unmet None place e = cc
end_unmet (Some one) place e = ap (λ (verdict : Verdict). Some (number_of verdict)) e

unmet_names : (lifted : Lifting) (world : GroundAtom → Bool) (from : ℕ) (steps : List Step) (place : ℕ) → verdict_from lifted world from steps ≡ GoalUnmet place
    → (last : GroundAtom → Bool) × LeadTo lifted world steps last × IsFirstFalse last lifted.goals place
unmet_names lifted world from [] place e = (world, refl, is_first world lifted.goals place (end_unmet (unmet_goal lifted world) place e))
unmet_names lifted world from (step ∷ steps) place e =
    let named = instance_of lifted step in
    let next = after lifted named world in
    elim (fault_of_step lifted world step) as (λ fault. fault_of_step lifted world step ≡ fault
    → (elim fault as (λ _. Verdict) [ Some why ↦ Bad from why | None ↦ verdict_from lifted next (from + 1) steps ]) ≡ GoalUnmet place
    → (last : GroundAtom → Bool) × LeadTo lifted world (step ∷ steps) last × IsFirstFalse last lifted.goals place) [
      | Some one ↦ λ f e. cc
      | None ↦ λ f e.
          let here = applies_by lifted world step (schema_named lifted step.name) refl f in
          let later = unmet_names lifted next (from + 1) steps place e in
          (later.0, (named, here, later.1), later.2)
    ] refl e

names_unmet : (lifted : Lifting) (world last : GroundAtom → Bool) (from : ℕ) (steps : List Step) (place : ℕ) → LeadTo lifted world steps last
    → IsFirstFalse last lifted.goals place → verdict_from lifted world from steps ≡ GoalUnmet place
names_unmet lifted world last from [] place leads first =
    ap verdict_at_end (ap (unmet_goal lifted) leads ∙ first_is last lifted.goals place first)
names_unmet lifted world last from (step ∷ steps) place leads first =
    after_fine lifted world from step steps leads.0 leads.1
    ∙ names_unmet lifted (after lifted leads.0 world) last (from + 1) steps place leads.2 first

pub first-goals : VerdictsNameTheFirstGoal
unfolding verdict_of
first-goals lifted steps place = (
  λ e.
      let unmet = unmet_names lifted (among lifted.opening) 1 steps place e in
      record { world = unmet.0; leads = unmet.1; first = unmet.2 },
  λ unmet. names_unmet lifted (among lifted.opening) unmet.world 1 steps place unmet.leads unmet.first,
)
