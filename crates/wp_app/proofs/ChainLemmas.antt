-- What a row of steps has come by where it goes on with a value: no fault of the texts, none of the names, and no cause against the task.
use Rattle.std.proofs.Common.{◌≡◌, ℕ, ◌+◌, Bool, true, false, not, cond, ◌&&◌, List, [], ◌∷◌, length, refl, sym, ap, ◌∙◌, ⊎_elim}
use Rattle.std.specs.Prelude.{nat_lt, Option, None, Some}
use Rattle.std.specs.List.{list_all, position_from}
use Rattle.std.proofs.lemmas.Bool.{cases_Bool}
use Rattle.std.proofs.lemmas.Iterator.Adapters.{position_from-zero}
use Rattle.wp_edge.specs.Fetch.{Contents}
use Rattle.wp_lex.specs.declared.error.LexError.{LexError}
use Rattle.wp_lex.specs.declared.item.Item.{Item}
use Rattle.wp_lex.specs.Trees.{trees_of}
use Rattle.wp_lex.specs.Faults.{fault_of}
use Rattle.wp_lex.specs.Items.{items_of}
use Rattle.wp_syntax.specs.declared.error.Part.{Part}
use Rattle.wp_syntax.specs.declared.error.Part.TheVariants as parts
use Rattle.wp_syntax.specs.declared.records.Domain.{Domain}
use Rattle.wp_syntax.specs.declared.records.Problem.{Problem}
use Rattle.wp_syntax.specs.Reading.{Wrong, fine as read_fine}
use Rattle.wp_syntax.specs.Domains.{domain_of}
use Rattle.wp_syntax.specs.Problems.{problem_of}
use Rattle.wp_lift.specs.Problem.{Lifting}
use Rattle.wp_lift.specs.declared.fault.Fault.{Fault}
use Rattle.wp_lift.specs.Walk.{fine as lifted_fine}
use Rattle.wp_lift.specs.Lifting.{lifting_of}
use Rattle.wp_lift.specs.Worlds.{among, unmet_goal}
use Rattle.wp_ground.specs.declared.grounding.Grounded.{Grounded}
use Rattle.wp_ground.specs.declared.grounding.GroundError.{GroundError}
use Rattle.wp_ground.specs.declared.grounding.GroundError.TheVariants.{TooManyActs, TooManyAtoms, GoalOutOfReach, Memory}
use Rattle.wp_ground.specs.Reached.{reached}
use Rattle.wp_ground.specs.Refusals.{goal_refusal, grounded_of, refusal_of}
use Rattle.wp_ground.specs.Tasks.{atoms_of, steps_of}
use Rattle.wp_app.specs.declared.inputs.Texts.{Texts}
use Rattle.wp_app.specs.Steps.{Step, missing, ends, goes, ◌>>=◌}
use Rattle.wp_app.specs.Output.{items_by, items_step, record_by, domain_in, problem_in, domain_step, problem_step, part_of, lifted_by, lifted_step, task_by, grounded_step}
use Rattle.wp_app.specs.Table.{texts_step}

-- two steps in a row go on where each of them does
through : {A B : Type 0} (step : Step A) (next : A → Step B) (value : B) → (step >>= next) ≡ goes value
    → (middle : A) × (step ≡ goes middle) × (next middle ≡ goes value)
through missing next value e = cc
through (ends reply) next value e = cc
through (goes middle) next value e = (middle, refl, e)

-- ---- texts
recorded : {A : Type 0} (part : Part) (faults : List Wrong) (value found : A) → record_by part faults value ≡ goes found
    → (faults ≡ []) × (value ≡ found)
recorded part [] value found e = let same : value ≡ found = cc in (refl, same)
recorded part (fault ∷ faults) value found e = cc

pub itemized : (part : Part) (fault : Option LexError) (items found : List Item) → items_by part fault items ≡ goes found → items ≡ found
itemized part None items found e = cc
itemized part (Some fault) items found e = cc

domain_recorded : (items : List Item) (domain : Domain) → domain_in items ≡ goes domain → domain_of (trees_of items) ≡ read_fine domain
unfolding domain_in
domain_recorded items domain e =
    let read = domain_of (trees_of items) in
    let is = recorded parts.Domain read.faults read.value domain e in
    λ j. record { faults = is.0 j; value = is.1 j }

problem_recorded : (items : List Item) (problem : Problem) → problem_in items ≡ goes problem → problem_of (trees_of items) ≡ read_fine problem
unfolding problem_in
problem_recorded items problem e =
    let read = problem_of (trees_of items) in
    let is = recorded parts.Problem read.faults read.value problem e in
    λ j. record { faults = is.0 j; value = is.1 j }

domain_read : (text : List ℕ) (domain : Domain) → domain_step text ≡ goes domain → domain_of (trees_of (items_of text)) ≡ read_fine domain
unfolding domain_step items_step
domain_read text domain e =
    let by = through (items_by parts.Domain (fault_of text) (items_of text)) domain_in domain e in
    ap (λ (items : List Item). domain_of (trees_of items)) (itemized parts.Domain (fault_of text) (items_of text) by.0 by.1)
    ∙ domain_recorded by.0 domain by.2

problem_read : (text : List ℕ) (problem : Problem) → problem_step text ≡ goes problem
    → problem_of (trees_of (items_of text)) ≡ read_fine problem
unfolding problem_step items_step
problem_read text problem e =
    let by = through (items_by parts.Problem (fault_of text) (items_of text)) problem_in problem e in
    ap (λ (items : List Item). problem_of (trees_of items)) (itemized parts.Problem (fault_of text) (items_of text) by.0 by.1)
    ∙ problem_recorded by.0 problem by.2

-- the records are those of two texts without a fault
pub record AreRead (domain : Domain) (problem : Problem) : Type 0 where
  pub domain_text : List ℕ
  pub problem_text : List ℕ
  pub is_domain : domain_of (trees_of (items_of domain_text)) ≡ read_fine domain
  pub is_problem : problem_of (trees_of (items_of problem_text)) ≡ read_fine problem

abbrev pub both : Domain → Problem → Step Texts
both domain problem = goes (record { domain = domain; problem = problem })

abbrev pub from_problem : List ℕ → Contents → Domain → Step Texts
from_problem name files domain =
    part_of parts.Problem name files >>= λ (text : List ℕ). problem_step text >>= λ (problem : Problem). both domain problem

paired : (domain : Domain) (problem : Problem) (texts : Texts) → both domain problem ≡ goes texts
    → (domain ≡ texts.domain) × (problem ≡ texts.problem)
paired domain problem texts e =
    let pair : Texts = record { domain = domain; problem = problem } in
    let same : pair ≡ texts = cc in
    (ap (λ (t : Texts). t.domain) same, ap (λ (t : Texts). t.problem) same)

pub texts_read : (domain problem : List ℕ) (files : Contents) (texts : Texts) → texts_step domain problem files ≡ goes texts
    → AreRead texts.domain texts.problem
unfolding texts_step
texts_read domain problem files texts e =
    let first =
    through (part_of parts.Domain domain files)
    (λ (text : List ℕ). domain_step text >>= λ (one : Domain). from_problem problem files one) texts e in
    let second = through (domain_step first.0) (λ (one : Domain). from_problem problem files one) texts first.2 in
    let third =
    through (part_of parts.Problem problem files)
    (λ (text : List ℕ). problem_step text >>= λ (one : Problem). both second.0 one) texts second.2 in
    let fourth = through (problem_step third.0) (λ (one : Problem). both second.0 one) texts third.2 in
    let same = paired second.0 fourth.0 texts fourth.2 in record {
      domain_text = first.0;
      problem_text = third.0;
      is_domain = domain_read first.0 second.0 second.1 ∙ ap (λ (one : Domain). read_fine one) same.0;
      is_problem = problem_read third.0 fourth.0 fourth.1 ∙ ap (λ (one : Problem). read_fine one) same.1;
    }

-- ---- names
named : (faults : List Fault) (value lifted : Lifting) → lifted_by faults value ≡ goes lifted → (faults ≡ []) × (value ≡ lifted)
named [] value lifted e = let same : value ≡ lifted = cc in (refl, same)
named (fault ∷ faults) value lifted e = cc

pub lifted_finely : (domain : Domain) (problem : Problem) (lifted : Lifting) → lifted_step domain problem ≡ goes lifted
    → lifting_of domain problem ≡ lifted_fine lifted
unfolding lifted_step
lifted_finely domain problem lifted e =
    let walk = lifting_of domain problem in
    let is = named walk.faults walk.value lifted e in
    λ j. record { faults = is.0 j; value = is.1 j }

-- ---- the task
tasked : (refusal : Option GroundError) (made grounded : Grounded) → task_by refusal made ≡ goes grounded
    → (refusal ≡ None) × (made ≡ grounded)
tasked None made grounded e = let same : made ≡ grounded = cc in (refl, same)
tasked (Some error) made grounded e = cc

pub task_goes : (lifted : Lifting) (grounded : Grounded) → grounded_step lifted ≡ goes grounded
    → (refusal_of lifted ≡ None) × (grounded_of lifted ≡ grounded)
unfolding grounded_step
task_goes lifted grounded e = tasked (refusal_of lifted) (grounded_of lifted) grounded e

-- the refusal by whether there are too many actions, too many atoms, and an unreached goal
abbrev refusal_in : Lifting → Bool → Bool → Option ℕ → Option GroundError
refusal_in lifted acts atoms goal = elim acts [
  | true ↦ Some TooManyActs
  | false ↦ elim atoms [ true ↦ Some TooManyAtoms | false ↦ goal_refusal lifted goal ]
]

record IsClear (acts atoms : Bool) (goal : Option ℕ) : Type 0 where
  few_acts : acts ≡ false
  few_atoms : atoms ≡ false
  all_reached : goal ≡ None

cleared : (lifted : Lifting) (acts atoms : Bool) (goal : Option ℕ) → refusal_in lifted acts atoms goal ≡ None → IsClear acts atoms goal
cleared lifted true atoms goal e = cc
cleared lifted false true goal e = cc
cleared lifted false false None e = record { few_acts = refl; few_atoms = refl; all_reached = refl }
cleared lifted false false (Some goal) e = cc

no_memory : (lifted : Lifting) (acts atoms : Bool) (goal : Option ℕ) → refusal_in lifted acts atoms goal ≡ Some Memory → ⊥
no_memory lifted true atoms goal e = cc
no_memory lifted false true goal e = cc
no_memory lifted false false None e = cc
no_memory lifted false false (Some goal) e = cc

unreached : (lifted : Lifting) (acts atoms : Bool) (goal : Option ℕ) (place : ℕ) (text : List ℕ)
    → refusal_in lifted acts atoms goal ≡ Some (GoalOutOfReach place text) → goal ≡ None → ⊥
unreached lifted true atoms goal place text e none = cc
unreached lifted false true goal place text e none = cc
unreached lifted false false None place text e none = cc
unreached lifted false false (Some goal) place text e none = cc

-- ---- the first that fails
all_from : {X : Type 0} (p : X → Bool) (n : ℕ) (xs : List X) → position_from (λ x. not (p x)) n xs ≡ None → list_all p xs ≡ true
all_from p n [] e = refl
all_from p n (x ∷ xs) e =
    elim (p x) as (λ t. cond (not t) (Some n) (position_from (λ x. not (p x)) (n + 1) xs) ≡ None → (t && list_all p xs) ≡ true) [
      | true ↦ λ e. all_from p (n + 1) xs e
      | false ↦ λ e. cc
    ] e

none_from : {X : Type 0} (p : X → Bool) (n : ℕ) (xs : List X) → list_all p xs ≡ true → position_from (λ x. not (p x)) n xs ≡ None
none_from p n [] e = refl
none_from p n (x ∷ xs) e =
    elim (p x) as (λ t. (t && list_all p xs) ≡ true → cond (not t) (Some n) (position_from (λ x. not (p x)) (n + 1) xs) ≡ None) [
      | true ↦ λ e. none_from p (n + 1) xs e
      | false ↦ λ e. cc
    ] e

-- ---- what the task has
abbrev too_many_acts : Lifting → Bool
too_many_acts lifted = nat_lt 1048576 (length (steps_of lifted (among (reached lifted))))

abbrev too_many_atoms : Lifting → Bool
too_many_atoms lifted = nat_lt 65536 (length (atoms_of lifted (among (reached lifted))))

pub record IsAdmitted (lifted : Lifting) : Type 0 where
  pub few_acts : nat_lt 1048576 (length (steps_of lifted (among (reached lifted)))) ≡ false
  pub few_atoms : nat_lt 65536 (length (atoms_of lifted (among (reached lifted)))) ≡ false
  pub all_reached : list_all (among (reached lifted)) lifted.goals ≡ true

pub admitted : (lifted : Lifting) → refusal_of lifted ≡ None → IsAdmitted lifted
admitted lifted e =
    let is_reached = among (reached lifted) in
    let clear = cleared lifted (too_many_acts lifted) (too_many_atoms lifted) (unmet_goal lifted is_reached) e in record {
      few_acts = clear.few_acts;
      few_atoms = clear.few_atoms;
      all_reached =
          all_from is_reached 0 lifted.goals (sym (position_from-zero (λ goal. not (is_reached goal)) lifted.goals) ∙ clear.all_reached);
    }

pub out_of_reach : (lifted : Lifting) (goal : ℕ) (atom : List ℕ) → refusal_of lifted ≡ Some (GoalOutOfReach goal atom)
    → list_all (among (reached lifted)) lifted.goals ≡ false
out_of_reach lifted goal atom e =
    let is_reached = among (reached lifted) in
    ⊎_elim
    (λ (all : list_all is_reached lifted.goals ≡ true).
    absurd (unreached lifted (too_many_acts lifted) (too_many_atoms lifted) (unmet_goal lifted is_reached) goal atom e
    (position_from-zero (λ goal. not (is_reached goal)) lifted.goals ∙ none_from is_reached 0 lifted.goals all)))
    (λ (some : list_all is_reached lifted.goals ≡ false). some)
    (cases_Bool (list_all is_reached lifted.goals))

-- want of memory is no cause against a task
pub never_memory : (lifted : Lifting) → refusal_of lifted ≡ Some Memory → ⊥
never_memory lifted e = no_memory lifted (too_many_acts lifted) (too_many_atoms lifted) (unmet_goal lifted (among (reached lifted))) e
