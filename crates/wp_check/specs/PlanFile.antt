-- The steps of a plan file. Each of its lists is a step: a name and the words after it. A list is no step where it is empty
-- or has a list in it; the fault is the place of the empty list or of the first list in the step, of the first such step.
use Rattle.std.specs.Prelude.{ℕ, ◌≡◌, ◌^◌, ◌<◌, length, All, Option, None, Some, List, [], ◌∷◌, Result, Ok, Err}
use Rattle.wp_lex.specs.declared.error.LexError.{LexError}
use Rattle.wp_lex.specs.Trees.{Tree, Leaf, Branch, Trees, End, Then, trees_of}
use Rattle.wp_lex.specs.Faults.{plan_fault_of}
use Rattle.wp_lex.specs.Items.{plan_items_of}
use Rattle.wp_check.specs.declared.step.Step.{Step}
use Rattle.wp_check.specs.declared.step.PlanError.{PlanError}
use Rattle.wp_check.specs.declared.step.PlanError.TheVariants.{Lex, Shape, Memory}

-- one more in front, where all are there; else the first fault, from the left
abbrev pub with_first : {A : Type 0} → Result A ℕ → Result (List A) ℕ → Result (List A) ℕ
with_first (Err at) rest = Err at
with_first (Ok x) (Err at) = Err at
with_first (Ok x) (Ok xs) = Ok (x ∷ xs)

-- the words of a list, or the place of the first list in it
abbrev pub word_of : Tree → Result (List ℕ) ℕ
word_of (Leaf text at) = Ok text
word_of (Branch at trees) = Err at

abbrev pub words_of : Trees → Result (List (List ℕ)) ℕ
words_of End = Ok []
words_of (Then tree rest) = with_first (word_of tree) (words_of rest)

-- a step of the words of the list at a place
abbrev pub step_with : ℕ → Result (List (List ℕ)) ℕ → Result Step ℕ
step_with at (Err list) = Err list
step_with at (Ok []) = Err at
step_with at (Ok (name ∷ args)) = Ok (record { name = name; args = args })

-- between the lists of a plan file no word is left that counts
abbrev pub step_of : Tree → Result Step ℕ
step_of (Leaf text at) = Err at
step_of (Branch at trees) = step_with at (words_of trees)

-- the steps, or the place of the first fault
abbrev pub steps_of : Trees → Result (List Step) ℕ
steps_of End = Ok []
steps_of (Then tree rest) = with_first (step_of tree) (steps_of rest)

abbrev pub shaped : {A : Type 0} → Result A ℕ → Result A PlanError
shaped (Ok x) = Ok x
shaped (Err at) = Err (Shape at)

-- of a plan file: the steps, or the first lexical fault, or else the first place of a step that is none
abbrev pub plan_by : Option LexError → Result (List Step) ℕ → Result (List Step) PlanError
plan_by (Some fault) steps = Err (Lex fault)
plan_by None steps = shaped steps

unfoldable pub plan_of : List ℕ → Result (List Step) PlanError
plan_of text = plan_by (plan_fault_of text) (steps_of (trees_of (plan_items_of text)))

-- what is returned is what reading gives; an error is want of memory, or the fault that there is
abbrev pub Fails : {A : Type 0} → PlanError → Result A PlanError → Type 0
Fails Memory plan = Unit {0}
Fails error plan = plan ≡ Err error

abbrev pub Gives : {A : Type 0} → Result A PlanError → Result A PlanError → Type 0
Gives (Ok x) plan = plan ≡ Ok x
Gives (Err error) plan = Fails error plan

-- places and numbers of steps and of their arguments fit into 32 bits
pub record AreShort (steps : List Step) : Type 0 where
  pub few : length steps < 2 ^ 32
  pub each : All (λ (step : Step). length step.args < 2 ^ 32) steps
