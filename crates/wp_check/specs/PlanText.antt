-- The text of a plan: a line for each step, and lines of comments behind them. A step is a bracket, its name, each argument
-- after one space, and a bracket. A line ends with a line feed; a comment is a line that begins with a semicolon.
use Rattle.std.specs.Prelude.{◌≡◌, ℕ, ◌==◌, not, Bool, true, false, ◌&&◌, List, [], ◌∷◌, ◌++◌, All, Ok}
use Rattle.std.specs.List.{flat_map, list_all}
use Rattle.wp_lex.specs.Words.{IsWord}
use Rattle.wp_check.specs.declared.step.Step.{Step}
use Rattle.wp_check.specs.PlanFile.{plan_of}

abbrev pub line : List ℕ → List ℕ
line text = text ++ 10 ∷ []

-- a name and its arguments in brackets
abbrev pub form_text : List ℕ → List (List ℕ) → List ℕ
form_text name args = 40 ∷ name ++ flat_map (λ (arg : List ℕ). 32 ∷ arg) args ++ 41 ∷ []

abbrev pub step_text : Step → List ℕ
step_text step = form_text step.name step.args

abbrev pub steps_text : List Step → List ℕ
steps_text steps = flat_map (λ (step : Step). line (step_text step)) steps

-- a semicolon, and what stands behind it on its line
abbrev pub is_comment : List ℕ → Bool
is_comment [] = false
is_comment (byte ∷ bytes) = byte == 59 && list_all (λ (byte : ℕ). not (byte == 10)) bytes

-- the text is lines, each of them a comment
abbrev pub AreComments : List ℕ → Type 0
AreComments text = (lines : List (List ℕ)) × All (λ (text : List ℕ). is_comment text ≡ true) lines × (text ≡ flat_map line lines)

-- the name and the arguments are words as they are read
pub record IsOfWords (step : Step) : Type 0 where
  pub name : IsWord step.name
  pub args : All IsWord step.args

-- the text of steps, with comments behind them, is read as these steps
abbrev pub PrintedPlansAreRead : Type 0
PrintedPlansAreRead =
    (steps : List Step) (comments : List ℕ) → All IsOfWords steps → AreComments comments
    → plan_of (steps_text steps ++ comments) ≡ Ok steps

-- comments behind comments are comments
abbrev pub CommentsJoin : Type 0
CommentsJoin = (front back : List ℕ) → AreComments front → AreComments back → AreComments (front ++ back)
