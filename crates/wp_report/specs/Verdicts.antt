-- The line of a verdict on the steps of a plan: how many steps a valid plan has, else the first step that is bad, with its cause,
-- else the first goal atom that does not hold after the last step.
use Rattle.std.specs.Prelude.{ℕ, ◌-◌, List, [], ◌++◌, length, codes, decimal, slice_index_or}
use Rattle.wp_lift.specs.declared.schemas.SlotCond.{SlotCond}
use Rattle.wp_lift.specs.declared.schemas.SlotCond.TheVariants.{Atom, Same, Differ}
use Rattle.wp_lift.specs.Problem.{Lifting, Instance, schema_at}
use Rattle.wp_lift.specs.Worlds.{grounded, object_in}
use Rattle.wp_ground.specs.Tasks.{atom_at}
use Rattle.wp_ground.specs.Texts.{object_text, atom_text}
use Rattle.wp_check.specs.declared.step.Step.{Step}
use Rattle.wp_check.specs.declared.cause.Why.{Why}
use Rattle.wp_check.specs.declared.cause.Why.TheVariants.{UnknownAction, Arguments, UnknownObject, Misfit, Condition}
use Rattle.wp_check.specs.declared.cause.Verdict.{Verdict}
use Rattle.wp_check.specs.declared.cause.Verdict.TheVariants.{Valid, Bad, GoalUnmet}
use Rattle.wp_check.specs.PlanText.{line}
use Rattle.wp_check.specs.Verdicts.{instance_of}

abbrev pub equality_text : Lifting → ℕ → ℕ → List ℕ
equality_text lifted a b = codes "(= " ++ object_text lifted a ++ codes " " ++ object_text lifted b ++ codes ")"

-- a condition with the objects of an instance
abbrev pub literal_text : Lifting → List ℕ → SlotCond → List ℕ
literal_text lifted args (Atom atom) = atom_text lifted (grounded args atom)
literal_text lifted args (Same a b) = equality_text lifted (object_in args a) (object_in args b)
literal_text lifted args (Differ a b) =
    codes "(not " ++ equality_text lifted (object_in args a) (object_in args b) ++ codes ")"

-- past the end of a list stands what never comes
abbrev pub step_at : List Step → ℕ → Step
step_at steps place = slice_index_or steps place (let none : Step = record { name = []; args = [] } in none)

abbrev pub cond_at : Lifting → Instance → ℕ → SlotCond
cond_at lifted step place =
    slice_index_or (schema_at lifted step.schema).conds place (Atom (record { pred = 0; slots = [] }))

abbrev pub arg_at : Step → ℕ → List ℕ
arg_at step place = slice_index_or step.args place []

unfoldable pub why_text : Lifting → Step → Why → List ℕ
why_text lifted step UnknownAction = codes "unknown action " ++ step.name
why_text lifted step (Arguments given wanted) = codes "arguments " ++ decimal given ++ codes " wanted " ++ decimal wanted
why_text lifted step (UnknownObject place) = codes "unknown object " ++ arg_at step place
why_text lifted step (Misfit place) = codes "type of " ++ arg_at step place
why_text lifted step (Condition place) =
    let one = instance_of lifted step in codes "condition " ++ literal_text lifted one.args (cond_at lifted one place)

-- steps count from 1
unfoldable pub verdict_text : Lifting → List Step → Verdict → List ℕ
verdict_text lifted steps Valid = line (codes "; valid steps " ++ decimal (length steps))
verdict_text lifted steps (Bad number why) =
    line (codes "; invalid step " ++ decimal number ++ codes ": " ++ why_text lifted (step_at steps (number - 1)) why)
verdict_text lifted steps (GoalUnmet place) = line (codes "; invalid goal " ++ atom_text lifted (atom_at lifted.goals place))
