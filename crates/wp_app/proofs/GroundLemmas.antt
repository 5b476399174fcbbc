-- What the code of grounding meets.
use Rattle.std.proofs.Common.{◌≡◌, ◌≢◌, List, ℕ, refl, sym, ap, ◌∙◌, subst, Ok, Err}
use Rattle.std.specs.Prelude.{Option, None, Some, Result}
use Rattle.std.proofs.lemmas.List.{length-map}
use Rattle.wp_lift.specs.Problem.{Lifting}
use Rattle.wp_lift.specs.Worlds.{among}
use Rattle.wp_ground.specs.declared.grounding.Grounded.{Grounded}
use Rattle.wp_ground.specs.declared.grounding.GroundError.{GroundError}
use Rattle.wp_ground.specs.declared.grounding.GroundError.TheVariants as refusals
use Rattle.wp_ground.specs.Reached.{reached}
use Rattle.wp_ground.specs.Refusals.{Gives, grounded_of, refusal_of}
use Rattle.wp_ground.specs.Tasks.{act_of, atoms_of, steps_of}
use Rattle.wp_ground.specs.Texts.{atom_text, step_text}
use Rattle.wp_report.specs.Tasks.{IsNamed, ground_error_text}
use Rattle.wp_app.specs.declared.reply.Status.{Status}
use Rattle.wp_app.specs.declared.stop.Stop.{Stop}
use Rattle.wp_app.specs.Steps.{Step, goes}
use Rattle.wp_app.specs.Stops.{Meets}
use Rattle.wp_app.specs.Output.{answered, ground_error_status, task_by}

-- the task of a lifted problem has a name per atom and per action
pub grounded_named : (lifted : Lifting) (grounded : Grounded) → grounded ≡ grounded_of lifted → IsNamed grounded
grounded_named lifted grounded same =
    let is_reached = among (reached lifted) in
    let atoms = atoms_of lifted is_reached in
    let steps = steps_of lifted is_reached in
    subst IsNamed (sym same) (record {
      atoms = length-map atoms (atom_text lifted);
      acts = length-map steps (step_text lifted) ∙ sym (length-map steps (act_of lifted atoms));
    })

pub meets_task : (found : Option GroundError) (task grounded : Grounded) → found ≡ None → grounded ≡ task → Meets {A = Grounded} (task_by found task) (Ok grounded)
meets_task found task grounded none same =
    subst (λ (f : Option GroundError). Meets {A = Grounded} (task_by f task) (Ok grounded)) (sym none)
    (record { defined = tt; gives = ap goes (sym same); read = λ h. h })

-- an error other than want of memory is the cause that there is
pub told : (error : GroundError) (lifted : Lifting) → Gives (Err error) lifted → error ≢ refusals.Memory → refusal_of lifted ≡ Some error
told refusals.TooManyActs lifted h is = h
told refusals.TooManyAtoms lifted h is = h
told (refusals.GoalOutOfReach goal atom) lifted h is = h
told refusals.Memory lifted h is = absurd (is refl)

pub meets_refusal : (found : Option GroundError) (task : Grounded) (error : GroundError) (status : Status) (text : List ℕ) (result : Result Grounded Stop)
    → found ≡ Some error → status ≡ ground_error_status error → text ≡ ground_error_text error
    → Meets {A = Grounded} (answered status text) result → Meets {A = Grounded} (task_by found task) result
meets_refusal found task error status text result is same line meets =
    let step : task_by found task ≡ answered status text =
    ap (λ (f : Option GroundError). task_by f task) is ∙ (λ i. answered (sym same i) (sym line i)) in
    subst (λ (s : Step Grounded). Meets s result) (sym step) meets
