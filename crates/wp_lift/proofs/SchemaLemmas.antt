-- Where an action's effects are at fault, its schema is.
use Rattle.std.proofs.Common.{◌≡◌, ℕ, List, length, subst}
use Rattle.wp_syntax.specs.declared.error.Part.TheVariants as parts
use Rattle.wp_syntax.specs.declared.error.PddlError.{PddlError}
use Rattle.wp_syntax.specs.declared.records.Typed.{Typed}
use Rattle.wp_syntax.specs.declared.records.ActionText.{ActionText}
use Rattle.wp_lift.specs.declared.schemas.Pred.{Pred}
use Rattle.wp_lift.specs.declared.schemas.SlotCond.{SlotCond}
use Rattle.wp_lift.specs.declared.schemas.SlotEffect.{SlotEffect}
use Rattle.wp_lift.specs.declared.lifting.TypedSchema.{TypedSchema}
use Rattle.wp_lift.specs.Walk.{told_by, Fails, fine, each}
use Rattle.wp_lift.specs.Typing.{kinds_of}
use Rattle.wp_lift.specs.Lifting.{Naming, names_of, cond_of, effect_of, schema_of}
use Rattle.wp_syntax.proofs.FaultLemmas.{third_fails}

abbrev pub naming_in : List Pred → List (List ℕ) → List (List ℕ) → Naming
naming_in preds objects params = record { part = parts.Domain; preds = preds; objects = objects; params = params }

pub effects-fail : (types : List (List ℕ)) (preds : List Pred) (objects params : List (List ℕ)) (action : ActionText)
    (wanted : List (List ℕ)) (conds : List SlotCond) (error : PddlError)
    → params ≡ names_of action.params
    → each (λ (param : Typed). kinds_of parts.Domain types param.kinds) action.params ≡ fine wanted
    → each (cond_of (naming_in preds objects params)) action.pre ≡ fine conds
    → Fails error (each (effect_of (naming_in preds objects params)) action.effects).faults
    → Fails error (schema_of types preds objects action).faults
unfolding schema_of
effects-fail types preds objects params action wanted conds error p w c e =
    let made : List (List ℕ) → List SlotCond → List SlotEffect → TypedSchema =
    λ (wanted : List (List ℕ)) (conds : List SlotCond) (effects : List SlotEffect).
    record { schema = record { name = action.name.text; arity = length action.params; conds = conds; effects = effects }; wanted = wanted } in
    third_fails (each (λ (param : Typed). kinds_of parts.Domain types param.kinds) action.params)
    (each (cond_of (naming_in preds objects (names_of action.params))) action.pre)
    (each (effect_of (naming_in preds objects (names_of action.params))) action.effects)
    made wanted conds (told_by error) w
    (subst (λ (params : List (List ℕ)). each (cond_of (naming_in preds objects params)) action.pre ≡ fine conds) p c)
    (subst (λ (params : List (List ℕ)). Fails error (each (effect_of (naming_in preds objects params)) action.effects).faults) p e)
