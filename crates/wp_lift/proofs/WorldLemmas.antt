-- What notes, deletes and adds make of worlds.
use Rattle.std.proofs.Common.{◌≡◌, ℕ, ◌&&◌, ◌||◌, not, Bool, true, false, cond, List, [], ◌∷◌, map, filter, fold, Option, refl, ◌∙◌, ap}
use Rattle.std.specs.List.{position, position_from}
use Rattle.wp_lift.specs.declared.schemas.SlotCond.{SlotCond}
use Rattle.wp_lift.specs.Problem.{Lifting, Instance, schema_at}
use Rattle.wp_lift.proofs.PlaceLemmas.{from-zero}
use Rattle.wp_lift.specs.declared.atoms.GroundAtom.{GroundAtom}
use Rattle.wp_lift.specs.declared.schemas.SlotEffect.{SlotEffect}
use Rattle.wp_lift.specs.Worlds.{among, is_same_atom, noted, grounded, holds, first_false, after}
use Rattle.wp_lift.specs.Effects.{deleted_by, atoms_added}
use Rattle.wp_lift.proofs.SameLemmas.{same-atom-sym, among-noted_all}

less : (b s m : Bool) → ((b && not s) && not m) ≡ (b && not (s || m))
less true true m = refl
less true false m = refl
less false s m = refl

and_true : (b : Bool) → b ≡ (b && true)
and_true true = refl
and_true false = refl

pub deleted_all : (args : List ℕ) (other : GroundAtom) (b : Bool) (effects : List SlotEffect) → fold (deleted_by args other) b effects
    ≡ (b && not (among (map (λ (effect : SlotEffect). grounded args effect.atom) (filter (λ (effect : SlotEffect). not effect.add) effects)) other))
deleted_all args other b [] = and_true b
deleted_all args other b (effect ∷ effects) =
    let others = filter (λ (effect : SlotEffect). not effect.add) effects in
    let behind = among (map (λ (effect : SlotEffect). grounded args effect.atom) others) other in
    let atom = grounded args effect.atom in
    deleted_all args other (deleted_by args other b effect) effects
    ∙ elim effect.add as (λ t. (cond t b (b && not (is_same_atom atom other)) && not behind)
    ≡ (b && not (among (map (λ (effect : SlotEffect). grounded args effect.atom) (cond (not t) (effect ∷ others) others)) other))) [
      | true ↦ refl
      | false ↦ ap (λ s. (b && not s) && not behind) (same-atom-sym atom other) ∙ less b (is_same_atom other atom) behind
    ]

pub first_false-is : (lifted : Lifting) (step : Instance) (world : GroundAtom → Bool) (args : List ℕ) (conds : List SlotCond) (place : Option ℕ)
    → args ≡ step.args → conds ≡ (schema_at lifted step.schema).conds
    → place ≡ position_from (λ (cond : SlotCond). not (holds args world cond)) 0 conds → place ≡ first_false lifted step world
first_false-is lifted step world args conds place a c e =
    e ∙ from-zero (λ (cond : SlotCond). not (holds args world cond)) conds ∙ λ i. position (λ (cond : SlotCond). not (holds (a i) world cond)) (c i)

pub after-is : (lifted : Lifting) (step : Instance) (args : List ℕ) (effects : List SlotEffect) (old middle new : List GroundAtom)
    → args ≡ step.args → effects ≡ (schema_at lifted step.schema).effects
    → ((other : GroundAtom) → among middle other ≡ fold (deleted_by args other) (among old other) effects)
    → new ≡ fold noted middle (atoms_added args effects) → among new ≡ after lifted step (among old)
after-is lifted step args effects old middle new a e deletes adds =
    let dels_in = λ (args : List ℕ) (effects : List SlotEffect) (other : GroundAtom). among (map (λ (effect : SlotEffect). grounded args effect.atom) (filter (λ (effect : SlotEffect). not effect.add) effects)) other in
    λ i other. (ap (λ (atoms : List GroundAtom). among atoms other) adds ∙ among-noted_all middle (atoms_added args effects) other
    ∙ ap (λ b. b || among (atoms_added args effects) other) (deletes other ∙ deleted_all args other (among old other) effects)
    ∙ λ j. (among old other && not (dels_in (a j) (e j) other)) || among (atoms_added (a j) (e j)) other) i
