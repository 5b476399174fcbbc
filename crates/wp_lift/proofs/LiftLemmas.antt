-- The walk of `lift`, stage by stage: where the stages before are fine, the fault of a stage is that of the whole.
use Rattle.std.proofs.Common.{◌≡◌, List, [], ◌++◌, map, sym, ◌∙◌, ap, subst, append_assoc}
use Rattle.wp_syntax.specs.declared.error.Part.TheVariants as parts
use Rattle.wp_syntax.specs.declared.error.PddlError.{PddlError}
use Rattle.wp_syntax.specs.declared.records.Domain.{Domain}
use Rattle.wp_syntax.specs.declared.records.Problem.{Problem}
use Rattle.wp_lift.specs.declared.fault.Fault.{Fault}
use Rattle.wp_lift.specs.declared.lifting.TypedSchema.{TypedSchema}
use Rattle.wp_lift.specs.declared.lifting.Scene.{Scene}
use Rattle.wp_lift.specs.declared.lifting.Facts.{Facts}
use Rattle.wp_lift.specs.Problem.{Lifting}
use Rattle.wp_lift.specs.Walk.{Walk, told_by, Fails, fine, each, each_after, ◌>>=◌}
use Rattle.wp_lift.specs.Typing.{types_of}
use Rattle.wp_lift.specs.Lifting.{objects_of, schema_of, stated_after, ground_atom_of, pred_of, lifting_of}
use Rattle.wp_lift.specs.Stages.{scene_of, facts_in, facts_of, assembled}
use Rattle.wp_syntax.proofs.FaultLemmas.{append_none, tells_append}

step : {A B : Type 0} (w : Walk A) (k : A → Walk B) (x : A) → w ≡ fine x → (w >>= k) ≡ k x
step w k x e = ap (λ (w : Walk _). w >>= k) e

fail : {A B : Type 0} (w : Walk A) (k : A → Walk B) (error : PddlError) → Fails error w.faults → Fails error (w >>= k).faults
fail w k error h = tells_append (told_by error) w.faults (k w.value).faults h

failing : (a b : Walk Lifting) (error : PddlError) → a ≡ b → Fails error b.faults → Fails error a.faults
failing a b error e h = subst (λ (w : Walk Lifting). Fails error w.faults) (sym e) h

abbrev from_facts : Domain → Problem → Scene → List TypedSchema → Walk Lifting
from_facts domain problem scene schemas = facts_of scene problem >>= λ facts. fine (assembled domain.types scene schemas facts)

abbrev from_schemas : Domain → Problem → Scene → Walk Lifting
from_schemas domain problem scene = each (schema_of scene.types scene.preds scene.known.names) domain.actions >>= from_facts domain problem scene

grouped : (t o s p g : List Fault) → t ++ (o ++ (s ++ (p ++ (g ++ [])))) ≡ (t ++ (o ++ [])) ++ (s ++ ((p ++ (g ++ [])) ++ []))
grouped t o s p g =
    (λ i. t ++ (sym (append_none o) i ++ (s ++ sym (append_none (p ++ (g ++ []))) i)))
    ∙ sym (append_assoc t (o ++ []) (s ++ ((p ++ (g ++ [])) ++ [])))

whole : (domain : Domain) (problem : Problem) → lifting_of domain problem ≡ (scene_of domain problem >>= from_schemas domain problem)
unfolding lifting_of scene_of facts_in
whole domain problem =
    let types = types_of parts.Domain domain.types in
    let known = objects_of types.value domain.constants problem.objects in
    let scene : Scene = record { types = types.value; known = known.value; preds = map pred_of domain.preds } in
    let schemas = each (schema_of scene.types scene.preds scene.known.names) domain.actions in
    let opening = each_after (stated_after (record { part = parts.Problem; preds = scene.preds; objects = scene.known.names; params = [] })) [] problem.init in
    let goals = each (ground_atom_of (record { part = parts.Problem; preds = scene.preds; objects = scene.known.names; params = [] })) problem.goal in
    λ i. record {
      faults = grouped types.faults known.faults schemas.faults opening.faults goals.faults i;
      value = assembled domain.types scene schemas.value (record { opening = opening.value; goals = goals.value });
    }

to_schemas : (domain : Domain) (problem : Problem) (scene : Scene) → scene_of domain problem ≡ fine scene
    → lifting_of domain problem ≡ from_schemas domain problem scene
to_schemas domain problem scene e = whole domain problem ∙ step (scene_of domain problem) (from_schemas domain problem) scene e

to_facts : (domain : Domain) (problem : Problem) (scene : Scene) (schemas : List TypedSchema) → scene_of domain problem ≡ fine scene
    → each (schema_of scene.types scene.preds scene.known.names) domain.actions ≡ fine schemas
    → lifting_of domain problem ≡ from_facts domain problem scene schemas
to_facts domain problem scene schemas e s =
    to_schemas domain problem scene e
    ∙ step (each (schema_of scene.types scene.preds scene.known.names) domain.actions) (from_facts domain problem scene) schemas s

pub scene-fails : (domain : Domain) (problem : Problem) (error : PddlError)
    → Fails error (scene_of domain problem).faults → Fails error (lifting_of domain problem).faults
scene-fails domain problem error h =
    failing _ _ error (whole domain problem) (fail (scene_of domain problem) (from_schemas domain problem) error h)

pub schemas-fail : (domain : Domain) (problem : Problem) (scene : Scene) (error : PddlError) → scene_of domain problem ≡ fine scene
    → Fails error (each (schema_of scene.types scene.preds scene.known.names) domain.actions).faults → Fails error (lifting_of domain problem).faults
schemas-fail domain problem scene error e h =
    failing _ _ error (to_schemas domain problem scene e)
    (fail (each (schema_of scene.types scene.preds scene.known.names) domain.actions) (from_facts domain problem scene) error h)

pub facts-fail : (domain : Domain) (problem : Problem) (scene : Scene) (schemas : List TypedSchema) (error : PddlError) → scene_of domain problem ≡ fine scene
    → each (schema_of scene.types scene.preds scene.known.names) domain.actions ≡ fine schemas
    → Fails error (facts_of scene problem).faults → Fails error (lifting_of domain problem).faults
facts-fail domain problem scene schemas error e s h =
    failing _ _ error (to_facts domain problem scene schemas e s)
    (fail (facts_of scene problem) (λ facts. fine (assembled domain.types scene schemas facts)) error h)

pub all-fine : (domain : Domain) (problem : Problem) (scene : Scene) (schemas : List TypedSchema) (facts : Facts) → scene_of domain problem ≡ fine scene
    → each (schema_of scene.types scene.preds scene.known.names) domain.actions ≡ fine schemas
    → facts_of scene problem ≡ fine facts
    → lifting_of domain problem ≡ fine (assembled domain.types scene schemas facts)
all-fine domain problem scene schemas facts e s f =
    to_facts domain problem scene schemas e s
    ∙ step (facts_of scene problem) (λ facts. fine (assembled domain.types scene schemas facts)) facts f
