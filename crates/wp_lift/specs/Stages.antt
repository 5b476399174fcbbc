-- Parts of the walk of `lift`: the names of both texts, and what the problem states and wants.
use Rattle.std.specs.Prelude.{ℕ, Bool, List, [], map}
use Rattle.wp_syntax.specs.declared.error.Part.TheVariants as parts
use Rattle.wp_syntax.specs.declared.records.Typed.{Typed}
use Rattle.wp_syntax.specs.declared.records.Domain.{Domain}
use Rattle.wp_syntax.specs.declared.records.Problem.{Problem}
use Rattle.wp_lift.specs.declared.schemas.Schema.{Schema}
use Rattle.wp_lift.specs.declared.lifting.TypedSchema.{TypedSchema}
use Rattle.wp_lift.specs.declared.lifting.Scene.{Scene}
use Rattle.wp_lift.specs.declared.lifting.Facts.{Facts}
use Rattle.wp_lift.specs.Problem.{Lifting}
use Rattle.wp_lift.specs.Walk.{Walk, fine, each, each_after, ◌>>=◌}
use Rattle.wp_lift.specs.Typing.{types_of, subtypes_of}
use Rattle.wp_lift.specs.Lifting.{Naming, objects_of, stated_after, ground_atom_of, pred_of}

unfoldable pub scene_of : Domain → Problem → Walk Scene
scene_of domain problem = do
  types ← types_of parts.Domain domain.types
  known ← objects_of types domain.constants problem.objects
  fine (record { types = types; known = known; preds = map pred_of domain.preds })

unfoldable pub facts_in : Naming → Problem → Walk Facts
facts_in naming problem = do
  opening ← each_after (stated_after naming) [] problem.init
  goals ← each (ground_atom_of naming) problem.goal
  fine (record { opening = opening; goals = goals })

abbrev pub facts_of : Scene → Problem → Walk Facts
facts_of scene problem = facts_in (record { part = parts.Problem; preds = scene.preds; objects = scene.known.names; params = [] }) problem

-- the parts as one problem
abbrev pub joined : Scene → List Schema → List (List (List ℕ)) → List (List Bool) → Facts → Lifting
joined scene schemas wanted subtypes facts = record {
  objects = scene.known.names;
  kinds = scene.known.kinds;
  preds = scene.preds;
  schemas = schemas;
  wanted = wanted;
  subtypes = subtypes;
  opening = facts.opening;
  goals = facts.goals;
}

abbrev pub assembled : List Typed → Scene → List TypedSchema → Facts → Lifting
assembled declared scene schemas facts =
    joined scene (map (λ (typed : TypedSchema). typed.schema) schemas) (map (λ (typed : TypedSchema). typed.wanted) schemas)
    (subtypes_of scene.types declared) facts
