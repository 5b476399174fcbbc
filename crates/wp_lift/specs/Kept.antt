-- What the fields of a lifted problem stand for, and what holds of them: the problem is well formed, its schemas can be found
-- by their names, and predicates, schemas and goal atoms have numbers of 32 bits.
use Rattle.std.specs.Prelude.{ℕ, ◌≡◌, ◌^◌, ◌<◌, List, length, map}
use Rattle.wp_lift.specs.declared.schemas.Schema.{Schema}
use Rattle.wp_lift.specs.declared.lifted.Lifted.TheInside.{Inside}
use Rattle.wp_lift.specs.Problem.{Lifting}
use Rattle.wp_lift.specs.Formed.{IsFormed}

abbrev pub given_by : Inside → Lifting
given_by fields = record {
  objects = fields.objects;
  kinds = fields.kinds;
  preds = fields.preds;
  schemas = fields.schemas;
  wanted = fields.wanted.items;
  subtypes = fields.subtypes;
  opening = fields.opening;
  goals = fields.goals;
}

pub record IsKept (lifted : Lifting) (schema_names : List (List ℕ)) : Type 0 where
  pub formed : IsFormed lifted
  pub named : schema_names ≡ map (λ (schema : Schema). schema.name) lifted.schemas
  pub few_preds : length lifted.preds < 2 ^ 32
  pub few_schemas : length lifted.schemas < 2 ^ 32
  pub few_goals : length lifted.goals < 2 ^ 32
