-- The names of a lifted problem: words, which tell its objects and its schemas apart.
use Rattle.std.specs.Prelude.{◌≡◌, length, map, All}
use Rattle.std.specs.List.{IsDistinct}
use Rattle.wp_syntax.specs.Laws.{IsWord}
use Rattle.wp_lift.specs.declared.schemas.Pred.{Pred}
use Rattle.wp_lift.specs.declared.schemas.Schema.{Schema}
use Rattle.wp_lift.specs.Problem.{Lifting}
use Rattle.wp_lift.specs.Worlds.{is_same_args}

pub record HasWords (lifted : Lifting) : Type 0 where
  pub objects : All IsWord lifted.objects
  pub preds : All (λ (pred : Pred). IsWord pred.name) lifted.preds
  pub schemas : All (λ (schema : Schema). IsWord schema.name) lifted.schemas

-- no two objects and no two schemas have one name, and what has types is an object
pub record HasDistinctNames (lifted : Lifting) : Type 0 where
  pub objects : IsDistinct is_same_args lifted.objects
  pub schemas : IsDistinct is_same_args (map (λ (schema : Schema). schema.name) lifted.schemas)
  pub typed : length lifted.kinds ≡ length lifted.objects
