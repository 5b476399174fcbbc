-- Numbers of names: a name's number is the place where it stands first in a list of names.
use Rattle.std.specs.Prelude.{ℕ, Option, List, map, position}
use Rattle.wp_lift.specs.declared.schemas.Schema.{Schema}
use Rattle.wp_lift.specs.Worlds.{is_same_args}
use Rattle.wp_lift.specs.Problem.{Lifting}

abbrev pub number_of : List ℕ → List (List ℕ) → Option ℕ
number_of name names = position (is_same_args name) names

-- the object of a name
abbrev pub object_named : Lifting → List ℕ → Option ℕ
object_named lifted name = number_of name lifted.objects

-- the action schema of a name
abbrev pub schema_named : Lifting → List ℕ → Option ℕ
schema_named lifted name = number_of name (map (λ (schema : Schema). schema.name) lifted.schemas)
