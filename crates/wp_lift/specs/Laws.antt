-- Laws of the definitions.
use Rattle.std.specs.Prelude.{ℕ, ◌≡◌, ◌↔◌, ◌<◌, true, List, [], length, slice_index_or}
use Rattle.wp_syntax.specs.declared.records.Typed.{Typed}
use Rattle.wp_syntax.specs.declared.records.Domain.{Domain}
use Rattle.wp_syntax.specs.declared.records.Problem.{Problem}
use Rattle.wp_syntax.specs.Laws.{IsNamedDomain, IsNamedProblem}
use Rattle.wp_syntax.specs.declared.error.Part.TheVariants as parts
use Rattle.wp_lift.specs.Problem.{Lifting, fits, wanted_at}
use Rattle.wp_lift.specs.Walk.{fine}
use Rattle.wp_lift.specs.Typing.{IsSubtype, HasSubtype, is_flagged, subtypes_of, types_of, pairs_of}
use Rattle.wp_lift.specs.Lifting.{lifting_of}
use Rattle.wp_lift.specs.Formed.{IsFormed}
use Rattle.wp_lift.specs.Named.{HasWords, HasDistinctNames}

-- the computed rows are the relation
abbrev pub RowsAreSubtypes : Type 0
RowsAreSubtypes =
    (types : List (List ℕ)) (declared : List Typed) (a b : ℕ) → a < length types → b < length types
    → (is_flagged (slice_index_or (subtypes_of types declared) a []) b ≡ true) ↔ IsSubtype (pairs_of types declared) a b

-- each lifted problem is well formed
abbrev pub LiftingsAreFormed : Type 0
LiftingsAreFormed = (domain : Domain) (problem : Problem) (lifted : Lifting) → lifting_of domain problem ≡ fine lifted → IsFormed lifted

-- the declared pairs of a domain's types
abbrev pub declared_pairs : Domain → List (ℕ × ℕ)
declared_pairs domain = pairs_of (types_of parts.Domain domain.types).value domain.types

-- in a lifted problem an object fits a parameter exactly where one of its types is a subtype of one of the parameter's types
abbrev pub ObjectsFitBySubtypes : Type 0
ObjectsFitBySubtypes =
    (domain : Domain) (problem : Problem) (lifted : Lifting) → lifting_of domain problem ≡ fine lifted → (schema place object : ℕ)
    → (fits lifted schema place object ≡ true)
    ↔ HasSubtype (declared_pairs domain) (slice_index_or lifted.kinds object []) (wanted_at lifted schema place)

-- names that are words of a text and whose actions differ give such names
abbrev pub LiftingsAreNamed : Type 0
LiftingsAreNamed =
    (domain : Domain) (problem : Problem) → IsNamedDomain domain → IsNamedProblem problem
    → HasWords (lifting_of domain problem).value × HasDistinctNames (lifting_of domain problem).value
