-- Names: whether one is there already, and how many there may be.
use Rattle.std.specs.Prelude.{ℕ, Bool, List}
use Rattle.std.specs.List.{list_any}
use Rattle.std.specs.Str.{bytes_eq}
use Rattle.wp_syntax.specs.declared.records.Name.{Name}

-- an item has the name
abbrev pub has_named : {A : Type 0} → (A → Name) → List ℕ → List A → Bool
has_named name_of text items = list_any (λ item. bytes_eq (name_of item).text text) items

-- so many predicates, and so many actions, a domain may have
abbrev pub most_declared : ℕ
most_declared = 4096

-- so many parameters an action or a predicate may have
abbrev pub most_params : ℕ
most_params = 32
