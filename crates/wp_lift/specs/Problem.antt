-- The lifted problem: objects, predicates and action schemas by number, and the instances of its schemas.
use Rattle.std.specs.Prelude.{ℕ, ◌+◌, ◌&&◌, Bool, true, false, List, [], ◌∷◌, length, map, filter, slice_index_or}
use Rattle.std.specs.List.{flat_map, list_any, range_with_len}
use Rattle.wp_lift.specs.declared.atoms.GroundAtom.{GroundAtom}
use Rattle.wp_lift.specs.declared.schemas.Pred.{Pred}
use Rattle.wp_lift.specs.declared.schemas.Schema.{Schema}

pub record Lifting : Type 0 where
  pub objects : List (List ℕ)  -- their names
  pub kinds : List (List ℕ)  -- of each object the numbers of its declared types
  pub preds : List Pred
  pub schemas : List Schema
  pub wanted : List (List (List ℕ))  -- of each schema and parameter the numbers of its types
  pub subtypes : List (List Bool)  -- of each type, for each type whether it is a subtype of that
  pub opening : List GroundAtom  -- the stated atoms, in text order
  pub goals : List GroundAtom  -- in text order

-- a schema with an object for each parameter
pub record Instance : Type 0 where
  pub schema : ℕ
  pub args : List ℕ

abbrev pub schema_at : Lifting → ℕ → Schema
schema_at lifted s = slice_index_or lifted.schemas s (record { name = []; arity = 0; conds = []; effects = [] })

abbrev pub pred_at : Lifting → ℕ → Pred
pred_at lifted p = slice_index_or lifted.preds p (record { name = []; arity = 0 })

abbrev pub is_subtype : Lifting → ℕ → ℕ → Bool
is_subtype lifted kind above = slice_index_or (slice_index_or lifted.subtypes kind []) above false

-- the types of a schema's parameter
abbrev pub wanted_at : Lifting → ℕ → ℕ → List ℕ
wanted_at lifted s place = slice_index_or (slice_index_or lifted.wanted s []) place []

-- the object has a type that is a subtype of one of the parameter's types
abbrev pub fits : Lifting → ℕ → ℕ → ℕ → Bool
fits lifted s place object =
    list_any (λ kind. list_any (λ above. is_subtype lifted kind above) (wanted_at lifted s place)) (slice_index_or lifted.kinds object [])

-- the objects that fit a parameter, in their order
abbrev pub fitting : Lifting → ℕ → ℕ → List ℕ
fitting lifted s place = filter (fits lifted s place) (range_with_len 0 (length lifted.objects))

-- the tuples of one item from each list, in lexicographic order
abbrev pub tuples_of : List (List ℕ) → List (List ℕ)
tuples_of [] = [] ∷ []
tuples_of (choices ∷ rest) = let tails = tuples_of rest in flat_map (λ (x : ℕ). map (λ (tail : List ℕ). x ∷ tail) tails) choices

-- the argument tuples of a schema's instances, in lexicographic order
abbrev pub tuples_for : Lifting → ℕ → List (List ℕ)
tuples_for lifted s = tuples_of (map (fitting lifted s) (range_with_len 0 (schema_at lifted s).arity))

-- all instances, by schema and then by argument tuple
abbrev pub instances : Lifting → List Instance
instances lifted =
    flat_map (λ (s : ℕ). map (λ (args : List ℕ). let step : Instance = record { schema = s; args = args } in step) (tuples_for lifted s))
    (range_with_len 0 (length lifted.schemas))

-- each argument fits the parameter at its place, counted from the given one
abbrev pub all_fit : Lifting → ℕ → ℕ → List ℕ → Bool
all_fit lifted s place [] = true
all_fit lifted s place (object ∷ args) = fits lifted s place object && all_fit lifted s (place + 1) args
