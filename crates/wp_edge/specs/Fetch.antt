-- What a fetch from a shelf of files may answer, and what each answer says of the files.
-- A shelf that tells its contents tells a finite map from names to bytes; another tells nothing.
use Rattle.std.specs.Prelude.{◌≡◌, ℕ, ◌+◌, ◌≤◌, ◌<◌, List, length, Option, Some, None, ◌⊎◌}
use Rattle.std.specs.FinMap.{FinMap, get}
use Rattle.std.specs.Cmp.Lexicographic.{slice_cmp}
use Rattle.std.specs.Ordering.{nat_cmp}
use Rattle.wp_edge.specs.Faults.{Rose}
use Rattle.wp_edge.specs.declared.shelf.FetchError.{FetchError}
use Rattle.wp_edge.specs.declared.shelf.FetchError.TheVariants.{Failed, TooLong, Memory}

-- the bytes of each name that is there
abbrev pub Contents : Type 0
Contents = FinMap (slice_cmp nat_cmp) (List ℕ)

-- the shelf tells its contents, and the name is not among them
abbrev pub IsMissing : Option Contents → List ℕ → Type 0
IsMissing contents name = (files : Contents) × (contents ≡ Some files) × (get files name ≡ None)

-- the shelf's count of faults rose in this fetch; so it is said to have at a name that is not there
abbrev pub IsFault : Option Contents → List ℕ → ℕ → ℕ → Type 0
IsFault contents name before now = Rose before now ⊎ IsMissing contents name

-- the bytes are within the limit, and are those of the name where the shelf tells
pub record IsFetched (contents : Option Contents) (name : List ℕ) (limit : ℕ) (bytes : List ℕ) : Type 0 where
  pub within : length bytes ≤ limit
  pub told : (files : Contents) → contents ≡ Some files → get files name ≡ Some bytes

-- more than the limit was given, and the file of the name is that long where the shelf tells
pub record IsTooLong (contents : Option Contents) (name : List ℕ) (limit got : ℕ) : Type 0 where
  pub next : got ≡ limit + 1
  pub told : (files : Contents) → contents ≡ Some files → (bytes : List ℕ) × (get files name ≡ Some bytes) × (limit < length bytes)

-- when each error comes; want of memory needs no cause
abbrev pub IsCause : Option Contents → List ℕ → ℕ → ℕ → ℕ → FetchError → Type 0
IsCause contents name limit before now Failed = IsFault contents name before now
IsCause contents name limit before now (TooLong got) = IsTooLong contents name limit got
IsCause contents name limit before now Memory = Unit {0}
