-- The shelf and the sink in memory. Their calls are numbered from 1; those whose numbers are listed fail.
use Rattle.std.specs.Prelude.{◌≡◌, ℕ, ◌+◌, ◌-◌, ◌<◌, ◌≤◌, Bool, ◌||◌, ◌==◌, nat_eq, List, ◌++◌, length, take, min, if◌then◌else◌, Option, Some, None, Result, Ok, Err}
use Rattle.std.specs.Global.{Vec}
use Rattle.std.specs.List.{list_any}
use Rattle.wp_edge.specs.Faults.{one_more}
use Rattle.wp_edge.specs.declared.files.File.{File}
use Rattle.wp_edge.specs.declared.shelf.FetchError.{FetchError}
use Rattle.wp_edge.specs.declared.shelf.FetchError.TheVariants.{Failed, TooLong, Memory}

abbrev pub is_listed : List ℕ → ℕ → Bool
is_listed fails number = list_any (λ n. nat_eq n number) fails

-- the files, the calls that fail, how many calls there were, how many of the listed ones among them
pub record Shelved : Type 0 where
  pub files : List File
  pub fails : List ℕ
  pub calls : ℕ
  pub faults : ℕ

-- its next call is one that fails
abbrev pub fails_next : Shelved → Bool
fails_next shelf = is_listed shelf.fails (one_more shelf.calls)

-- as it stands after one more fetch
abbrev pub fetched_once : Shelved → Shelved
fetched_once shelf = record shelf {
  calls = one_more shelf.calls;
  faults = (if fails_next shelf then one_more shelf.faults else shelf.faults);
}

-- what was taken, the room that is left, how much a call takes at most, and as above
pub record Taken : Type 0 where
  pub held : List ℕ
  pub room : ℕ
  pub most : ℕ
  pub fails : List ℕ
  pub calls : ℕ
  pub faults : ℕ

-- its next call is one that fails, or no room is left
abbrev pub refuses_next : Taken → Bool
refuses_next sink = is_listed sink.fails (one_more sink.calls) || (sink.room == 0)

-- how much of a piece the next call takes
abbrev pub taken_next : Taken → List ℕ → ℕ
taken_next sink piece = if refuses_next sink then 0 else min (min sink.most sink.room) (length piece)

-- as it stands after one more put
abbrev pub put_once : Taken → List ℕ → Taken
put_once sink piece = record sink {
  held = sink.held ++ take (taken_next sink piece) piece;
  room = sink.room - taken_next sink piece;
  calls = one_more sink.calls;
  faults = (if refuses_next sink then one_more sink.faults else sink.faults);
}

-- the bytes of a file, where it is there, within the limit and memory is not refused
abbrev pub IsRead : Option (List ℕ) → ℕ → Result (Vec ℕ) FetchError → Type 0
IsRead None limit result = result ≡ Err Failed
IsRead (Some bytes) limit (Ok read) = (read.items ≡ bytes) × (length bytes ≤ limit)
IsRead (Some bytes) limit (Err Failed) = ⊥
IsRead (Some bytes) limit (Err (TooLong got)) = (got ≡ limit + 1) × (limit < length bytes)
IsRead (Some bytes) limit (Err Memory) = Unit {0}
