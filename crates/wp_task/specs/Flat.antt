-- How lists of numbers lie one after another in one: list i is from the i-th offset up to the next.
use Rattle.std.specs.Prelude.{◌≡◌, ℕ, ◌+◌, ◌-◌, ◌<◌, ◌≤◌, List, [], length, map, filter, slice_index, slice_index_or, slice_range}
use Rattle.std.specs.List.{range_with_len}
use Rattle.wp_task.specs.Set.{lists}

abbrev pub lists_in : List ℕ → List ℕ → List (List ℕ)
lists_in offsets items =
    map (λ i. slice_range items (slice_index offsets i) (slice_index offsets (i + 1))) (range_with_len 0 (length offsets - 1))

-- there is a first offset, they rise, and the last is the end
pub record AreOffsets (offsets items : List ℕ) : Type 0 where
  pub some : 0 < length offsets
  pub rising : (i : ℕ) → i + 1 < length offsets → slice_index offsets i ≤ slice_index offsets (i + 1)
  pub within : (i : ℕ) → slice_index offsets i ≤ length items
  pub last : slice_index offsets (length offsets - 1) ≡ length items

-- the places of the lists that have the number, in order
abbrev pub places_of : List (List ℕ) → ℕ → List ℕ
places_of ls p = filter (λ a. lists (slice_index_or ls a []) p) (range_with_len 0 (length ls))
