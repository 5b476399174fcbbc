-- Rows of flags, packed into words of 64 bits, and how they are closed: a search goes from each type in turn, in any order, and at a type
-- whose own search is over it takes all that is above and goes no further.
use Rattle.std.specs.Prelude.{ℕ, ◌≡◌, ◌↔◌, ◌<◌, ◌==◌, ◌&&◌, ◌||◌, ◌/◌, ◌%◌, not, Bool, true, false, List, [], length, map, slice_index, slice_index_or, slice_set, Contains, if◌then◌else◌}
use Rattle.std.specs.List.{range_with_len}
use Rattle.std.specs.Int.{bit_at}
use Rattle.wp_lift.specs.Typing.{is_flagged}

-- whether the bit of a place is set; past the last word none is
unfoldable pub bit_in : List ℕ → ℕ → Bool
bit_in words p = bit_at (slice_index words (p / 64)) (p % 64) == 1

abbrev pub flags_in : List ℕ → ℕ → List Bool
flags_in words count = map (bit_in words) (range_with_len 0 count)

-- the flags of two rows of one length; a row of another length adds none
abbrev pub either : List Bool → List Bool → List Bool
either row other =
    if length row == length other then map (λ (b : ℕ). is_flagged row b || is_flagged other b) (range_with_len 0 (length row)) else row

-- a place that two rows have, and a third has not
abbrev pub is_wanted : List Bool → List Bool → List Bool → ℕ → Bool
is_wanted row within beyond p = is_flagged row p && (is_flagged within p && not (is_flagged beyond p))

-- the same of the bits of words
abbrev pub is_wanted_bit : List ℕ → List ℕ → List ℕ → ℕ → Bool
is_wanted_bit words within beyond p = bit_in words p && (bit_in within p && not (bit_in beyond p))

-- the first such place
abbrev pub IsFirstWanted : List ℕ → List ℕ → List ℕ → ℕ → Type 0
IsFirstWanted words within beyond p =
    (is_wanted_bit words within beyond p ≡ true) × ((q : ℕ) → q < p → is_wanted_bit words within beyond q ≡ false)

-- as many rows as flags in each
pub record IsSquare (n : ℕ) (rows : List (List Bool)) : Type 0 where
  pub count : length rows ≡ n
  pub width : (a : ℕ) → a < n → length (slice_index_or rows a []) ≡ n

abbrev pub is_marked : List (List Bool) → ℕ → ℕ → Bool
is_marked rows a b = is_flagged (slice_index_or rows a []) b

-- a type leads to another by way of flags, from row to row
pub data Leads (rows : List (List Bool)) : ℕ → ℕ → Type 0 where
  once : (a b : ℕ) → is_marked rows a b ≡ true → Leads rows a b
  by_way : (a b c : ℕ) → is_marked rows a b ≡ true → Leads rows b c → Leads rows a c

-- the flags of all to which a type leads
abbrev pub IsReached : List (List Bool) → ℕ → List Bool → Type 0
IsReached rows a found = (c : ℕ) → (is_flagged found c ≡ true) ↔ Leads rows a c

-- the rows of these types have all to which they lead
abbrev pub AreClosed : List (List Bool) → List Bool → Type 0
AreClosed rows closed = (b : ℕ) → is_flagged closed b ≡ true → IsReached rows b (slice_index_or rows b [])

-- of each type the flags of all to which it led at the start
pub record IsClosure (n : ℕ) (start rows : List (List Bool)) : Type 0 where
  pub square : IsSquare n rows
  pub reached : (a : ℕ) → a < n → IsReached start a (slice_index_or rows a [])

-- what a search has seen, when it sees one more type: all of its row, where that type's own search is over
abbrev pub seen_with : Bool → List Bool → ℕ → List Bool → List Bool
seen_with is_closed seen b row = if is_closed then either (slice_set seen b true) row else slice_set seen b true

-- all of so many types, and nothing else
pub record IsOrder (count : ℕ) (order : List ℕ) : Type 0 where
  pub below : (a : ℕ) → Contains order a → a < count
  pub each : (a : ℕ) → a < count → Contains order a

-- types, with a flag for each that is among them, and for none besides
pub record IsListing (order : List ℕ) (listed : List Bool) : Type 0 where
  pub below : (a : ℕ) → Contains order a → a < length listed
  pub known : (a : ℕ) → is_flagged listed a ≡ true → Contains order a

-- the second type of a pair is above the first
abbrev pub marked : List (List Bool) → ℕ × ℕ → List (List Bool)
marked rows pair = slice_set rows pair.0 (slice_set (slice_index_or rows pair.0 []) pair.1 true)
