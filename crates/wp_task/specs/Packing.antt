-- How a set of atoms lies in words of 64 bits: the flag of atom p is bit p % 64 of word p / 64.
use Rattle.std.specs.Prelude.{◌≡◌, ◌==◌, ℕ, ◌+◌, ◌*◌, ◌/◌, ◌%◌, ◌^◌, ◌<◌, ◌≤◌, Bool, true, false, List, length, map, slice_index, if◌then◌else◌}
use Rattle.std.specs.List.{range_with_len, sum_by}
use Rattle.std.specs.Int.{w64, bit_at, bit_not}
use Rattle.std.specs.Int.Bits.{bit_and}
use Rattle.std.specs.Int.RustNames.{count_ones}
use Rattle.std.specs.Hash.{HashWrites, slice, u64}
use Rattle.wp_task.specs.Set.{has}

-- whether the bit of atom p is set; past the last word none is
unfoldable pub bit_in : List ℕ → ℕ → Bool
bit_in words p = bit_at (slice_index words (p / 64)) (p % 64) == 1

-- the flags of the atoms below `size`
abbrev pub flags_in : List ℕ → ℕ → List Bool
flags_in words size = map (bit_in words) (range_with_len 0 size)

-- the words are just enough for `size` atoms, and no bit from `size` on is set
pub record IsPacked (words : List ℕ) (size : ℕ) : Type 0 where
  pub room : length words ≡ (size + 63) / 64
  pub spare : (p : ℕ) → size ≤ p → bit_in words p ≡ false

-- how many bits are set in the wanted word and not in the other
abbrev pub missing_in : ℕ → ℕ → ℕ
missing_in word wanted = count_ones (bit_and wanted (bit_not w64 word))

-- the least set bit of a word from a place on
pub record IsLeastBit (word from bit : ℕ) : Type 0 where
  pub late : from ≤ bit
  pub is_one : bit_at word bit ≡ 1
  pub zeros_before : (i : ℕ) → from ≤ i → i < bit → bit_at word i ≡ 0

-- the least p whose bit is set, from a number on
pub record IsNextBit (words : List ℕ) (from p : ℕ) : Type 0 where
  pub late : from ≤ p
  pub is_set : bit_in words p ≡ true
  pub none_before : (q : ℕ) → from ≤ q → q < p → bit_in words q ≡ false

-- the number whose bits are 64 flags of a set, from that of atom 64 * place on
unfoldable pub word_of : List Bool → ℕ → ℕ
word_of set place = sum_by (λ i. if has set (64 * place + i) then 2 ^ i else 0) (range_with_len 0 64)

-- the words that a set is packed into
abbrev pub words_of : List Bool → List ℕ
words_of set = map (word_of set) (range_with_len 0 ((length set + 63) / 64))

-- what is hashed of a set: its words
abbrev pub hashed_words : List Bool → HashWrites
hashed_words set = slice u64 (words_of set)
