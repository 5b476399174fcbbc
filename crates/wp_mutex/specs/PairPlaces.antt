-- Places of tuples in a table that has no words for the pairs that are not possible.
-- Ours: the single atoms come first, by number; then the possible pairs, by their greater atom and then by their lesser one.
use Rattle.std.specs.Prelude.{◌≡◌, ℕ, ◌+◌, ◌*◌, ◌/◌, ◌<◌, ◌≤◌, Bool, List, [], length, slice_index, slice_index_or}
use Rattle.std.specs.List.{count_by, sum_by, range_with_len}
use Rattle.wp_task.specs.Set.{has}
use Rattle.wp_tuples.specs.Placing.{Placing}
use Rattle.wp_mutex.specs.PossiblePairs.{joins, HasRows}

-- how many of the atoms below p are in the set
abbrev pub count_below : List Bool → ℕ → ℕ
count_below set p = count_by (has set) (range_with_len 0 p)

-- how many possible pairs have their greater atom below q
abbrev pub pairs_before : List (List Bool) → ℕ → ℕ
pairs_before pairs q = sum_by (λ s. count_below (slice_index_or pairs s []) s) (range_with_len 0 q)

abbrev pub place_of_pair : List (List Bool) → ℕ → ℕ → ℕ
place_of_pair pairs p q = length pairs + pairs_before pairs q + count_below (slice_index_or pairs q []) p

-- the index of the possible pairs
abbrev pub possible_placed : List (List Bool) → Placing
possible_placed pairs = record {
  atoms = length pairs;
  width = 2;
  len = length pairs + pairs_before pairs (length pairs);
  counted = joins pairs;
  atom_place = λ p. p;
  pair_place = place_of_pair pairs;
}

-- for each row there are the places of the first pairs of its words
pub record AreStarts (pairs : List (List Bool)) (stride : ℕ) (starts : List ℕ) (rows : ℕ) : Type 0 where
  pub room : length starts ≡ rows * stride
  pub each : (q k : ℕ) → q < rows → k < stride → slice_index starts (q * stride + k) ≡ place_of_pair pairs (64 * k) q

pub record IsIndex (pairs : List (List Bool)) (stride : ℕ) (starts : List ℕ) (len : ℕ) : Type 0 where
  pub rows : HasRows (length pairs) pairs
  pub few : length pairs ≤ 8192
  pub words : stride ≡ (length pairs + 63) / 64
  pub places : AreStarts pairs stride starts (length pairs)
  pub all : len ≡ length pairs + pairs_before pairs (length pairs)
