-- What waits at its cost: a bucket for each of the small costs, after Dial (Communications of the ACM 12, 1969), and a heap
-- for those above.
use Rattle.std.specs.Prelude.{◌≡◌, ◌<◌, ◌≤◌, ◌++◌, ℕ, suc, All, List, [], ◌∷◌, length, map, slice_index_or}
use Rattle.std.specs.Ordering.{nat_cmp, ordering_then}
use Rattle.std.specs.BinaryHeap.{IsHeap}
use Rattle.std.specs.declared.cmp.Reverse.{Reverse}

-- a cost that an atom was given, and the atom
abbrev pub Waiting : Type 0
Waiting = Reverse (ℕ × ℕ)

abbrev pub waiting_at : ℕ → ℕ → Waiting
waiting_at cost p = record { 0 = (cost, p) }

-- so many costs have a bucket
abbrev pub bucket_count : ℕ
bucket_count = 256

-- what waits in buckets, the first of which is that of a cost
abbrev pub in_buckets : ℕ → List (List ℕ) → List Waiting
in_buckets cost [] = []
in_buckets cost (atoms ∷ buckets) = map (waiting_at cost) atoms ++ in_buckets (suc cost) buckets

-- the buckets of the costs below `least` are empty; the heap has greater costs than buckets have, and is in order, the
-- least cost first
pub record AreBuckets (buckets : List (List ℕ)) (least : ℕ) (far : List Waiting) : Type 0 where
  pub count : length buckets ≡ bucket_count
  pub empty : (cost : ℕ) → cost < least → slice_index_or buckets cost [] ≡ []
  pub within : least ≤ bucket_count
  pub above : All (λ w. bucket_count ≤ w.0.0) far
  pub ordered : IsHeap (λ v w. ordering_then (nat_cmp w.0.0 v.0.0) (nat_cmp w.0.1 v.0.1)) far
