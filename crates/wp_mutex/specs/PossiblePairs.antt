-- The pairs of atoms that h2 leaves possible, after Haslum and Geffner (AIPS 2000): a pair that is not among them is never
-- true together, so the others are mutexes.
-- Ours: an atom is a pair with itself. A set of pairs is a triangle of flags, in which row q has one for each p up to q; so
-- pairs have no order.
use Rattle.std.specs.Prelude.{◌≡◌, ◌&&◌, ◌||◌, not, ℕ, ◌+◌, ◌*◌, ◌<◌, zero, suc, max, min, Bool, true, List, [], length, map, Contains, slice_index_or}
use Rattle.std.specs.List.{list_all, list_any, range_with_len}
use Rattle.wp_task.specs.declared.acts.Act.{Act}
use Rattle.wp_task.specs.Set.{has, lists}

-- whether a pair is in the set
abbrev pub joins : List (List Bool) → ℕ → ℕ → Bool
joins pairs p q = has (slice_index_or pairs (max p q) []) (min p q)

-- the pairs of the atoms below n of which a test holds
abbrev pub pairs_by : ℕ → (ℕ → ℕ → Bool) → List (List Bool)
pairs_by n test = map (λ q. map (λ p. test p q) (range_with_len 0 (q + 1))) (range_with_len 0 n)

-- whether an atom is possible with each of the listed ones
abbrev pub joins_all : (ℕ → ℕ → Bool) → List ℕ → ℕ → Bool
joins_all pair atoms q = list_all (λ p. pair p q) atoms

-- whether the preconditions are pairwise possible, each with itself too
abbrev pub may_apply : (ℕ → ℕ → Bool) → Act → Bool
may_apply pair act = list_all (joins_all pair act.pre) act.pre

-- whether q may be true after the action: it is added, or it may be true beside the preconditions and is not deleted
abbrev pub may_follow : (ℕ → ℕ → Bool) → Act → ℕ → Bool
may_follow pair act q = lists act.add q || ((pair q q && joins_all pair act.pre q) && not (lists act.del q))

-- whether the action makes the pair possible
abbrev pub makes : (ℕ → ℕ → Bool) → ℕ → ℕ → Act → Bool
makes pair p q act =
    may_apply pair act && ((lists act.add p && may_follow pair act q) || (lists act.add q && may_follow pair act p))

-- with the pairs that some action makes possible
abbrev pub more_pairs : List Act → List (List Bool) → List (List Bool)
more_pairs acts pairs = pairs_by (length pairs) (λ p q. joins pairs p q || list_any (makes (joins pairs) p q) acts)

-- at first the pairs of the state, then round by round those that the actions make possible
abbrev pub pairs_after : List Act → List Bool → ℕ → List (List Bool)
pairs_after acts state zero = pairs_by (length state) (λ p q. has state p && has state q)
pairs_after acts state (suc d) = more_pairs acts (pairs_after acts state d)

-- the possible pairs: there are fewer rounds that add a pair than squares of the triangle
abbrev pub possible_pairs : List Act → List Bool → List (List Bool)
possible_pairs acts state = pairs_after acts state (length state * length state)

-- ---- the same, as the least set of its kind
-- the set is one of pairs of the atoms below n
pub record HasRows (n : ℕ) (pairs : List (List Bool)) : Type 0 where
  pub count : length pairs ≡ n
  pub each : (q : ℕ) → q < n → length (slice_index_or pairs q []) ≡ q + 1

-- every two atoms of the state are a pair of the set
abbrev pub HasPairsOf : List Bool → List (List Bool) → Type 0
HasPairsOf state pairs = (p q : ℕ) → has state p ≡ true → has state q ≡ true → joins pairs p q ≡ true

-- what the actions make possible of the pairs that are known is in the set
abbrev pub IsStep : List Act → ℕ → (ℕ → ℕ → Bool) → List (List Bool) → Type 0
IsStep acts n known pairs = (act : Act) (p q : ℕ) → Contains acts act → p < n → q < n → may_apply known act ≡ true →
    lists act.add p ≡ true → may_follow known act q ≡ true → joins pairs p q ≡ true

-- each pair of the one set is in the other
abbrev pub ArePairsOf : List (List Bool) → List (List Bool) → Type 0
ArePairsOf less more = (p q : ℕ) → joins less p q ≡ true → joins more p q ≡ true

-- the set has the pairs of the state, and all that the actions make possible of its own
pub record IsClosed (acts : List Act) (state : List Bool) (pairs : List (List Bool)) : Type 0 where
  pub opening : HasPairsOf state pairs
  pub steps : IsStep acts (length state) (joins pairs) pairs
