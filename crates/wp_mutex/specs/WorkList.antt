-- The work list of new pairs. A pair waits from its entry into the set until the actions that wait for it were looked at; then it is
-- settled.
use Rattle.std.specs.Prelude.{◌≡◌, ◌==◌, ◌&&◌, ◌||◌, not, ℕ, ◌+◌, ◌<◌, ◌≤◌, true, Bool, List, length, All}
use Rattle.std.specs.List.{count_by, list_any, sum_by}
use Rattle.wp_task.specs.declared.acts.Act.{Act}
use Rattle.wp_task.specs.Set.{lists}
use Rattle.wp_mutex.specs.PossiblePairs.{joins, may_apply, may_follow, possible_pairs, HasRows, HasPairsOf, ArePairsOf, IsStep}

-- the set so far, and the pairs that wait
pub record Work : Type 0 where
  pub pairs : List (List Bool)
  pub waiting : List (ℕ × ℕ)

-- how many pairs are not in the set
abbrev pub unset : List Bool → ℕ
unset row = count_by (λ b. not b) row

abbrev pub missing : List (List Bool) → ℕ
missing pairs = sum_by unset pairs

-- whether the one pair is the other, in whichever order
abbrev pub is_pair : ℕ → ℕ → ℕ × ℕ → Bool
is_pair p q pair = ((pair.0 == p) && (pair.1 == q)) || ((pair.0 == q) && (pair.1 == p))

abbrev pub waits : List (ℕ × ℕ) → ℕ → ℕ → Bool
waits waiting p q = list_any (is_pair p q) waiting

abbrev pub is_settled : Work → ℕ → ℕ → Bool
is_settled work p q = joins work.pairs p q && not (waits work.waiting p q)

abbrev pub AreBelow : ℕ → List (ℕ × ℕ) → Type 0
AreBelow n waiting = All (λ pair. (pair.0 < n) × (pair.1 < n)) waiting

-- ---- from one moment to a later one
-- pairs are only added, and each that is added waits
pub record Grows (old new : Work) : Type 0 where
  pub size : length new.pairs ≡ length old.pairs
  pub rows : (n : ℕ) → HasRows n old.pairs → HasRows n new.pairs
  pub more : ArePairsOf old.pairs new.pairs
  pub settled : (p q : ℕ) → is_settled new p q ≡ true → is_settled old p q ≡ true
  pub less : length new.waiting + missing new.pairs ≤ length old.waiting + missing old.pairs

-- only pairs of which a test holds are added: each set that has these and all before has all after
abbrev pub IsWithin : (ℕ → ℕ → Bool) → List (List Bool) → List (List Bool) → Type 0
IsWithin test before after = (other : List (List Bool)) → ArePairsOf before other →
    ((p q : ℕ) → test p q ≡ true → joins other p q ≡ true) → ArePairsOf after other

-- only pairs that actions make possible are added: each closed set that has all before has all after
abbrev pub IsSound : List Act → List (List Bool) → List (List Bool) → Type 0
IsSound acts before after = (other : List (List Bool)) → IsStep acts (length before) (joins other) other →
    ArePairsOf before other → ArePairsOf after other

-- whether the action may make pairs with q that it did not before the pair of a and b was known
abbrev pub concerns : Act → ℕ → ℕ → ℕ → Bool
concerns act a b q =
    (lists act.pre a && lists act.pre b) || (((a == q) || (b == q)) && ((lists act.pre a || lists act.pre b) || (a == b)))

-- of the atoms q of which a test holds, the pairs that the action makes possible of those before are there after
abbrev pub HasMade : Act → (ℕ → Bool) → List (List Bool) → List (List Bool) → Type 0
HasMade act test before after = (p q : ℕ) → p < length before → q < length before → test q ≡ true →
    may_apply (joins before) act ≡ true → lists act.add p ≡ true → may_follow (joins before) act q ≡ true →
    joins after p q ≡ true

-- ---- at every moment
-- the set has the pairs of the opening state and what the actions make possible of those that are settled, and is within
-- the possible pairs
pub record IsSettling (acts : List Act) (init : List Bool) (work : Work) : Type 0 where
  pub rows : HasRows (length init) work.pairs
  pub opening : HasPairsOf init work.pairs
  pub steps : IsStep acts (length init) (is_settled work) work.pairs
  pub within : ArePairsOf work.pairs (possible_pairs acts init)
