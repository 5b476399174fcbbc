-- How many words the tables of novelties take: for each pair of counters (#g, #r) of the nodes one for each tuple.
use Rattle.std.specs.Prelude.{◌≡◌, ◌≢◌, ◌↔◌, Contains, ◌==◌, ◌&&◌, ◌*◌, nat_eq, nat_lt, ℕ, Bool, List, [], ◌∷◌, ◌++◌, length, map, fold, if◌then◌else◌}
use Rattle.std.specs.List.{list_any, position_or_len, AllPairs}
use Rattle.std.specs.Cmp.Lexicographic.{pointwise}
use Rattle.wp_task.specs.Task.{PlanningTask}
use Rattle.wp_task.specs.Novelty.{Generated, tuples_in}
use Rattle.wp_plain.specs.declared.settings.Settings.{Settings}

abbrev pub has_pair : List (ℕ × ℕ) → ℕ × ℕ → Bool
has_pair pairs x = list_any (λ (y : ℕ × ℕ). (y.0 == x.0) && (y.1 == x.1)) pairs

-- the pairs, with one more
abbrev pub with_pair : List (ℕ × ℕ) → ℕ × ℕ → List (ℕ × ℕ)
with_pair pairs x = if has_pair pairs x then pairs else pairs ++ x ∷ []

-- the pairs are those of the nodes, each once
pub record ArePairsOf (nodes : List Generated) (pairs : List (ℕ × ℕ)) : Type 0 where
  pub has : (pair : ℕ × ℕ) → Contains pairs pair ↔ ((x : Generated) × Contains nodes x × (x.counters ≡ pair))
  pub once : AllPairs (λ x y. x ≢ y) pairs

-- the same, computed, in the order of the nodes
abbrev pub pairs_in : List Generated → List (ℕ × ℕ)
pairs_in nodes = fold with_pair [] (map (λ x. x.counters) nodes)

-- the computed pairs are those of the nodes; there is one number of them
pub record PairsAreListed : Type 0 where
  pub listed : (nodes : List Generated) → ArePairsOf nodes (pairs_in nodes)
  pub one : (nodes : List Generated) (pairs other : List (ℕ × ℕ)) → ArePairsOf nodes pairs → ArePairsOf nodes other →
      length pairs ≡ length other

abbrev pub tuple_count : ℕ → ℕ → ℕ
tuple_count width atoms = length (tuples_in width atoms)

-- the number of all tuples of a task
abbrev pub all_tuples : PlanningTask → Settings → ℕ
all_tuples task settings = tuple_count settings.width task.atoms

-- the place of a tuple in a list of tuples
abbrev pub place_in : List (List ℕ) → List ℕ → ℕ
place_in tuples tuple = position_or_len (pointwise nat_eq tuple) tuples

-- whether so many pairs want more words than the limit
abbrev pub exceeds : ℕ → ℕ → ℕ → Bool
exceeds words pairs tuples = nat_lt words (pairs * tuples)
