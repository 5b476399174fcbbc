-- The frontier at which atoms are settled in the order of their costs, after Dijkstra (Numerische Mathematik 1, 1959)
-- and Knuth (Information Processing Letters 6, 1977).
use Rattle.std.specs.Prelude.{◌≡◌, ◌==◌, ◌&&◌, ◌<◌, ◌≤◌, ℕ, nat_lt, min, Bool, false, All, Contains, List, length, map, fold, filter, slice_index, slice_index_or, Option, Some, None, if◌then◌else◌}
use Rattle.wp_task.specs.declared.acts.Act.{Act}
use Rattle.wp_task.specs.Set.{has, lists}
use Rattle.wp_task.specs.Task.{act_at}
use Rattle.wp_relax.specs.AdditiveCost.{infinite}
use Rattle.wp_relax.specs.Buckets.{Waiting, waiting_at}

-- the costs and supporters of the atoms so far, and which of them are settled
pub record Front : Type 0 where
  pub costs : List ℕ
  pub supporters : List (Option ℕ)
  pub settled : List Bool

-- p is not settled and has a finite cost, and no atom that is not settled costs less
pub record IsNearest (costs : List ℕ) (settled : List Bool) (p : ℕ) : Type 0 where
  pub within : p < length costs
  pub unsettled : has settled p ≡ false
  pub small : slice_index costs p < infinite
  pub least : (q : ℕ) → q < length costs → has settled q ≡ false → slice_index costs p ≤ slice_index costs q

-- no atom that is not settled has a finite cost
abbrev pub IsSpent : List ℕ → List Bool → Type 0
IsSpent costs settled = (q : ℕ) → q < length costs → has settled q ≡ false → infinite ≤ slice_index costs q

-- an atom may wait with an older cost than the one that it has
pub record IsKnown (costs : List ℕ) (w : Waiting) : Type 0 where
  pub within : w.0.1 < length costs
  pub lower : slice_index costs w.0.1 ≤ w.0.0
  pub small : w.0.0 < infinite

-- each atom that is not settled and has a finite cost waits with that cost
pub record IsFrontier (costs : List ℕ) (settled : List Bool) (waiting : List Waiting) : Type 0 where
  pub size : length settled ≡ length costs
  pub most : All (λ cost. cost ≤ infinite) costs
  pub known : All (IsKnown costs) waiting
  pub each : (p : ℕ) → p < length costs → has settled p ≡ false → slice_index costs p < infinite →
      Contains waiting (waiting_at (slice_index costs p) p)

-- an atom's cost, and the action of least number that offered it
pub record Offered : Type 0 where
  pub cost : ℕ
  pub supporter : Option ℕ

abbrev pub offered_to : Front → ℕ → Offered
offered_to front p = record { cost = slice_index front.costs p; supporter = slice_index_or front.supporters p None }

-- the supporter where an equal price is offered; an atom of the state, and one whose cost is infinite, has none
abbrev pub preferred : Option ℕ → ℕ → Option ℕ
preferred None a = None
preferred (Some b) a = Some (min a b)

-- the supporter after an action has offered a price
abbrev pub supporter_after : ℕ → Option ℕ → ℕ → ℕ → Option ℕ
supporter_after cost supporter a price =
    if nat_lt price cost then Some a else if price == cost then preferred supporter a else supporter

abbrev pub better : Offered → ℕ → ℕ → Offered
better now a price = record { cost = min now.cost price; supporter = supporter_after now.cost now.supporter a price }

-- whether an action adds the atom and has no precondition left that is not settled
abbrev pub offers : List Act → List ℕ → ℕ → ℕ → Bool
offers acts left p a = (slice_index left a == 0) && lists (act_at acts a).add p

-- the least of an atom's cost and the prices of those of the actions that offer one
abbrev pub least_offer : List Act → List ℕ → List ℕ → List ℕ → List ℕ → ℕ → ℕ
least_offer acts left prices numbers costs p =
    fold min (slice_index costs p) (map (slice_index prices) (filter (offers acts left p) numbers))

-- an atom's cost and supporter after one of the actions, and after all of them
abbrev pub after_offer : List Act → List ℕ → List ℕ → ℕ → Offered → ℕ → Offered
after_offer acts left prices p now a = if offers acts left p a then better now a (slice_index prices a) else now

abbrev pub after_offers : List Act → List ℕ → List ℕ → List ℕ → ℕ → Offered → Offered
after_offers acts left prices numbers p now = fold (after_offer acts left prices p) now numbers
