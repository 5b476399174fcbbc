-- Additive costs of atoms under the delete relaxation, after Bonet and Geffner (AIJ 2001).
-- Ours: the number of rounds is the number of atoms, and a cost of 2 ^ 60 or more is infinite.
use Rattle.std.specs.Prelude.{◌==◌, ◌+◌, ◌^◌, ℕ, min, nat_lt, zero, suc, Bool, List, map, fold, slice_index, length, if◌then◌else◌, Option, Some, None, find}
use Rattle.std.specs.List.{range_with_len, sum_by}
use Rattle.wp_task.specs.declared.acts.Act.{Act}
use Rattle.wp_task.specs.Set.{has}
use Rattle.wp_task.specs.Task.{act_at, adders_of}

-- an infinite cost is this number, and no cost is above it
abbrev pub infinite : ℕ
infinite = 2 ^ 60

-- 1 and the costs of the preconditions
abbrev pub price_of : List ℕ → Act → ℕ
price_of costs act = min infinite (1 + sum_by (slice_index costs) act.pre)

-- the least of the cost so far and the prices of the actions that add the atom
abbrev pub improved : List Act → List ℕ → ℕ → ℕ
improved acts costs p = fold min (slice_index costs p) (map (λ a. price_of costs (act_at acts a)) (adders_of acts p))

abbrev pub next_costs : List Act → List ℕ → List ℕ
next_costs acts costs = map (improved acts costs) (range_with_len 0 (length costs))

-- the costs after a number of rounds: at first only the atoms of the state have one
abbrev pub costs_after : List Act → List Bool → ℕ → List ℕ
costs_after acts state zero = map (λ there. if there then 0 else infinite) state
costs_after acts state (suc d) = next_costs acts (costs_after acts state d)

abbrev pub costs_of : List Act → List Bool → List ℕ
costs_of acts state = costs_after acts state (length state)

-- the cost that a caller is told
abbrev pub finite : ℕ → Option ℕ
finite cost = if nat_lt cost infinite then Some cost else None

-- the action of least number that adds the atom and attains its cost; an atom of the state or without a finite cost has none
abbrev pub supporter_of : List Act → List Bool → List ℕ → ℕ → Option ℕ
supporter_of acts state costs p =
    if has state p then None else
    if nat_lt (slice_index costs p) infinite
    then find (λ a. price_of costs (act_at acts a) == slice_index costs p) (adders_of acts p)
    else None

abbrev pub supporters_of : List Act → List Bool → List ℕ → List (Option ℕ)
supporters_of acts state costs = map (supporter_of acts state costs) (range_with_len 0 (length state))

-- the atoms' costs and supporters in a state
pub record Pricing : Type 0 where
  pub costs : List ℕ
  pub supporters : List (Option ℕ)

abbrev pub pricing_of : List Act → List Bool → Pricing
pricing_of acts state = record {
  costs = costs_of acts state;
  supporters = supporters_of acts state (costs_of acts state);
}
