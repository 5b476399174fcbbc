-- Relaxed plans by best supporters, after Keyder and Geffner (ECAI 2008).
-- Ours: the supporter is the one of least number, and the plan is listed by price and then by number.
use Rattle.std.specs.Prelude.{◌==◌, ◌<◌, ◌&&◌, ◌||◌, not, ℕ, All, IfSome, nat_lt, zero, suc, Bool, false, List, [], ◌∷◌, length, map, fold, filter, slice_index, slice_index_or, if◌then◌else◌, Option, Some, None}
use Rattle.std.specs.List.{list_all, list_any, range_with_len}
use Rattle.wp_task.specs.declared.acts.Act.{Act}
use Rattle.wp_task.specs.Set.{has, lists}
use Rattle.wp_task.specs.Task.{act_at}
use Rattle.wp_relax.specs.AdditiveCost.{infinite, price_of, Pricing, pricing_of}

-- whether an atom's supporter, if it has one, needs q
abbrev pub needs : List Act → Option ℕ → ℕ → Bool
needs acts None q = false
needs acts (Some a) q = lists (act_at acts a).pre q

-- whether an atom's supporter, if it has one, adds q
abbrev pub adds : List Act → Option ℕ → ℕ → Bool
adds acts None q = false
adds acts (Some a) q = lists (act_at acts a).add q

-- whether the supporter of a wanted atom needs q
abbrev pub is_needed : List Act → List (Option ℕ) → List Bool → ℕ → Bool
is_needed acts supporters wanted q =
    list_any (λ p. has wanted p && needs acts (slice_index_or supporters p None) q) (range_with_len 0 (length wanted))

-- the wanted atoms after a number of rounds: at first the unmet goals, then what their supporters need and lack as well
abbrev pub more_wanted : List Act → List Bool → List (Option ℕ) → List Bool → List Bool
more_wanted acts state supporters wanted =
    map (λ q. has wanted q || (is_needed acts supporters wanted q && not (has state q))) (range_with_len 0 (length wanted))

abbrev pub wanted_after : List Act → List ℕ → List Bool → List (Option ℕ) → ℕ → List Bool
wanted_after acts goals state supporters zero = map (λ p. lists goals p && not (has state p)) (range_with_len 0 (length state))
wanted_after acts goals state supporters (suc d) = more_wanted acts state supporters (wanted_after acts goals state supporters d)

abbrev pub wanted_of : List Act → List ℕ → List Bool → List (Option ℕ) → List Bool
wanted_of acts goals state supporters = wanted_after acts goals state supporters (length state)

-- whether an atom has the action as its supporter
abbrev pub is_for : Option ℕ → ℕ → Bool
is_for None a = false
is_for (Some b) a = b == a

-- whether the action is the supporter of a wanted atom
abbrev pub supports : List (Option ℕ) → List Bool → ℕ → Bool
supports supporters wanted a =
    list_any (λ p. is_for (slice_index_or supporters p None) a && has wanted p) (range_with_len 0 (length wanted))

-- the numbers in the order of their prices, and of themselves where these are equal
abbrev pub is_sooner : (ℕ → ℕ) → ℕ → ℕ → Bool
is_sooner price a b = nat_lt (price a) (price b) || ((price a == price b) && nat_lt a b)

abbrev pub put_in : (ℕ → ℕ) → List ℕ → ℕ → List ℕ
put_in price [] a = a ∷ []
put_in price (b ∷ listed) a = if is_sooner price a b then a ∷ b ∷ listed else b ∷ put_in price listed a

abbrev pub in_order : (ℕ → ℕ) → List ℕ → List ℕ
in_order price numbers = fold (put_in price) [] numbers

-- whether each goal has a finite cost
abbrev pub in_reach : List ℕ → List ℕ → Bool
in_reach goals costs = list_all (λ p. nat_lt (slice_index costs p) infinite) goals

-- the supporters of the wanted atoms, in order
abbrev pub plan_by : List Act → List ℕ → Pricing → List Bool → Option (List ℕ)
plan_by acts goals pricing wanted =
    if in_reach goals pricing.costs
    then Some (in_order (λ a. price_of pricing.costs (act_at acts a))
    (filter (supports pricing.supporters wanted) (range_with_len 0 (length acts))))
    else None

abbrev pub plan_from : List Act → List ℕ → List Bool → Pricing → Option (List ℕ)
plan_from acts goals state pricing = plan_by acts goals pricing (wanted_of acts goals state pricing.supporters)

-- the relaxed plan at a state; there is none where a goal has no finite cost
abbrev pub relaxed_plan_of : List Act → List ℕ → List Bool → Option (List ℕ)
relaxed_plan_of acts goals state = plan_from acts goals state (pricing_of acts state)

-- whether some action of the plan adds q
abbrev pub is_added : List Act → List ℕ → ℕ → Bool
is_added acts plan q = list_any (λ a. lists (act_at acts a).add q) plan

abbrev pub added_by : List Act → List Bool → Option (List ℕ) → List ℕ
added_by acts state None = []
added_by acts state (Some plan) = filter (λ q. is_added acts plan q && not (has state q)) (range_with_len 0 (length state))

-- whether the supporter of a wanted atom adds q
abbrev pub is_wanted_added : List Act → List (Option ℕ) → List Bool → ℕ → Bool
is_wanted_added acts supporters wanted q =
    list_any (λ p. has wanted p && adds acts (slice_index_or supporters p None) q) (range_with_len 0 (length wanted))

-- the atoms that the relaxed plan adds and that are not in the state
abbrev pub relaxed_atoms_of : List Act → List ℕ → List Bool → List ℕ
relaxed_atoms_of acts goals state = added_by acts state (relaxed_plan_of acts goals state)

-- each supporter is an action
abbrev pub AreActs : ℕ → List (Option ℕ) → Type 0
AreActs count supporters = All (λ o. IfSome o (λ a. a < count)) supporters
