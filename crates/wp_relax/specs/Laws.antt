-- What holds of additive costs, supporters, wanted atoms and relaxed plans, whatever the actions are.
use Rattle.std.specs.Prelude.{◌≡◌, ◌⊎◌, ◌↔◌, ◌<◌, ◌≤◌, ℕ, Bool, true, false, All, IfSome, List, [], length, map, slice_index, slice_index_or, Option, Some, None}
use Rattle.wp_task.specs.declared.acts.Act.{Act}
use Rattle.wp_task.specs.Set.{has, lists}
use Rattle.wp_task.specs.Task.{act_at, leads_to, has_goals, IsAct}
use Rattle.wp_relax.specs.AdditiveCost.{infinite, price_of, next_costs, costs_of, supporter_of}
use Rattle.wp_relax.specs.RelaxedPlan.{needs, wanted_of, relaxed_plan_of}

-- a further round changes nothing
abbrev pub CostsSettle : Type 0
CostsSettle = (acts : List Act) (state : List Bool) → next_costs acts (costs_of acts state) ≡ costs_of acts state

-- each precondition of an atom's supporter costs less than the atom
abbrev pub SupportersNeedLess : Type 0
SupportersNeedLess = (acts : List Act) (state : List Bool) (costs : List ℕ) (p a q : ℕ) →
    supporter_of acts state costs p ≡ Some a → lists (act_at acts a).pre q ≡ true → slice_index costs q < slice_index costs p

-- the action adds the atom
pub record IsAdder (acts : List Act) (p a : ℕ) : Type 0 where
  pub number : a < length acts
  pub adds : lists (act_at acts a).add p ≡ true

-- a table of costs that no action makes cheaper, and in which each finite cost has a cause: the state, or an adder
-- whose price it is
pub record IsFixed (acts : List Act) (state : List Bool) (costs : List ℕ) : Type 0 where
  pub size : length costs ≡ length state
  pub most : (p : ℕ) → slice_index costs p ≤ infinite
  pub there : (p : ℕ) → has state p ≡ true → slice_index costs p ≡ 0
  pub least : (p a : ℕ) → p < length state → IsAdder acts p a → slice_index costs p ≤ price_of costs (act_at acts a)
  pub cause : (p : ℕ) → p < length state → slice_index costs p < infinite →
      (has state p ≡ true) ⊎ ((a : ℕ) × IsAdder acts p a × (price_of costs (act_at acts a) ≤ slice_index costs p))

-- the additive costs are the one table of this kind, however it is made
abbrev pub OneTable : Type 0
OneTable = (acts : List Act) (state : List Bool) (costs : List ℕ) → IsFixed acts state costs ↔ (costs ≡ costs_of acts state)

-- an atom has no supporter exactly where it is in the state or its cost is infinite
abbrev pub SupportersAreThere : Type 0
SupportersAreThere = (acts : List Act) (state : List Bool) (p : ℕ) → p < length state →
    (supporter_of acts state (costs_of acts state) p ≡ None)
    ↔ ((has state p ≡ true) ⊎ (infinite ≤ slice_index (costs_of acts state) p))

-- the set has each goal that the state lacks, and with each of its atoms whatever the atom's supporter needs and the
-- state lacks
pub record HasWanted (acts : List Act) (goals : List ℕ) (state : List Bool) (supporters : List (Option ℕ)) (set : List Bool) : Type 0 where
  pub unmet : (p : ℕ) → p < length state → lists goals p ≡ true → has state p ≡ false → has set p ≡ true
  pub closed : (p q : ℕ) → q < length state → has set p ≡ true → needs acts (slice_index_or supporters p None) q ≡ true →
      has state q ≡ false → has set q ≡ true

-- the set is one of these, and is within each of them
pub record IsLeastWanted (acts : List Act) (goals : List ℕ) (state : List Bool) (supporters : List (Option ℕ)) (set : List Bool) : Type 0 where
  pub size : length set ≡ length state
  pub wanted : HasWanted acts goals state supporters set
  pub least : (other : List Bool) → HasWanted acts goals state supporters other → (p : ℕ) → has set p ≡ true → has other p ≡ true

-- the wanted atoms are the least set that has them, however it is made
abbrev pub WantedAreLeast : Type 0
WantedAreLeast = (acts : List Act) (goals : List ℕ) (state : List Bool) (supporters : List (Option ℕ)) (set : List Bool) →
    IsLeastWanted acts goals state supporters set ↔ (set ≡ wanted_of acts goals state supporters)

-- the action under the delete relaxation
abbrev pub without_deletes : Act → Act
without_deletes act = record act { del = [] }

-- the relaxed plan reaches the goals: carried out in its order without deletes, each action applies in its turn, and
-- all goals hold at the end
abbrev pub RelaxedPlansReach : Type 0
RelaxedPlansReach = (acts : List Act) (goals : List ℕ) (state : List Bool) → All (IsAct (length state)) acts →
    All (λ p. p < length state) goals →
    IfSome (relaxed_plan_of acts goals state) (λ plan. has_goals goals (leads_to (map without_deletes acts) state plan) ≡ true)
