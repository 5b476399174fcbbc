use Rattle.std.proofs.Common.{◌≡◌, ◌<◌, ℕ, Bool, List, length, map, ap, ◌∙◌, subst}
use Rattle.std.specs.List.{All, filter, range_with_len}
use Rattle.std.specs.List.Sorted.{IsPermutation}
use Rattle.std.proofs.lemmas.List.Elements.{All-same, All-filter, filter_agree}
use Rattle.std.proofs.lemmas.List.Kept.{IsStrictlyIncreasing-filter}
use Rattle.std.proofs.lemmas.List.Sorted.{All-permutation}
use Rattle.std.proofs.lemmas.Result.{IfOk-weaker}
use Rattle.wp_task.specs.Set.{has}
use Rattle.wp_task.specs.Task.{act_at}
use Rattle.wp_task.proofs.TaskLemmas.{range_below}
use Rattle.wp_relax.specs.AdditiveCost.{price_of}
use Rattle.wp_relax.specs.RelaxedPlan.{supports, in_order}
use Rattle.wp_relax.proofs.OrderLemmas.{in_order-moves, sorted-in_order}
use Rattle.wp_relax.proofs.PlanLemmas.{range_rises}
use Rattle.wp_relax.proofs.plans.supporters_in_order.Goals.{After-drop-supporting-2}
use Rattle.wp_relax.proofs.plans.supporters_in_order.Goals as goal

-- the numbers of the sorted pairs
in_order_now : (c : After-drop-supporting-2) → map (λ (k : ℕ × ℕ). k.1) c.deref-2.result.now
    ≡ in_order (λ a. price_of c.args.costs.now.costs (act_at c.args.task.now.acts a))
    (filter (supports c.args.costs.now.supporters c.args.wanted.now) (range_with_len 0 (length c.args.task.now.acts)))
in_order_now c =
    let acts = c.args.task.now.acts in
    let price : ℕ → ℕ = λ a. price_of c.args.costs.now.costs (act_at acts a) in
    let test : ℕ → Bool = supports c.args.costs.now.supporters c.args.wanted.now in
    let among : List ℕ = filter test (range_with_len 0 (length acts)) in
    let pairs : c.in_ok-priced.priced.items ≡ map (λ a. (price a, a)) among =
    c.in_ok-priced.ensures
    ∙ (ap (λ (set : List Bool). map (λ a. (price a, a)) (filter (has set) (range_with_len 0 (length acts)))) c.deref.ensures.value
    ∙ ap (map (λ a. (price a, a))) (filter_agree (has c.in_ok-supporting.supporting.items) test c.in_ok-supporting.ensures.set (range_with_len 0 (length acts)))) in
    ap (map (λ (k : ℕ × ℕ). k.1)) c.deref-2.ensures.value
    ∙ sorted-in_order price among c.sort_unstable.new.self.items
    (IsStrictlyIncreasing-filter test (range_with_len 0 (length acts)) (range_rises (length acts)))
    (subst (λ (l : List (ℕ × ℕ)). IsPermutation l c.sort_unstable.new.self.items) pairs c.sort_unstable.ensures.permutation)
    c.sort_unstable.ensures.sorted

pub returns-clause-value : goal.returns-clause-value
returns-clause-value c =
    let wanted : List ℕ = in_order (λ a. price_of c.args.costs.now.costs (act_at c.args.task.now.acts a))
    (filter (supports c.args.costs.now.supporters c.args.wanted.now) (range_with_len 0 (length c.args.task.now.acts))) in
    IfOk-weaker c.without_prices.result (λ plan. plan ≡ map (λ (k : ℕ × ℕ). k.1) c.deref-2.result.now) (λ plan. plan ≡ wanted)
    (λ plan is. is ∙ in_order_now c) c.without_prices.ensures

pub returns-clause-numbers : goal.returns-clause-numbers
returns-clause-numbers c =
    let count = length c.args.task.now.acts in
    let price : ℕ → ℕ = λ a. price_of c.args.costs.now.costs (act_at c.args.task.now.acts a) in
    let test : ℕ → Bool = supports c.args.costs.now.supporters c.args.wanted.now in
    let among : List ℕ = filter test (range_with_len 0 count) in
    let below : All (λ a. a < count) (in_order price among) =
    All-permutation (λ a. a < count) among (in_order price among) (in_order-moves price among)
    (All-filter test (λ a. a < count) (range_with_len 0 count) (range_below count)) in
    IfOk-weaker c.without_prices.result (λ plan. plan ≡ map (λ (k : ℕ × ℕ). k.1) c.deref-2.result.now) (All (λ a. a < count))
    (λ plan is. All-same (λ a. a < count) plan (in_order price among) (is ∙ in_order_now c) below) c.without_prices.ensures
