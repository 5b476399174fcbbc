use Rattle.std.proofs.Common.{◌≡◌, ◌<◌, ◌+◌, ◌-◌, ℕ, min, cond, false, None, Bool, List, length, get_or, replicate, sym, ap, ◌∙◌, subst, arith}
use Rattle.std.specs.List.{All}
use Rattle.std.specs.List.Sorted.{IsStrictlyIncreasing}
use Rattle.std.proofs.lemmas.Bool.{cond-false}
use Rattle.std.proofs.lemmas.List.{length-map, length-replicate}
use Rattle.std.proofs.lemmas.List.Elements.{All-same}
use Rattle.wp_task.specs.declared.acts.Act.{Act}
use Rattle.wp_task.specs.Set.{lists}
use Rattle.wp_task.specs.Task.{needers_of, IsAct}
use Rattle.wp_task.proofs.TaskLemmas.{needers_below}
use Rattle.wp_relax.specs.AdditiveCost.{infinite, supporters_of}
use Rattle.wp_relax.specs.Frontier.{IsNearest, least_offer, offered_to, after_offers}
use Rattle.wp_relax.proofs.InOrder.{IsSettling, is_start, starts, ends}
use Rattle.wp_relax.proofs.OfferLemmas.{offers-cost}
use Rattle.wp_relax.proofs.OneSettled.{waits, prices-bounded, steps}
use Rattle.wp_relax.proofs.NeederLemmas.{needers-rise}
use Rattle.wp_relax.proofs.Supported.{first-supported, next-supported, supporters-are}
use Rattle.wp_relax.proofs.settle.settle.Goals as goal

pub loop-p-init : goal.loop-p-init
loop-p-init c =
    let acts = c.args.task.now.acts in
    let state = c.args.s.now in
    let before = c.put_state.new.frontier in
    let now = c.offer_all.new.frontier in
    let lefts = c.reset-2.new.self.left.items in
    let prices = c.reset-2.new.self.prices.items in
    let atoms : length c.args.frontier.now.costs ≡ length state = c.requires.atoms ∙ sym c.requires.state in
    let reset : length c.reset.new.self.costs ≡ length state =
    ap length c.reset.ensures.costs ∙ (length-replicate (length c.args.frontier.now.costs) infinite ∙ atoms) in
    let size : length before.costs ≡ length state = c.in_ok-put_state.ensures.size ∙ reset in
    let settled : before.settled ≡ replicate (length state) false =
    c.in_ok-put_state.ensures.settled ∙ (c.reset.ensures.settled ∙ ap (λ (n : ℕ). replicate n false) atoms) in
    let none : before.supporters ≡ replicate (length state) None =
    c.in_ok-put_state.ensures.supporters ∙ (c.reset.ensures.supporters ∙ ap (λ (n : ℕ). replicate n None) atoms) in
    let start = is_start acts state before.costs before.settled lefts prices
    size c.in_ok-put_state.ensures.costs settled c.reset-2.ensures.left c.reset-2.ensures.prices in
    record {
      settling = subst (λ (l : List Bool). IsSettling acts state now.costs l lefts prices) (sym c.in_ok-offer_all.ensures.settled)
          (starts acts state before.costs before.settled lefts prices start now.costs c.in_ok-offer_all.ensures.size
          (λ p within. ap (λ o. o.cost) (c.in_ok-offer_all.ensures.offers p) ∙ offers-cost acts lefts prices p _ (offered_to before p) before.costs (λ j. get_or before.costs p 0)));
      supported = first-supported acts state lefts prices before now c.in_ok-put_state.ensures.costs none start.price_is
          c.in_ok-offer_all.ensures.room c.in_ok-offer_all.ensures.offers;
      atoms = c.in_ok-offer_all.ensures.size ∙ (c.in_ok-put_state.ensures.size ∙ (reset ∙ sym atoms));
      left = ap length c.reset-2.ensures.left ∙ length-map acts (λ (act : Act). length act.pre);
      prices = ap length c.reset-2.ensures.prices ∙ length-replicate (length acts) 1;
    }

inside : (costs : List ℕ) (settled : List Bool) (p size atoms : ℕ) → IsNearest costs settled p → length costs ≡ size → size ≡ atoms → p < atoms
inside costs settled p size atoms nearest same all = omega (arith, nearest.within)

pub needers-acts-requires : goal.needers-acts-requires
needers-acts-requires c =
    inside c.loop-p.frontier.costs c.loop-p.frontier.settled c.in-Some.p (length c.args.s.now) c.args.task.now.atoms c.in-Some.ensures.nearest
    c.loop-p.invariant.settling.counted.size c.requires.state

pub settle_needers-requires-clause-rising : goal.settle_needers-requires-clause-rising
settle_needers-requires-clause-rising c =
    subst IsStrictlyIncreasing (sym c.needers-acts.ensures.value) (needers-rise c.args.task.now.acts c.in-Some.p)

pub settle_needers-requires-clause-numbers : goal.settle_needers-requires-clause-numbers
settle_needers-requires-clause-numbers c = c.needers-acts.ensures.numbers

pub settle_needers-requires-clause-waits : goal.settle_needers-requires-clause-waits
settle_needers-requires-clause-waits c =
    All-same (λ a. 0 < get_or c.loop-p.pending.left.items a 0) c.needers-acts.result.now (needers_of c.args.task.now.acts c.in-Some.p)
    c.needers-acts.ensures.value
    (waits c.args.task.now.acts c.args.s.now c.loop-p.frontier.costs c.loop-p.frontier.settled c.loop-p.pending.left.items c.loop-p.pending.prices.items
    c.in-Some.p c.loop-p.invariant.settling.counted c.in-Some.ensures.nearest.unsettled)

pub settle_needers-requires-clause-bounded : goal.settle_needers-requires-clause-bounded
settle_needers-requires-clause-bounded c =
    prices-bounded c.args.task.now.acts c.args.s.now c.loop-p.frontier.costs c.loop-p.frontier.settled c.loop-p.pending.left.items c.loop-p.pending.prices.items
    c.loop-p.invariant.settling.counted c.loop-p.invariant.prices

pub loop-p-preserved : goal.loop-p-preserved
loop-p-preserved c =
    let acts = c.args.task.now.acts in
    let state = c.args.s.now in
    let p = c.in-Some.p in
    let front = c.loop-p.frontier in
    let costs = front.costs in
    let settled = front.settled in
    let left = c.loop-p.pending.left.items in
    let prices = c.loop-p.pending.prices.items in
    let now_left = c.settle_needers.new.pending.left.items in
    let now_prices = c.settle_needers.new.pending.prices.items in
    let new = c.settle_needers.new.frontier in
    let are : c.needers-acts.result.now ≡ needers_of acts p = c.needers-acts.ensures.value in
    let same : c.settle_nearest.new.self.costs ≡ costs = c.in-Some.ensures.costs in
    let cost : c.cost-cost.result ≡ get_or costs p 0 = c.cost-cost.ensures ∙ ap (λ (l : List ℕ). get_or l p 0) same in
    let left_now : (a : ℕ) → get_or now_left a 0 ≡ cond (lists (needers_of acts p) a) (get_or left a 0 - 1) (get_or left a 0) =
    λ a. c.in_ok-settle_needers.ensures.left a ∙ ap (λ (l : List ℕ). cond (lists l a) (get_or left a 0 - 1) (get_or left a 0)) are in
    let prices_now : (a : ℕ) → get_or now_prices a 0
    ≡ cond (lists (needers_of acts p) a) (min infinite (get_or prices a 0 + get_or costs p 0)) (get_or prices a 0) =
    λ a. c.in_ok-settle_needers.ensures.prices a ∙ (λ j. cond (lists (are j) a) (min infinite (get_or prices a 0 + cost j)) (get_or prices a 0)) in
    let unchanged : (q : ℕ) → offered_to c.settle_nearest.new.self q ≡ offered_to front q =
    λ q j. record { cost = get_or (same j) q 0; supporter = get_or (c.in-Some.ensures.supporters j) q None } in
    let offers_now : (q : ℕ) → offered_to new q ≡ after_offers acts now_left now_prices (needers_of acts p) q (offered_to front q) =
    λ q. c.in_ok-settle_needers.ensures.offers q ∙ (λ j. after_offers acts now_left now_prices (are j) q (unchanged q j)) in
    let costs_now : (q : ℕ) → q < length state → get_or new.costs q 0 ≡ least_offer acts now_left now_prices (needers_of acts p) costs q =
    λ q within. ap (λ o. o.cost) (offers_now q) ∙ offers-cost acts now_left now_prices q (needers_of acts p) (offered_to front q) costs (λ j. get_or costs q 0) in
    let fit : All (IsAct (length state)) acts = subst (λ (n : ℕ). All (IsAct n) acts) (sym c.requires.state) c.atoms.ensures.fits.act_atoms in
    let at = c.loop-p.invariant.settling in
    let next : IsSettling acts state new.costs new.settled now_left now_prices =
    subst (λ (l : List Bool). IsSettling acts state new.costs l now_left now_prices)
    (sym (c.in_ok-settle_needers.ensures.settled ∙ c.in-Some.ensures.settled))
    (steps acts state fit costs settled left prices now_left now_prices p at c.in-Some.ensures.nearest left_now prices_now
    new.costs (c.in_ok-settle_needers.ensures.costs ∙ ap length same) costs_now) in
    record {
      settling = next;
      supported = next-supported acts state left prices now_left now_prices (needers_of acts p) front new c.loop-p.invariant.supported
          (λ q within. at.counted.most q) at.offered
          (waits acts state costs settled left prices p at.counted c.in-Some.ensures.nearest.unsettled) (needers_below acts p)
          (λ a other. left_now a ∙ cond-false {A = ℕ} (lists (needers_of acts p) a) (get_or left a 0 - 1) (get_or left a 0) other)
          (λ a other. prices_now a ∙ cond-false {A = ℕ} (lists (needers_of acts p) a) (min infinite (get_or prices a 0 + get_or costs p 0)) (get_or prices a 0) other)
          (λ a number. omega (arith, next.counted.price_is a number))
          (c.in_ok-settle_needers.ensures.supporters ∙ ap length c.in-Some.ensures.supporters) offers_now;
      atoms = c.in_ok-settle_needers.ensures.costs ∙ (ap length same ∙ c.loop-p.invariant.atoms);
      left = c.in_ok-settle_needers.ensures.lefts ∙ c.loop-p.invariant.left;
      prices = c.in_ok-settle_needers.ensures.sizes ∙ c.loop-p.invariant.prices;
    }

pub returns-clause-costs : goal.returns-clause-costs
returns-clause-costs c =
    let acts = c.args.task.now.acts in
    let state = c.args.s.now in
    let fit : All (IsAct (length state)) acts = subst (λ (n : ℕ). All (IsAct n) acts) (sym c.requires.state) c.atoms.ensures.fits.act_atoms in
    c.in_default.ensures.costs
    ∙ ends acts state fit c.loop-p.frontier.costs c.loop-p.frontier.settled c.loop-p.pending.left.items c.loop-p.pending.prices.items
    c.loop-p.invariant.settling c.in_default.ensures.spent

pub returns-clause-supporters : goal.returns-clause-supporters
returns-clause-supporters c =
    let acts = c.args.task.now.acts in
    let state = c.args.s.now in
    let front = c.loop-p.frontier in
    let left = c.loop-p.pending.left.items in
    let prices = c.loop-p.pending.prices.items in
    let fit : All (IsAct (length state)) acts = subst (λ (n : ℕ). All (IsAct n) acts) (sym c.requires.state) c.atoms.ensures.fits.act_atoms in
    c.in_default.ensures.supporters
    ∙ (supporters-are acts state fit left prices front c.loop-p.invariant.settling.counted c.in_default.ensures.spent c.loop-p.invariant.supported
    ∙ ap (supporters_of acts state) (ends acts state fit front.costs front.settled left prices c.loop-p.invariant.settling c.in_default.ensures.spent))
