-- An atom that is not in the state and has a finite cost has a supporter.
use Rattle.std.proofs.Common.{◌≡◌, ◌⊎◌, ◌==◌, ◌≤◌, ℕ, nat_lt, Bool, true, false, cond, List, [], ◌∷◌, Some, None, get_or, sym, ap, ◌∙◌, inl, inr, ⊎_elim, arith}
use Rattle.std.specs.List.{find}
use Rattle.std.proofs.lemmas.Bool.{cases_Bool, ltb-true, ltb-false, le-ltb, eq-eqb}
use Rattle.wp_task.specs.Set.{has}
use Rattle.wp_task.specs.Task.{act_at, adders_of}
use Rattle.wp_task.proofs.Members.{In}
use Rattle.wp_relax.specs.AdditiveCost.{infinite, price_of, costs_of, supporter_of}
use Rattle.wp_relax.specs.Laws.{IsAdder, SupportersAreThere}
use Rattle.wp_relax.proofs.Unique.{costs_fixed, adder-in}

find-some : (t : ℕ → Bool) (xs : List ℕ) (a : ℕ) → In a xs → t a ≡ true → find t xs ≡ None → ⊥
find-some t [] a there passes none = absurd there
find-some t (x ∷ xs) a there passes none = ⊎_elim
    (λ (here : t x ≡ true). let is : Some x ≡ None = sym (ap (λ (b : Bool). cond b (Some x) (find t xs)) here) ∙ none in absurd (cc))
    (λ (later : t x ≡ false).
    let rest : find t xs ≡ None = sym (ap (λ (b : Bool). cond b (Some x) (find t xs)) later) ∙ none in
    ⊎_elim
    (λ (same : a ≡ x). let clash : true ≡ false = sym passes ∙ (ap t same ∙ later) in absurd (cc))
    (λ (then : In a xs). find-some t xs a then passes rest)
    there)
    (cases_Bool (t x))

pub supporters_are_there : SupportersAreThere
supporters_are_there acts state p within =
    let costs = costs_of acts state in
    let fixed = costs_fixed acts state in
    let cost = get_or costs p 0 in
    let t : ℕ → Bool = λ a. price_of costs (act_at acts a) == cost in
    let among = find t (adders_of acts p) in
    let finite = nat_lt cost infinite in (
      λ (none : supporter_of acts state costs p ≡ None). ⊎_elim
          (λ (there : has state p ≡ true). let found : (has state p ≡ true) ⊎ (infinite ≤ cost) = inl there in found)
          (λ (lacks : has state p ≡ false). ⊎_elim
          (λ (small : finite ≡ true).
          let nothing : among ≡ None = sym (ap (λ (b : Bool). cond b among None) small)
          ∙ (sym (ap (λ (b : Bool). cond b None (cond finite among None)) lacks) ∙ none) in
          ⊎_elim
          (λ (there : has state p ≡ true). let found : (has state p ≡ true) ⊎ (infinite ≤ cost) = inl there in found)
          (λ (by : (a : ℕ) × IsAdder acts p a × (price_of costs (act_at acts a) ≤ cost)).
          let least : cost ≤ price_of costs (act_at acts by.0) = fixed.least p by.0 within by.1 in
          let most : price_of costs (act_at acts by.0) ≤ cost = by.2 in
          let same : price_of costs (act_at acts by.0) ≡ cost = omega arith in
          absurd (find-some t (adders_of acts p) by.0 (adder-in acts p by.0 by.1)
          (eq-eqb (price_of costs (act_at acts by.0)) cost same) nothing))
          (fixed.cause p within (ltb-true cost infinite small)))
          (λ (large : finite ≡ false).
          let found : (has state p ≡ true) ⊎ (infinite ≤ cost) = inr (ltb-false cost infinite large) in found)
          (cases_Bool finite))
          (cases_Bool (has state p)),
      λ (why : (has state p ≡ true) ⊎ (infinite ≤ cost)). ⊎_elim
          (λ (there : has state p ≡ true). ap (λ (b : Bool). cond b None (cond finite among None)) there)
          (λ (large : infinite ≤ cost).
          let past : cond finite among None ≡ None = ap (λ (b : Bool). cond b among None) (le-ltb cost infinite large) in
          ⊎_elim
          (λ (there : has state p ≡ true). ap (λ (b : Bool). cond b None (cond finite among None)) there)
          (λ (lacks : has state p ≡ false). ap (λ (b : Bool). cond b None (cond finite among None)) lacks ∙ past)
          (cases_Bool (has state p)))
          why,
    )
