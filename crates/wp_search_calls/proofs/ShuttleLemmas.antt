-- The shuttle has two states, and none with both places; an index may leave their pair out.
use Rattle.std.proofs.Common.{◌≡◌, ◌⊎◌, ◌==◌, ◌&&◌, ◌+◌, ◌<◌, ℕ, zero, suc, nat_lt, Bool, true, false, is_some, List, [], ◌∷◌, Option, Some, None, length, refl, sym, ap, ◌∙◌, subst, inl, inr, ⊎_elim, arith}
use Rattle.std.proofs.lemmas.Bool.{and_parts, both_ways, eqb-true, ltb-true}
use Rattle.wp_task.specs.Set.{has, set_of}
use Rattle.wp_task.specs.Task.{act_at, applies, result_of, leads_to, IsReachable}
use Rattle.wp_tuples.specs.Placing.{HasPlace, place_in, AreApart}
use Rattle.wp_novel.specs.MarkedTuples.{AreCounted}
use Rattle.wp_search_calls.specs.Shuttle.{shuttle, without_both}

-- ---- the index
below : (tuple : List ℕ) → HasPlace without_both tuple → place_in without_both tuple < 5
below [] h = absurd h
below (p ∷ []) h = let one : p < 3 = h in omega arith
below (p ∷ q ∷ []) h = let last : q < 3 = h.1.1 in omega arith
below (p ∷ q ∷ r ∷ rest) h = absurd h

apart : (one other : List ℕ) → HasPlace without_both one → HasPlace without_both other → place_in without_both one ≡ place_in without_both other → one ≡ other
apart [] other h k same = absurd h
apart (p ∷ []) [] h k same = absurd k
apart (p ∷ []) (r ∷ []) h k same = ap (λ x. x ∷ []) same
apart (p ∷ []) (r ∷ s ∷ []) h k same =
    let one : p < 3 = h in
    let order : r < s = k.1.0 in
    let places : p ≡ s + 2 = same in absurd (omega arith)
apart (p ∷ []) (r ∷ s ∷ t ∷ rest) h k same = absurd k
apart (p ∷ q ∷ []) [] h k same = absurd k
apart (p ∷ q ∷ []) (r ∷ []) h k same =
    let one : r < 3 = k in
    let order : p < q = h.1.0 in
    let places : q + 2 ≡ r = same in absurd (omega arith)
apart (p ∷ q ∷ []) (r ∷ s ∷ []) h k same =
    let first : p ≡ 0 = eqb-true p 0 h.1.2 in
    let also : r ≡ 0 = eqb-true r 0 k.1.2 in
    let places : q + 2 ≡ s + 2 = same in
    let last : q ≡ s = omega arith in
    λ j. (first ∙ sym also) j ∷ last j ∷ []
apart (p ∷ q ∷ []) (r ∷ s ∷ t ∷ rest) h k same = absurd k
apart (p ∷ q ∷ r ∷ rest) other h k same = absurd h

pub without_both-apart : AreApart without_both
without_both-apart = record { width = (omega arith, omega arith); few = omega arith; below = below; apart = apart }

-- ---- the states
abbrev here : List Bool
here = true ∷ true ∷ false ∷ []

abbrev there : List Bool
there = true ∷ false ∷ true ∷ []

abbrev IsEither : List Bool → Type 0
IsEither state = (state ≡ here) ⊎ (state ≡ there)

led : (b : Bool) (x : Option (List Bool)) (state : List Bool) → elim b as (λ _. Option (List Bool)) [ true ↦ x | false ↦ None ] ≡ Some state → b ≡ true
led true x state e = refl
led false x state e = absurd (both_ways false refl (ap is_some e))

within : (state : List Bool) (a : ℕ) (plan : List ℕ) (last : List Bool) → leads_to shuttle.acts state (a ∷ plan) ≡ Some last → a < 2
within state a plan last e =
    ltb-true a 2 (and_parts (nat_lt a 2) (applies (act_at shuttle.acts a) state)
    (led (nat_lt a 2 && applies (act_at shuttle.acts a) state) (leads_to shuttle.acts (result_of (act_at shuttle.acts a) state) plan) last e)).0

same_some : (x y : List Bool) → Some x ≡ Some y → y ≡ x
same_some x y e = cc

either : (plan : List ℕ) (last : List Bool) →
    (leads_to shuttle.acts here plan ≡ Some last → IsEither last) × (leads_to shuttle.acts there plan ≡ Some last → IsEither last)
either [] last = (λ e. inl (same_some here last e), λ e. inr (same_some there last e))
either (zero ∷ plan) last = ((either plan last).1, λ e. absurd (both_ways false refl (ap is_some e)))
either (suc zero ∷ plan) last = (λ e. absurd (both_ways false refl (ap is_some e)), (either plan last).0)
either (suc (suc n) ∷ plan) last = (
  λ e. let few : suc (suc n) < 2 = within here (suc (suc n)) plan last e in absurd (omega arith),
  λ e. let few : suc (suc n) < 2 = within there (suc (suc n)) plan last e in absurd (omega arith),
)

at_here : (p q : ℕ) → p < q → has here q ≡ true → (p == 0) ≡ true
at_here zero q less holds = refl
at_here (suc p) zero less holds = absurd (omega arith)
at_here (suc p) (suc zero) less holds = absurd (omega arith)
at_here (suc p) (suc (suc zero)) less holds = absurd (both_ways false refl holds)
at_here (suc p) (suc (suc (suc q))) less holds = absurd (both_ways false refl holds)

at_there : (p q : ℕ) → p < q → has there p ≡ true → has there q ≡ true → (p == 0) ≡ true
at_there zero q less holds also = refl
at_there (suc zero) q less holds also = absurd (both_ways false refl holds)
at_there (suc (suc p)) zero less holds also = absurd (omega arith)
at_there (suc (suc p)) (suc zero) less holds also = absurd (omega arith)
at_there (suc (suc p)) (suc (suc zero)) less holds also = absurd (omega arith)
at_there (suc (suc p)) (suc (suc (suc q))) less holds also = absurd (both_ways false refl also)

pub without_both-counts : (state : List Bool) → IsReachable shuttle state → AreCounted without_both state
without_both-counts state reachable two p q less holds also = ⊎_elim
    (λ (is : state ≡ here). at_here p q less (ap (λ s. has s q) (sym is) ∙ also))
    (λ (is : state ≡ there). at_there p q less (ap (λ s. has s p) (sym is) ∙ holds) (ap (λ s. has s q) (sym is) ∙ also))
    ((either reachable.actions state).0 reachable.leads)
