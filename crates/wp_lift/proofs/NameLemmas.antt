-- Numbers of names when one more stands at the end.
use Rattle.std.proofs.Common.{◌≡◌, ℕ, ◌+◌, ◌≤◌, Bool, true, false, not, cond, List, [], ◌∷◌, ◌++◌, length, Option, Some, None, is_some, eqb, ltb, refl, sym, ◌∙◌, ap, arith, length-append}
use Rattle.std.specs.List.{position, position_or_len}
use Rattle.std.specs.Cmp.Lexicographic.{same_text}
use Rattle.std.proofs.lemmas.List.Folds.{position_or_len_push}
use Rattle.std.proofs.lemmas.List.Sums.{prefix_len-le-length}
use Rattle.std.proofs.lemmas.Bool.Decides.{nat_tests}
use Rattle.wp_lift.specs.Worlds.{is_same_args}
use Rattle.wp_lift.specs.Names.{number_of}
use Rattle.wp_lift.proofs.SameLemmas.{same-args-sym}

position-le : {X : Type 0} (p : X → Bool) (xs : List X) → position_or_len p xs ≤ length xs
position-le p xs = prefix_len-le-length (λ x. not (p x)) xs

place-push : (place n : ℕ) (b : Bool) → place ≤ n
    → cond (ltb (cond (eqb place n) (n + cond b 0 1) place) (n + 1)) (Some (cond (eqb place n) (n + cond b 0 1) place)) None
    ≡ cond (ltb place n) (Some place) (cond b (Some n) None)
place-push place n true h = grind (arith, nat_tests)
place-push place n false h = grind (arith, nat_tests)

pub position-push : {X : Type 0} (p : X → Bool) (xs : List X) (y : X) → position p (xs ++ y ∷ []) ≡ cond (ltb (position_or_len p xs) (length xs)) (Some (position_or_len p xs)) (cond (p y) (Some (length xs)) None)
position-push p xs y =
    rw (position_or_len_push p xs y, length-append xs (y ∷ [])) (place-push (position_or_len p xs) (length xs) (p y) (position-le p xs))

-- what finds the names finds one more, where it gives the names' count for the new one alone
joined : (place n : ℕ) (b : Bool) (found : Option ℕ) → found ≡ cond (ltb place n) (Some place) None → (b ≡ true → is_some found ≡ false)
    → cond b (Some n) found ≡ cond (ltb place n) (Some place) (cond b (Some n) None)
joined place n true found e h = elim (ltb place n) as (λ t. found ≡ cond t (Some place) None → Some n ≡ cond t (Some place) (Some n)) [
  | true ↦ λ e. absurd (let f = ap is_some e in let g = h refl in cc)
  | false ↦ λ e. refl
] e
joined place n false found e h = e

same-found : (find : List ℕ → Option ℕ) (other name : List ℕ) → is_same_args other name ≡ true → find other ≡ find name
same-found find other name e = ap find (same_text other name (sym e))

pub finds-new : (find : List ℕ → Option ℕ) (names : List (List ℕ)) (name other : List ℕ)
    → find other ≡ number_of other names → is_some (find name) ≡ false
    → cond (is_same_args name other) (Some (length names)) (find other) ≡ number_of other (names ++ name ∷ [])
finds-new find names name other e none =
    ap (λ b. cond b (Some (length names)) (find other)) (same-args-sym name other)
    ∙ joined (position_or_len (is_same_args other) names) (length names) (is_same_args other name) (find other) e (λ b. ap is_some (same-found find other name b) ∙ none)
    ∙ sym (position-push (is_same_args other) names name)

again : (place n : ℕ) (b : Bool) (found : Option ℕ) → found ≡ cond (ltb place n) (Some place) None → (b ≡ true → is_some found ≡ true)
    → found ≡ cond (ltb place n) (Some place) (cond b (Some n) None)
again place n true found e h = elim (ltb place n) as (λ t. found ≡ cond t (Some place) None → found ≡ cond t (Some place) (Some n)) [
  | true ↦ λ e. e
  | false ↦ λ e. absurd (let f = ap is_some e in let g = h refl in cc)
] e
again place n false found e h = e

pub finds-again : (find : List ℕ → Option ℕ) (names : List (List ℕ)) (name other : List ℕ)
    → find other ≡ number_of other names → is_some (find name) ≡ true
    → find other ≡ number_of other (names ++ name ∷ [])
finds-again find names name other e some =
    again (position_or_len (is_same_args other) names) (length names) (is_same_args other name) (find other) e (λ b. ap is_some (same-found find other name b) ∙ some)
    ∙ sym (position-push (is_same_args other) names name)
