-- A row that a round leaves as it is stays so; rows and marks, one more at a time.
use Rattle.std.proofs.Common.{◌≡◌, ℕ, ◌+◌, ◌<◌, Bool, List, [], ◌∷◌, ◌++◌, length, map, fold, get_or, take, refl, sym, ◌∙◌, ap, zero, suc, arith}
use Rattle.std.specs.List.{range_with_len, flat_map}
use Rattle.std.proofs.lemmas.List.{take_more}
use Rattle.std.proofs.lemmas.List.Sums.{fold-append}
use Rattle.std.proofs.lemmas.List.FromFn.{map-range_with_len_more}
use Rattle.std.proofs.lemmas.Grind.{flat_map-append}
use Rattle.wp_lift.specs.Typing.{grown, grown_by}
use Rattle.wp_syntax.proofs.FaultLemmas.{append_none}

pub settled : (n : ℕ) (pairs : List (ℕ × ℕ)) (flags : List Bool) → grown pairs flags ≡ flags → grown_by n pairs flags ≡ flags
settled zero pairs flags e = refl
settled (suc n) pairs flags e = ap (grown_by n pairs) e ∙ settled n pairs flags e

pub range-more : {X : Type 0} (f : ℕ → X) (n : ℕ) (rows : List X) (row : X) → rows ≡ map f (range_with_len 0 n) → row ≡ f n → rows ++ row ∷ [] ≡ map f (range_with_len 0 (n + 1))
range-more f n rows row e h = (λ i. e i ++ h i ∷ []) ∙ sym (map-range_with_len_more f 0 n n (omega arith))

-- a fold over what is flattened, one list more
pub fold-step : {X A B : Type 0} (h : B → A → B) (f : X → List A) (xs : List X) (i : ℕ) (x : X) (start old new : B) → i < length xs → x ≡ get_or xs i x
    → old ≡ fold h start (flat_map f (take i xs)) → new ≡ fold h old (f x) → new ≡ fold h start (flat_map f (take (i + 1) xs))
fold-step h f xs i x start old new lt e o n =
    n ∙ ap (λ b. fold h b (f x)) o ∙ sym (fold-append h start (flat_map f (take i xs)) (f x))
    ∙ ap (fold h start) (sym (
    ap (flat_map f) (take_more xs i x lt) ∙ flat_map-append f (take i xs) (get_or xs i x ∷ [])
    ∙ (λ j. flat_map f (take i xs) ++ (f (sym e j) ++ [])) ∙ ap (λ ys. flat_map f (take i xs) ++ ys) (append_none (f x))))
