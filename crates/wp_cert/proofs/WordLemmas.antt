-- Pieces of texts, and numbers digit by digit.
use Rattle.std.proofs.Common.{rules, ◌≡◌, ◌==◌, ◌&&◌, not, ℕ, zero, suc, ◌+◌, ◌-◌, ◌*◌, ◌<◌, ◌≤◌, Bool, true, false, cond, nat_lt, List, [], ◌∷◌, ◌++◌, length, take, drop, get_or, Option, Some, None, refl, sym, ap, ◌∙◌, subst, arith}
use Rattle.std.specs.Char.{is_ascii_digit, digit_value}
use Rattle.std.specs.Str.{all_ascii_digits}
use Rattle.std.specs.Str.Parse.{digits_value_after}
use Rattle.std.proofs.lemmas.Bool.{and_parts, and_from, eq-eqb, ltb-true, lt-ltb}
use Rattle.std.proofs.lemmas.Str.{digit_value_digit}
use Rattle.wp_cert.specs.Format.{longer, pieces, value_in}

-- the first piece ends before the first mark
pub piece_ends : (mark : ℕ) (bytes : List ℕ) (k : ℕ) → k < length bytes → get_or bytes k 0 ≡ mark →
    ((j : ℕ) → j < k → (get_or bytes j 0 == mark) ≡ false) → pieces mark bytes ≡ take k bytes ∷ pieces mark (drop (suc k) bytes)
piece_ends mark [] k within at none = absurd (omega arith)
piece_ends mark (byte ∷ bytes) zero within at none =
    ap (λ t. cond t ([] ∷ pieces mark bytes) (longer byte (pieces mark bytes))) (eq-eqb byte mark at)
piece_ends mark (byte ∷ bytes) (suc k) within at none =
    ap (λ t. cond t ([] ∷ pieces mark bytes) (longer byte (pieces mark bytes))) (none 0 (omega arith))
    ∙ ap (longer byte) (piece_ends mark bytes k (omega arith) at (λ j below. none (suc j) (omega (arith, below))))

-- there is one piece where there is no mark
pub one_piece : (mark : ℕ) (bytes : List ℕ) → ((j : ℕ) → j < length bytes → (get_or bytes j 0 == mark) ≡ false) →
    pieces mark bytes ≡ bytes ∷ []
one_piece mark [] none = refl
one_piece mark (byte ∷ bytes) none =
    ap (λ t. cond t ([] ∷ pieces mark bytes) (longer byte (pieces mark bytes))) (none 0 (omega arith))
    ∙ ap (longer byte) (one_piece mark bytes (λ j below. none (suc j) (omega (arith, below))))

-- ---- digits
digit_is : (c : ℕ) → is_ascii_digit c ≡ true → digit_value c ≡ c - 48
digit_is c is = search (rules, is, digit_value_digit c)

digits_rise : (n : ℕ) (ds : List ℕ) → n ≤ digits_value_after 10 n ds
digits_rise n [] = omega arith
digits_rise n (c ∷ ds) = omega (arith, digits_rise (n * 10 + digit_value c) ds)

-- one digit more
pub value_in-digit : (high n c : ℕ) (ds : List ℕ) → is_ascii_digit c ≡ true → value_in high n (c ∷ ds) ≡ value_in high (n * 10 + (c - 48)) ds
value_in-digit high n c ds is =
    ap (λ t. cond ((t && all_ascii_digits ds) && not (nat_lt high (digits_value_after 10 (n * 10 + digit_value c) ds)))
    (Some (digits_value_after 10 (n * 10 + digit_value c) ds)) None) is
    ∙ ap (λ d. value_in high (n * 10 + d) ds) (digit_is c is)

pub value_in-other : (high n c : ℕ) (ds : List ℕ) → is_ascii_digit c ≡ false → value_in high n (c ∷ ds) ≡ None
value_in-other high n c ds is =
    ap (λ t. cond ((t && all_ascii_digits ds) && not (nat_lt high (digits_value_after 10 (n * 10 + digit_value c) ds)))
    (Some (digits_value_after 10 (n * 10 + digit_value c) ds)) None) is

-- what is too great stays so
pub value_in-above : (high n : ℕ) (ds : List ℕ) → high < n → value_in high n ds ≡ None
value_in-above high n ds above =
    by (all_ascii_digits ds) (nat_lt high (digits_value_after 10 n ds)) (lt-ltb high (digits_value_after 10 n ds) (omega (arith, digits_rise n ds))) where
      by : (t u : Bool) → u ≡ true → cond (t && not u) (Some (digits_value_after 10 n ds)) None ≡ None
      by true true is = refl
      by false u is = refl
      by true false is = absurd (cc)
