-- What stands once at most: a place that is kept for it, with those of a list that go there.
use Rattle.std.proofs.Common.{◌≡◌, ℕ, Bool, true, false, List, [], ◌∷◌, ◌++◌, Option, None, Some, refl, sym, subst}
use Rattle.std.specs.Prelude.{is_some, unwrap_or, option_to_list}
use Rattle.wp_syntax.specs.declared.error.ReadKind.TheVariants.{Duplicate}
use Rattle.wp_syntax.specs.declared.records.Name.{Name}
use Rattle.wp_syntax.specs.Reading.{Read, fine, wrong_if, ◌>>=◌, ◌>>◌}
use Rattle.wp_syntax.specs.Sentences.{IsOnce}
use Rattle.wp_syntax.proofs.FaultLemmas.{none_before, none_behind, not_faulty}

pub once_of : {A : Type 0} (xs : List (List A)) (kept : Option (List A)) → xs ≡ option_to_list kept → IsOnce xs (unwrap_or kept [])
once_of xs None e = subst (λ ys. IsOnce ys []) (sym e) refl
once_of xs (Some x) e = subst (λ ys. IsOnce ys x) (sym e) refl

abbrev pub kept_of : {A : Type 0} → List (List A) → Option (List A)
kept_of [] = None
kept_of (x ∷ xs) = Some x

pub kept_is : {A : Type 0} (xs : List (List A)) (x : List A) → IsOnce xs x → (xs ≡ option_to_list (kept_of xs)) × (unwrap_or (kept_of xs) [] ≡ x)
kept_is [] x is = (refl, sym is)
kept_is (one ∷ []) x is = (refl, sym is)
kept_is (one ∷ another ∷ more) x is = absurd is

pub free_of : {A : Type 0} (old : Option A) (x : A) (xs : List A) (kept : Option A) → option_to_list old ++ x ∷ xs ≡ option_to_list kept → old ≡ None
free_of None x xs kept e = refl
free_of (Some y) x xs None e = cc
free_of (Some y) x xs (Some z) e = cc

pub same_of : {A : Type 0} (old kept : Option A) → option_to_list old ++ [] ≡ option_to_list kept → old ≡ kept
same_of None None e = refl
same_of None (Some z) e = cc
same_of (Some y) None e = cc
same_of (Some y) (Some z) e = cc

pub not_there : {A : Type 0} (o : Option A) → is_some o ≡ false → o ≡ None
not_there None e = refl
not_there (Some x) e = cc

-- what may stand once is new, and read without a fault
pub once_new : {A : Type 0} (there : Bool) (at : ℕ) (r : Read A) → ((wrong_if there Duplicate at).faults ++ (r.faults ++ [])) ≡ []
    → (there ≡ false) × (r.faults ≡ [])
once_new there at r none = (
  not_faulty there (record { kind = Duplicate; at = at }) (none_before (wrong_if there Duplicate at).faults _ none),
  none_before r.faults [] (none_behind (wrong_if there Duplicate at).faults _ none),
)

pub once_read : {A S : Type 0} (there : Bool) (at : ℕ) (r : Read A) (x : A) (f : A → S) → there ≡ false → r ≡ fine x
    → (wrong_if there Duplicate at >> (r >>= λ y. fine (f y))) ≡ fine (f x)
once_read there at r x f new e = λ j. wrong_if (new j) Duplicate at >> (e j >>= λ y. fine (f y))

pub free_place : {A : Type 0} (o : Option A) → o ≡ None → is_some o ≡ false
free_place o e = subst (λ o. is_some o ≡ false) (sym e) refl

-- ---- what is there or not
abbrev pub flag : Bool → Option (List Name)
flag true = Some []
flag false = None

pub flag_free : (there : Bool) → flag there ≡ None → there ≡ false
flag_free true e = cc
flag_free false e = refl

pub flag_same : (a b : Bool) → flag a ≡ flag b → a ≡ b
flag_same true true e = refl
flag_same true false e = cc
flag_same false true e = cc
flag_same false false e = refl

pub flag_none : (xs : List (List Name)) (there : Bool) → xs ≡ option_to_list (flag there) → IsOnce xs []
flag_none xs true e = subst (λ ys. IsOnce ys []) (sym e) refl
flag_none xs false e = subst (λ ys. IsOnce ys []) (sym e) refl

pub flag_of : (xs : List (List Name)) → IsOnce xs [] → (there : Bool) × (xs ≡ option_to_list (flag there))
flag_of [] is = (false, refl)
flag_of (one ∷ []) is = (true, λ j. sym is j ∷ [])
flag_of (one ∷ another ∷ more) is = absurd is
