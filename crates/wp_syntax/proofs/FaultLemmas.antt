-- Values beside faults: the first fault of what begins with something is that of what it begins with, and what has no fault has none in
-- its parts.
use Rattle.std.proofs.Common.{◌≡◌, Bool, true, false, Option, None, Some, List, [], ◌∷◌, ◌++◌, refl, sym, ap, subst, ◌∙◌, append_assoc}
use Rattle.wp_syntax.specs.Faults.{Checked, fine, faulty_if, Tells, ◌>>=◌, each_after}

pub append_none : {A : Type 0} (xs : List A) → xs ++ [] ≡ xs
append_none [] = refl
append_none (x ∷ xs) = ap (λ ys. x ∷ ys) (append_none xs)

pub none_before : {F : Type 0} (xs ys : List F) → xs ++ ys ≡ [] → xs ≡ []
none_before [] ys e = refl
none_before (x ∷ xs) ys e = cc

pub none_behind : {F : Type 0} (xs ys : List F) → xs ++ ys ≡ [] → ys ≡ []
none_behind [] ys e = e
none_behind (x ∷ xs) ys e = cc

pub none_in_both : {F : Type 0} (xs ys : List F) → xs ++ ys ≡ [] → (xs ≡ []) × (ys ≡ [])
none_in_both xs ys e = (none_before xs ys e, none_behind xs ys e)

pub not_faulty : {F : Type 0} (found : Bool) (fault : F) → (faulty_if found fault).faults ≡ [] → found ≡ false
not_faulty true fault e = cc
not_faulty false fault e = refl

pub tells_append : {F : Type 0} (told : Option F) (xs ys : List F) → Tells told xs → Tells told (xs ++ ys)
tells_append None xs ys h = tt
tells_append (Some fault) [] ys h = cc
tells_append (Some fault) (x ∷ xs) ys h = h

pub is_fine : {F A : Type 0} (r : Checked F A) (x : A) → r.faults ≡ [] → r.value ≡ x → r ≡ fine x
is_fine r x e v = λ i. record { faults = e i; value = v i }

-- steps that go on from one another, through two lists
pub after_append : {F A S : Type 0} (f : S → A → Checked F S) (state : S) (xs ys : List A)
    → each_after f state (xs ++ ys) ≡ (each_after f state xs >>= λ next. each_after f next ys)
after_append f state [] ys = refl
after_append f state (x ∷ xs) ys =
    let next = (f state x).value in
    let behind = each_after f next xs in
    let last = each_after f behind.value ys in
    ap (λ (w : Checked _ _). f state x >>= λ n. w) (after_append f next xs ys)
    ∙ λ i. record { faults = sym (append_assoc (f state x).faults behind.faults last.faults) i; value = last.value }

-- the third of three
pub third_fails : {F A B C D : Type 0} (a : Checked F A) (b : Checked F B) (c : Checked F C) (f : A → B → C → D) (x : A) (y : B)
    (told : Option F) → a ≡ fine x → b ≡ fine y → Tells told c.faults
    → Tells told (a >>= λ x. b >>= λ y. c >>= λ z. fine (f x y z)).faults
third_fails a b c f x y told p q h =
    let no_a : [] ≡ a.faults = λ i. (sym p i).faults in
    let no_b : [] ≡ b.faults = λ i. (sym q i).faults in
    subst (Tells told) (λ i. no_a i ++ (no_b i ++ (c.faults ++ []))) (tells_append told c.faults [] h)
