-- Names that are declared once and are few: one more, and one among others.
use Rattle.std.proofs.Common.{◌≡◌, ℕ, ◌≤◌, ◌<◌, ◌||◌, false, leb, List, [], ◌∷◌, ◌++◌, length, map, refl, ◌∙◌, arith, length-append}
use Rattle.std.specs.List.{AllByRecursion, IsDistinct, list_any}
use Rattle.std.specs.Str.{bytes_eq}
use Rattle.std.proofs.lemmas.Bool.{leb-false, lt-leb}
use Rattle.std.proofs.lemmas.Cmp.{nat_list_eq_equiv}
use Rattle.std.proofs.lemmas.Map.Keys.{IsDistinct-push}
use Rattle.wp_syntax.specs.declared.records.Name.{Name}
use Rattle.wp_syntax.specs.Named.{has_named}
use Rattle.wp_syntax.specs.Phrases.{AreDeclared}

-- a name is among those of the items
pub has_swapped : {A : Type 0} (name_of : A → Name) (text : List ℕ) (items : List A)
    → list_any (bytes_eq text) (map (λ item. (name_of item).text) items) ≡ has_named name_of text items
has_swapped name_of text [] = refl
has_swapped name_of text (x ∷ xs) = λ j. nat_list_eq_equiv.symm text (name_of x).text j || has_swapped name_of text xs j

all_at : {A : Type 0} (P : A → Type 0) (xs : List A) (y : A) (ys : List A) → AllByRecursion P (xs ++ y ∷ ys) → P y
all_at P [] y ys all = all.0
all_at P (x ∷ xs) y ys all = all_at P xs y ys all.1

apart : (names : List (List ℕ)) (name : List ℕ) (rest : List (List ℕ)) → IsDistinct bytes_eq (names ++ name ∷ rest)
    → list_any (bytes_eq name) names ≡ false
unfolding IsDistinct
apart [] name rest distinct = refl
apart (x ∷ xs) name rest distinct =
    let other : bytes_eq name x ≡ false =
    nat_list_eq_equiv.symm name x ∙ all_at (λ y. bytes_eq x y ≡ false) xs name rest distinct.0 in
    λ j. other j || apart xs name rest distinct.1 j

pub none_declared : (most : ℕ) → AreDeclared most []
unfolding IsDistinct
none_declared most = record { few = omega arith; distinct = tt }

pub declared_push : (most : ℕ) (names : List (List ℕ)) (name : List ℕ) → AreDeclared most names → list_any (bytes_eq name) names ≡ false
    → leb most (length names) ≡ false → AreDeclared most (names ++ name ∷ [])
declared_push most names name are new within =
    let less : length names < most = leb-false most (length names) within in
    record {
      few = omega (arith, length-append names (name ∷ []));
      distinct = IsDistinct-push nat_list_eq_equiv names name are.distinct new;
    }

pub declared_new : (most : ℕ) (names : List (List ℕ)) (name : List ℕ) (rest : List (List ℕ)) → AreDeclared most (names ++ name ∷ rest)
    → list_any (bytes_eq name) names ≡ false
declared_new most names name rest are = apart names name rest are.distinct

pub declared_within : (most : ℕ) (names : List (List ℕ)) (name : List ℕ) (rest : List (List ℕ)) → length (names ++ name ∷ rest) ≤ most
    → leb most (length names) ≡ false
declared_within most names name rest few = lt-leb most (length names) (omega (arith, length-append names (name ∷ rest)))
