-- What a head says of its word, and words that a head is of.
use Rattle.std.proofs.Common.{◌≡◌, ℕ, Bool, true, false, cond, not, ◌&&◌, List, [], refl, subst}
use Rattle.std.specs.Prelude.{codes}
use Rattle.std.specs.Str.{bytes_eq}
use Rattle.std.proofs.lemmas.Slice.Eq.{bytes_eq-Decides}
use Rattle.wp_syntax.specs.declared.error.ReadKind.{ReadKind}
use Rattle.wp_syntax.specs.declared.word.Head.{Head}
use Rattle.wp_syntax.specs.declared.word.Head.TheVariants as heads
use Rattle.wp_syntax.specs.Word.{is_name, is_reserved}
use Rattle.wp_syntax.specs.Heads.{head_of}
use Rattle.wp_syntax.specs.Reading.{wrong_if}

-- a test in either case
pub pick : {A : Type 0} (P : A → Type 0) (b : Bool) (x y : A) → (b ≡ true → P x) → (b ≡ false → P y) → P (cond b x y)
pick P true x y f g = f refl
pick P false x y f g = g refl

pub same_word : (a b : List ℕ) → bytes_eq a b ≡ true → a ≡ b
same_word a b e = (bytes_eq-Decides a b).0 e

-- what is asked for is so where there is no fault
pub passed : (found : Bool) (kind : ReadKind) (at : ℕ) → (wrong_if (not found) kind at).faults ≡ [] → found ≡ true
passed true kind at e = refl
passed false kind at e = cc

-- a predicate's name
abbrev pub is_pred : List ℕ → Bool
is_pred text = is_name text && not (is_reserved text)

abbrev pub SaysOf : Head → List ℕ → Type 0
SaysOf heads.And text = text ≡ codes "and"
SaysOf heads.Not text = text ≡ codes "not"
SaysOf heads.Equal text = text ≡ codes "="
SaysOf heads.Reserved text = Unit {0}
SaysOf heads.Name text = is_pred text ≡ true
SaysOf heads.Other text = Unit {0}

pub head_says : (text : List ℕ) → SaysOf (head_of text) text
head_says text =
    pick (λ k. SaysOf k text) (bytes_eq text (codes "and")) heads.And _ (λ e. same_word text (codes "and") e)
    (λ _. pick (λ k. SaysOf k text) (bytes_eq text (codes "not")) heads.Not _ (λ e. same_word text (codes "not") e)
    (λ _. pick (λ k. SaysOf k text) (bytes_eq text (codes "=")) heads.Equal _ (λ e. same_word text (codes "=") e)
    (λ _. pick (λ k. SaysOf k text) (is_reserved text) heads.Reserved _ (λ _. tt)
    (λ free. pick (λ k. SaysOf k text) (is_name text) heads.Name heads.Other (λ named j. named j && not (free j)) (λ _. tt)))))

-- a word that is no predicate's name is another word
differs : (text word : List ℕ) → is_pred word ≡ false → is_pred text ≡ true → bytes_eq text word ≡ false
differs text word is_none is =
    elim (bytes_eq text word) as (λ k. bytes_eq text word ≡ k → k ≡ false) [
      | true ↦ λ e. let there : is_pred word ≡ true = subst (λ w. is_pred w ≡ true) (same_word text word e) is in cc
      | false ↦ λ e. refl
    ] refl

free : (text : List ℕ) → is_pred text ≡ true → is_reserved text ≡ false
free text is =
    elim (is_reserved text) as (λ k. (is_name text && not k) ≡ true → k ≡ false) [
      | true ↦ λ e. elim (is_name text) as (λ n. (n && false) ≡ true → true ≡ false) [ true ↦ λ e. cc | false ↦ λ e. cc ] e
      | false ↦ λ e. refl
    ] is

pub named : (text : List ℕ) → is_pred text ≡ true → is_name text ≡ true
named text is =
    elim (is_name text) as (λ n. (n && not (is_reserved text)) ≡ true → n ≡ true) [ true ↦ λ e. refl | false ↦ λ e. cc ] is

pub head_named : (text : List ℕ) → is_pred text ≡ true → head_of text ≡ heads.Name
head_named text is =
    let not_and = differs text (codes "and") refl is in
    let not_not = differs text (codes "not") refl is in
    let not_equal = differs text (codes "=") refl is in
    let no_word = free text is in
    let name = named text is in
    λ j. cond (not_and j) heads.And (cond (not_not j) heads.Not (cond (not_equal j) heads.Equal
    (cond (no_word j) heads.Reserved (cond (name j) heads.Name heads.Other))))

pub no_conjunction : (text : List ℕ) → is_pred text ≡ true → bytes_eq text (codes "and") ≡ false
no_conjunction text is = differs text (codes "and") refl is
