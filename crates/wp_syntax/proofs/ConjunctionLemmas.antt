-- Conjunctions and rows as readings and as relations: they agree where what stands in them does.
use Rattle.std.proofs.Common.{Result, ◌≡◌, ℕ, Bool, true, false, List, [], ◌∷◌, ◌++◌, refl, sym, ap, subst, ◌∙◌}
use Rattle.std.specs.Prelude.{codes}
use Rattle.std.specs.Str.{bytes_eq}
use Rattle.wp_lex.specs.Trees.{Tree, Trees, Leaf, Branch, End, Then}
use Rattle.wp_syntax.specs.declared.error.ReadError.{ReadError}
use Rattle.wp_syntax.specs.Reading.{Read, fine, ◌>>=◌, each, Adds}
use Rattle.wp_syntax.specs.Grammar.{conjunction_of, conjuncts_of}
use Rattle.wp_syntax.specs.Phrases.{Each, IsConjunction, AreConjuncts, nothing, conjunction, alone, no_more, one_more}
use Rattle.wp_syntax.proofs.FaultLemmas.{none_before, none_behind}
use Rattle.wp_syntax.proofs.Heads.{same_word}

pub both_fine : {A : Type 0} (front back : Read (List A)) (xs ys : List A) → front ≡ fine xs → back ≡ fine ys
    → (front >>= λ a. back >>= λ b. fine (a ++ b)) ≡ fine (xs ++ ys)
both_fine front back xs ys e f = λ i. e i >>= λ a. f i >>= λ b. fine (a ++ b)

-- what a tree states alone
pub record Alone {A : Type 0} (IsX : Tree → A → Type 0) (tree : Tree) (items : List A) : Type 0 where
  pub item : A
  pub only : items ≡ item ∷ []
  pub is : IsX tree item

pub each_holds : {A : Type 0} (one : Tree → Read (List A)) (IsX : Tree → A → Type 0)
    → ((tree : Tree) → (one tree).faults ≡ [] → Alone IsX tree (one tree).value)
    → (trees : Trees) → (each one trees).faults ≡ [] → Each IsX trees (each one trees).value
each_holds {A} one IsX holds End none = tt
each_holds {A} one IsX holds (Then tree rest) none =
    let it = holds tree (none_before (one tree).faults _ none) in
    let more = each_holds {A = A} one IsX holds rest (none_before (each one rest).faults [] (none_behind (one tree).faults _ none)) in
    subst (λ (xs : List A). Each IsX (Then tree rest) (xs ++ (each one rest).value)) (sym it.only) (it.is, more)

pub each_reads : {A : Type 0} (one : Tree → Read (List A)) (IsX : Tree → A → Type 0)
    → ((tree : Tree) (x : A) → IsX tree x → one tree ≡ fine (x ∷ []))
    → (trees : Trees) (xs : List A) → Each IsX trees xs → each one trees ≡ fine xs
each_reads {A} one IsX reads End [] is = refl
each_reads {A} one IsX reads End (x ∷ xs) is = absurd is
each_reads {A} one IsX reads (Then tree rest) [] is = absurd is
each_reads {A} one IsX reads (Then tree rest) (x ∷ xs) (is, more) =
    both_fine (one tree) (each one rest) (x ∷ []) xs (reads tree x is) (each_reads {A = A} one IsX reads rest xs more)

-- conjunctions
pub with_and : {A : Type 0} (plain : ℕ → List ℕ → ℕ → Trees → Read (List A)) (at : ℕ) (head : List ℕ) (i : ℕ) (rest : Trees)
    → bytes_eq head (codes "and") ≡ true → conjunction_of plain (Branch at (Then (Leaf head i) rest)) ≡ conjuncts_of plain rest
with_and {A} plain at head i rest e =
    ap (λ (k : Bool). let r : Read (List A) = elim k [ true ↦ conjuncts_of plain rest | false ↦ plain at head i rest ] in r) e

pub without_and : {A : Type 0} (plain : ℕ → List ℕ → ℕ → Trees → Read (List A)) (at : ℕ) (head : List ℕ) (i : ℕ) (rest : Trees)
    → bytes_eq head (codes "and") ≡ false → conjunction_of plain (Branch at (Then (Leaf head i) rest)) ≡ plain at head i rest
without_and {A} plain at head i rest e =
    ap (λ (k : Bool). let r : Read (List A) = elim k [ true ↦ conjuncts_of plain rest | false ↦ plain at head i rest ] in r) e

-- a call that reads what stands behind an and
pub conjuncts_added : {A U : Type 0} (plain : ℕ → List ℕ → ℕ → Trees → Read (List A)) (result : Result U ReadError) (old new : List A)
    (node tree : Tree) (inner rest : Trees) (at : ℕ) (head : List ℕ) (i : ℕ) → node ≡ Branch at inner → inner ≡ Then tree rest
    → tree ≡ Leaf head i → bytes_eq head (codes "and") ≡ true → Adds result old new (conjuncts_of plain rest)
    → Adds result old new (conjunction_of plain node)
conjuncts_added {A} {U} plain result old new node tree inner rest at head i is_list is_more is_word is_and read =
    subst (λ (r : Read (List A)). Adds result old new r)
    (sym (ap (λ (t : Tree). conjunction_of plain t) (is_list ∙ ap (Branch at) (is_more ∙ ap (λ (t : Tree). Then t rest) is_word))
    ∙ with_and plain at head i rest is_and)) read

mutual
  pub conjunction_holds : {A : Type 0} (plain : ℕ → List ℕ → ℕ → Trees → Read (List A)) (IsPlain : Tree → A → Type 0)
      → ((at : ℕ) (head : List ℕ) (i : ℕ) (rest : Trees) → (plain at head i rest).faults ≡ []
      → Alone IsPlain (Branch at (Then (Leaf head i) rest)) (plain at head i rest).value)
      → (tree : Tree) → (conjunction_of plain tree).faults ≡ [] → IsConjunction IsPlain tree (conjunction_of plain tree).value
  conjunction_holds {A} plain IsPlain holds (Leaf text at) none = cc
  conjunction_holds {A} plain IsPlain holds (Branch at End) none = nothing at
  conjunction_holds {A} plain IsPlain holds (Branch at (Then (Branch i trees) rest)) none = cc
  conjunction_holds {A} plain IsPlain holds (Branch at (Then (Leaf head i) rest)) none =
      elim (bytes_eq head (codes "and")) as (λ k. bytes_eq head (codes "and") ≡ k → let r : Read (List A) = elim k [
        | true ↦ conjuncts_of plain rest
        | false ↦ plain at head i rest
      ] in r.faults ≡ [] → IsConjunction IsPlain (Branch at (Then (Leaf head i) rest)) r.value) [
        | true ↦ λ e none. subst (λ (w : List ℕ). IsConjunction IsPlain (Branch at (Then (Leaf w i) rest)) (conjuncts_of plain rest).value)
            (sym (same_word head (codes "and") e))
            (conjunction at i rest (conjuncts_of plain rest).value (conjuncts_hold {A = A} plain IsPlain holds rest none))
        | false ↦ λ e none. let it = holds at head i rest none in
            subst (λ (xs : List A). IsConjunction IsPlain (Branch at (Then (Leaf head i) rest)) xs) (sym it.only)
            (alone (Branch at (Then (Leaf head i) rest)) it.item it.is)
      ] refl none

  pub conjuncts_hold : {A : Type 0} (plain : ℕ → List ℕ → ℕ → Trees → Read (List A)) (IsPlain : Tree → A → Type 0)
      → ((at : ℕ) (head : List ℕ) (i : ℕ) (rest : Trees) → (plain at head i rest).faults ≡ []
      → Alone IsPlain (Branch at (Then (Leaf head i) rest)) (plain at head i rest).value)
      → (trees : Trees) → (conjuncts_of plain trees).faults ≡ [] → AreConjuncts IsPlain trees (conjuncts_of plain trees).value
  conjuncts_hold {A} plain IsPlain holds End none = no_more
  conjuncts_hold {A} plain IsPlain holds (Then tree rest) none =
      let here = none_before (conjunction_of plain tree).faults _ none in
      let there = none_before (conjuncts_of plain rest).faults [] (none_behind (conjunction_of plain tree).faults _ none) in
      one_more tree rest (conjunction_of plain tree).value (conjuncts_of plain rest).value
      (conjunction_holds {A = A} plain IsPlain holds tree here) (conjuncts_hold {A = A} plain IsPlain holds rest there)

mutual
  pub conjunction_reads : {A : Type 0} (plain : ℕ → List ℕ → ℕ → Trees → Read (List A)) (IsPlain : Tree → A → Type 0)
      → ((tree : Tree) (x : A) → IsPlain tree x → conjunction_of plain tree ≡ fine (x ∷ []))
      → {tree : Tree} {items : List A} → IsConjunction IsPlain tree items → conjunction_of plain tree ≡ fine items
  conjunction_reads {A} plain IsPlain reads (nothing at) = refl
  conjunction_reads {A} plain IsPlain reads (conjunction at i rest items are) = conjuncts_read {A = A} plain IsPlain reads are
  conjunction_reads {A} plain IsPlain reads (alone tree item is) = reads tree item is

  pub conjuncts_read : {A : Type 0} (plain : ℕ → List ℕ → ℕ → Trees → Read (List A)) (IsPlain : Tree → A → Type 0)
      → ((tree : Tree) (x : A) → IsPlain tree x → conjunction_of plain tree ≡ fine (x ∷ []))
      → {trees : Trees} {items : List A} → AreConjuncts IsPlain trees items → conjuncts_of plain trees ≡ fine items
  conjuncts_read {A} plain IsPlain reads no_more = refl
  conjuncts_read {A} plain IsPlain reads (one_more tree rest front back is are) =
      both_fine (conjunction_of plain tree) (conjuncts_of plain rest) front back
      (conjunction_reads {A = A} plain IsPlain reads is) (conjuncts_read {A = A} plain IsPlain reads are)
