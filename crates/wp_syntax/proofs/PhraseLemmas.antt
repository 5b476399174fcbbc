-- Atoms, conditions, goals, effects and facts: a tree is read without a fault exactly where the grammar has it.
use Rattle.std.proofs.Common.{◌≡◌, ℕ, Bool, true, false, not, List, [], ◌∷◌, refl, sym, ap, subst, ◌∙◌}
use Rattle.std.specs.Prelude.{codes}
use Rattle.wp_lex.specs.Trees.{Tree, Trees, Leaf, Branch, End, Then}
use Rattle.wp_syntax.specs.declared.error.ReadKind.TheVariants.{Shape, Unsupported}
use Rattle.wp_syntax.specs.declared.records.Name.{Name}
use Rattle.wp_syntax.specs.declared.records.AtomText.{AtomText}
use Rattle.wp_syntax.specs.declared.records.Cond.{Cond}
use Rattle.wp_syntax.specs.declared.records.Cond.TheVariants.{Atom, Same, Differ}
use Rattle.wp_syntax.specs.declared.items.EffectItem.{EffectItem}
use Rattle.wp_syntax.specs.declared.items.InitFact.{InitFact}
use Rattle.wp_syntax.specs.declared.word.Head.TheVariants as heads
use Rattle.wp_syntax.specs.Word.{is_term}
use Rattle.wp_syntax.specs.Heads.{head_of}
use Rattle.wp_syntax.specs.Reading.{Read, fine, wrong, wrong_if, ◌>>=◌, ◌>>◌, each}
use Rattle.wp_syntax.specs.Grammar.{name_at, term_of, atom_of, atom_cond_of, equation, side_of, sides_of, equality_of, negation_of, plain_cond_of, cond_of, plain_goal_of, goal_of}
use Rattle.wp_syntax.specs.Items.{change, literal}
use Rattle.wp_syntax.specs.Effects.{no_atom, negated_of, plain_effect_of, effect_of, is_timed, stated_of, headed_fact_of, fact_of}
use Rattle.wp_syntax.specs.Phrases.{IsWordThat, IsAtom, IsEquality, IsLiteral, of_atom, of_same, of_differ, IsCondition, IsGoal, IsChange, of_add, of_delete, IsEffect, is_timed_literal, IsFact, of_stated, of_denied}
use Rattle.wp_syntax.proofs.FaultLemmas.{none_before, none_behind}
use Rattle.wp_syntax.proofs.Heads.{passed, is_pred, SaysOf, head_says, head_named, no_conjunction}
use Rattle.wp_syntax.proofs.ConjunctionLemmas.{Alone, each_holds, each_reads, without_and, conjunction_holds, conjunction_reads}

-- ---- terms and atoms
term_holds : (tree : Tree) → (term_of tree).faults ≡ [] → Alone (IsWordThat is_term) tree (term_of tree).value
term_holds (Leaf text at) none = record {
  item = name_at text at;
  only = refl;
  is = (passed (is_term text) Shape at (none_before (wrong_if (not (is_term text)) Shape at).faults [] none), refl);
}
term_holds (Branch at trees) none = cc

term_reads : (tree : Tree) (name : Name) → IsWordThat is_term tree name → term_of tree ≡ fine (name ∷ [])
term_reads (Leaf text at) name (good, same) = λ j. wrong_if (not (good j)) Shape at >> fine (sym same j ∷ [])
term_reads (Branch at trees) name is = absurd is

atom_holds : (at : ℕ) (head : List ℕ) (i : ℕ) (rest : Trees) → is_pred head ≡ true → (atom_of head i rest).faults ≡ []
    → IsAtom (Branch at (Then (Leaf head i) rest)) (atom_of head i rest).value
atom_holds at head i rest is none =
    (is, refl, each_holds term_of (IsWordThat is_term) term_holds rest (none_before (each term_of rest).faults [] none))

-- whatever holds of all lists that are atoms
with_atom : (P : Tree → AtomText → Type 0)
    → ((at : ℕ) (pred : List ℕ) (i : ℕ) (terms : Trees) (atom : AtomText) → is_pred pred ≡ true → atom_of pred i terms ≡ fine atom
    → P (Branch at (Then (Leaf pred i) terms)) atom)
    → (tree : Tree) (atom : AtomText) → IsAtom tree atom → P tree atom
with_atom P holds (Leaf text at) atom is = absurd is
with_atom P holds (Branch at End) atom is = absurd is
with_atom P holds (Branch at (Then (Branch i trees) rest)) atom is = absurd is
with_atom P holds (Branch at (Then (Leaf pred i) terms)) atom (is, same, args) =
    holds at pred i terms atom is
    (λ j. each_reads term_of (IsWordThat is_term) term_reads terms atom.args args j >>= λ args. fine (record { pred = sym same j; args = args }))

-- ---- equalities
record Equates (same : Bool) (word : List ℕ) (at : ℕ) (trees : Trees) (conds : List Cond) : Type 0 where
  a : Name
  b : Name
  only : conds ≡ equation same a b at ∷ []
  is : (i : ℕ) → word ≡ codes "=" → IsEquality (Branch i (Then (Leaf word at) trees)) a b at

side_yes : (text : List ℕ) (at : ℕ) → (side_of text at).faults ≡ [] → is_term text ≡ true
side_yes text at none = passed (is_term text) Shape at (none_before (wrong_if (not (is_term text)) Shape at).faults [] none)

equality_holds : (same : Bool) (word : List ℕ) (at : ℕ) (trees : Trees) → (equality_of same word at trees).faults ≡ []
    → Equates same word at trees (equality_of same word at trees).value
equality_holds same word at End none = cc
equality_holds same word at (Then first End) none = cc
equality_holds same word at (Then first (Then second (Then third rest))) none = cc
equality_holds same word at (Then (Branch i trees) (Then second End)) none = cc
equality_holds same word at (Then (Leaf first i) (Then (Branch j trees) End)) none = cc
equality_holds same word at (Then (Leaf first i) (Then (Leaf second j) End)) none =
    let sides = none_before (sides_of same word at (Leaf first i) (Leaf second j)).faults [] none in
    let a = side_yes first i (none_before (side_of first i).faults _ sides) in
    let b = side_yes second j (none_before (side_of second j).faults [] (none_behind (side_of first i).faults _ sides)) in
    record {
      a = name_at first i;
      b = name_at second j;
      only = refl;
      is = λ k e. (e, refl, (a, refl), (b, refl));
    }

side_reads : (text : List ℕ) (at : ℕ) (name : Name) → IsWordThat is_term (Leaf text at) name → side_of text at ≡ fine name
side_reads text at name (good, same) = λ j. wrong_if (not (good j)) Shape at >> fine (sym same j)

-- whatever holds of all lists that are equalities
with_equality : (P : Tree → Name → Name → ℕ → Type 0)
    → ((i at : ℕ) (trees : Trees) (a b : Name)
    → ((same : Bool) → equality_of same (codes "=") at trees ≡ fine (equation same a b at ∷ []))
    → P (Branch i (Then (Leaf (codes "=") at) trees)) a b at)
    → (tree : Tree) (a b : Name) (at : ℕ) → IsEquality tree a b at → P tree a b at
with_equality P holds (Leaf text i) a b at is = absurd is
with_equality P holds (Branch i End) a b at is = absurd is
with_equality P holds (Branch i (Then (Branch j trees) rest)) a b at is = absurd is
with_equality P holds (Branch i (Then (Leaf word j) End)) a b at is = absurd is
with_equality P holds (Branch i (Then (Leaf word j) (Then first End))) a b at is = absurd is
with_equality P holds (Branch i (Then (Leaf word j) (Then first (Then second (Then third rest))))) a b at is = absurd is
with_equality P holds (Branch i (Then (Leaf word j) (Then (Branch k trees) (Then second End)))) a b at (e, f, l, r) = absurd l
with_equality P holds (Branch i (Then (Leaf word j) (Then (Leaf first k) (Then (Branch l trees) End)))) a b at (e, f, m, r) = absurd r
with_equality P holds (Branch i (Then (Leaf word j) (Then (Leaf first k) (Then (Leaf second l) End)))) a b at (e, f, m, r) =
    subst (λ (w : List ℕ). P (Branch i (Then (Leaf w j) (Then (Leaf first k) (Then (Leaf second l) End)))) a b at) (sym e)
    (subst (λ (place : ℕ). P (Branch i (Then (Leaf (codes "=") j) (Then (Leaf first k) (Then (Leaf second l) End)))) a b place) (sym f)
    (holds i j (Then (Leaf first k) (Then (Leaf second l) End)) a b
    (λ same n. (side_reads first k a m n >>= λ x. side_reads second l b r n >>= λ y. fine (equation same x y j)) >>= λ cond. fine (cond ∷ []))))

-- ---- conditions
negation_holds : (at : ℕ) (word : List ℕ) (i : ℕ) (trees : Trees) → word ≡ codes "not" → (negation_of word i trees).faults ≡ []
    → Alone IsLiteral (Branch at (Then (Leaf word i) trees)) (negation_of word i trees).value
negation_holds at word i End e none = cc
negation_holds at word i (Then (Leaf text j) rest) e none = cc
negation_holds at word i (Then (Branch j End) rest) e none = cc
negation_holds at word i (Then (Branch j (Then (Branch k inner) terms)) rest) e none = cc
negation_holds at word i (Then (Branch j (Then (Leaf head k) terms)) (Then tree rest)) e none = cc
negation_holds at word i (Then (Branch j (Then (Leaf head k) terms)) End) e none =
    let tree : Tree = Branch j (Then (Leaf head k) terms) in
    elim (head_of head) as (λ h. SaysOf h head → let r : Read (List Cond) = elim h [
      | heads.Equal ↦ equality_of false head k terms
      | _ ↦ wrong (Unsupported word) i >> fine []
    ] in r.faults ≡ [] → Alone IsLiteral (Branch at (Then (Leaf word i) (Then tree End))) r.value) [
      | heads.Equal ↦ λ says none. let it = equality_holds false head k terms none in record {
        item = Differ it.a it.b k;
        only = it.only;
        is = subst (λ (w : List ℕ). IsLiteral (Branch at (Then (Leaf w i) (Then tree End))) (Differ it.a it.b k)) (sym e)
            (of_differ tree it.a it.b k at i (it.is j says));
      }
      | _ ↦ λ says none. cc
    ] (head_says head) none

literal_holds : (at : ℕ) (head : List ℕ) (i : ℕ) (rest : Trees) → (plain_cond_of at head i rest).faults ≡ []
    → Alone IsLiteral (Branch at (Then (Leaf head i) rest)) (plain_cond_of at head i rest).value
literal_holds at head i rest none =
    let tree : Tree = Branch at (Then (Leaf head i) rest) in
    elim (head_of head) as (λ k. SaysOf k head → let r : Read (List Cond) = elim k [
      | heads.Not ↦ negation_of head i rest
      | heads.Equal ↦ equality_of true head i rest
      | heads.Name ↦ atom_cond_of head i rest
      | heads.Other ↦ wrong Shape at >> fine []
      | _ ↦ wrong (Unsupported head) i >> fine []
    ] in r.faults ≡ [] → Alone IsLiteral tree r.value) [
      | heads.Not ↦ λ says none. negation_holds at head i rest says none
      | heads.Equal ↦ λ says none. let it = equality_holds true head i rest none in
          record { item = Same it.a it.b i; only = it.only; is = of_same tree it.a it.b i (it.is at says) }
      | heads.Name ↦ λ says none. record {
        item = Atom (atom_of head i rest).value;
        only = refl;
        is = of_atom tree (atom_of head i rest).value (atom_holds at head i rest says (none_before (atom_of head i rest).faults [] none));
      }
      | heads.Other ↦ λ says none. cc
      | _ ↦ λ says none. cc
    ] (head_says head) none

abbrev ReadsCond : Tree → Cond → Type 0
ReadsCond tree cond = cond_of tree ≡ fine (cond ∷ [])

literal_reads : (tree : Tree) (cond : Cond) → IsLiteral tree cond → ReadsCond tree cond
literal_reads _ _ (of_atom tree atom is) =
    with_atom (λ tree atom. ReadsCond tree (Atom atom)) (λ at pred i terms atom named read.
    without_and plain_cond_of at pred i terms (no_conjunction pred named)
    ∙ ap (λ k. let r : Read (List Cond) = elim k [
      | heads.Not ↦ negation_of pred i terms
      | heads.Equal ↦ equality_of true pred i terms
      | heads.Name ↦ atom_cond_of pred i terms
      | heads.Other ↦ wrong Shape at >> fine []
      | _ ↦ wrong (Unsupported pred) i >> fine []
    ] in r) (head_named pred named)
    ∙ λ j. read j >>= λ atom. fine (Atom atom ∷ [])) tree atom is
literal_reads _ _ (of_same tree a b at is) =
    with_equality (λ tree a b at. ReadsCond tree (Same a b at)) (λ i at trees a b reads. reads true) tree a b at is
literal_reads _ _ (of_differ tree a b at i j is) =
    with_equality (λ tree a b at. ReadsCond (Branch i (Then (Leaf (codes "not") j) (Then tree End))) (Differ a b at))
    (λ k at trees a b reads. reads false) tree a b at is

pub cond_holds : (tree : Tree) → (cond_of tree).faults ≡ [] → IsCondition tree (cond_of tree).value
cond_holds tree none = conjunction_holds plain_cond_of IsLiteral literal_holds tree none

pub cond_reads : (tree : Tree) (conds : List Cond) → IsCondition tree conds → cond_of tree ≡ fine conds
cond_reads tree conds is = conjunction_reads plain_cond_of IsLiteral literal_reads is

-- ---- goals
goal_atom_holds : (at : ℕ) (head : List ℕ) (i : ℕ) (rest : Trees) → (plain_goal_of at head i rest).faults ≡ []
    → Alone IsAtom (Branch at (Then (Leaf head i) rest)) (plain_goal_of at head i rest).value
goal_atom_holds at head i rest none =
    elim (head_of head) as (λ k. SaysOf k head → let r : Read (List AtomText) = elim k [
      | heads.Name ↦ atom_of head i rest >>= λ atom. fine (atom ∷ [])
      | heads.Other ↦ wrong Shape at >> fine []
      | _ ↦ wrong (Unsupported head) i >> fine []
    ] in r.faults ≡ [] → Alone IsAtom (Branch at (Then (Leaf head i) rest)) r.value) [
      | heads.Name ↦ λ says none. record {
        item = (atom_of head i rest).value;
        only = refl;
        is = atom_holds at head i rest says (none_before (atom_of head i rest).faults [] none);
      }
      | heads.Other ↦ λ says none. cc
      | _ ↦ λ says none. cc
    ] (head_says head) none

goal_atom_reads : (tree : Tree) (atom : AtomText) → IsAtom tree atom → goal_of tree ≡ fine (atom ∷ [])
goal_atom_reads tree atom is =
    with_atom (λ tree atom. goal_of tree ≡ fine (atom ∷ [])) (λ at pred i terms atom named read.
    without_and plain_goal_of at pred i terms (no_conjunction pred named)
    ∙ ap (λ k. let r : Read (List AtomText) = elim k [
      | heads.Name ↦ atom_of pred i terms >>= λ atom. fine (atom ∷ [])
      | heads.Other ↦ wrong Shape at >> fine []
      | _ ↦ wrong (Unsupported pred) i >> fine []
    ] in r) (head_named pred named)
    ∙ λ j. read j >>= λ atom. fine (atom ∷ [])) tree atom is

pub goal_holds : (tree : Tree) → (goal_of tree).faults ≡ [] → IsGoal tree (goal_of tree).value
goal_holds tree none = conjunction_holds plain_goal_of IsAtom goal_atom_holds tree none

pub goal_reads : (tree : Tree) (atoms : List AtomText) → IsGoal tree atoms → goal_of tree ≡ fine atoms
goal_reads tree atoms is = conjunction_reads plain_goal_of IsAtom goal_atom_reads is

-- ---- what stands behind a not in an effect or a fact
record Negates (trees : Trees) (atom : AtomText) : Type 0 where
  tree : Tree
  only : trees ≡ Then tree End
  is : IsAtom tree atom

negated_holds : (word : List ℕ) (i : ℕ) (trees : Trees) → (negated_of word i trees).faults ≡ []
    → Negates trees (negated_of word i trees).value
negated_holds word i End none = cc
negated_holds word i (Then (Leaf text j) rest) none = cc
negated_holds word i (Then (Branch j End) rest) none = cc
negated_holds word i (Then (Branch j (Then (Branch k inner) terms)) rest) none = cc
negated_holds word i (Then (Branch j (Then (Leaf head k) terms)) (Then tree rest)) none = cc
negated_holds word i (Then (Branch j (Then (Leaf head k) terms)) End) none =
    let tree : Tree = Branch j (Then (Leaf head k) terms) in
    elim (head_of head) as (λ h. SaysOf h head → let r : Read AtomText = elim h [
      | heads.Name ↦ atom_of head k terms
      | _ ↦ wrong (Unsupported word) i >> fine (no_atom word i)
    ] in r.faults ≡ [] → Negates (Then tree End) r.value) [
      | heads.Name ↦ λ says none. record { tree = tree; only = refl; is = atom_holds j head k terms says none }
      | _ ↦ λ says none. cc
    ] (head_says head) none

negated_reads : (word : List ℕ) (i : ℕ) (tree : Tree) (atom : AtomText) → IsAtom tree atom
    → negated_of word i (Then tree End) ≡ fine atom
negated_reads word i tree atom is =
    with_atom (λ tree atom. negated_of word i (Then tree End) ≡ fine atom) (λ at pred k terms atom named read.
    ap (λ h. let r : Read AtomText = elim h [
      | heads.Name ↦ atom_of pred k terms
      | _ ↦ wrong (Unsupported word) i >> fine (no_atom word i)
    ] in r) (head_named pred named)
    ∙ read) tree atom is

-- ---- effects
change_holds : (at : ℕ) (head : List ℕ) (i : ℕ) (rest : Trees) → (plain_effect_of at head i rest).faults ≡ []
    → Alone IsChange (Branch at (Then (Leaf head i) rest)) (plain_effect_of at head i rest).value
change_holds at head i rest none =
    let tree : Tree = Branch at (Then (Leaf head i) rest) in
    elim (head_of head) as (λ k. SaysOf k head → let r : Read (List EffectItem) = elim k [
      | heads.Not ↦ negated_of head i rest >>= λ atom. fine (change false atom ∷ [])
      | heads.Name ↦ atom_of head i rest >>= λ atom. fine (change true atom ∷ [])
      | heads.Other ↦ wrong Shape at >> fine []
      | _ ↦ wrong (Unsupported head) i >> fine []
    ] in r.faults ≡ [] → Alone IsChange tree r.value) [
      | heads.Not ↦ λ says none.
          let atom = (negated_of head i rest).value in
          let it = negated_holds head i rest (none_before (negated_of head i rest).faults [] none) in
          record {
            item = change false atom;
            only = refl;
            is = subst (λ (w : List ℕ). IsChange (Branch at (Then (Leaf w i) rest)) (change false atom)) (sym says)
                (subst (λ (trees : Trees). IsChange (Branch at (Then (Leaf (codes "not") i) trees)) (change false atom)) (sym it.only)
                (of_delete it.tree atom at i it.is));
          }
      | heads.Name ↦ λ says none. record {
        item = change true (atom_of head i rest).value;
        only = refl;
        is = of_add tree (atom_of head i rest).value (atom_holds at head i rest says (none_before (atom_of head i rest).faults [] none));
      }
      | heads.Other ↦ λ says none. cc
      | _ ↦ λ says none. cc
    ] (head_says head) none

change_reads : (tree : Tree) (item : EffectItem) → IsChange tree item → effect_of tree ≡ fine (item ∷ [])
change_reads _ _ (of_add tree atom is) =
    with_atom (λ tree atom. effect_of tree ≡ fine (change true atom ∷ [])) (λ at pred i terms atom named read.
    without_and plain_effect_of at pred i terms (no_conjunction pred named)
    ∙ ap (λ k. let r : Read (List EffectItem) = elim k [
      | heads.Not ↦ negated_of pred i terms >>= λ atom. fine (change false atom ∷ [])
      | heads.Name ↦ atom_of pred i terms >>= λ atom. fine (change true atom ∷ [])
      | heads.Other ↦ wrong Shape at >> fine []
      | _ ↦ wrong (Unsupported pred) i >> fine []
    ] in r) (head_named pred named)
    ∙ λ j. read j >>= λ atom. fine (change true atom ∷ [])) tree atom is
change_reads _ _ (of_delete tree atom i j is) =
    λ k. negated_reads (codes "not") j tree atom is k >>= λ atom. fine (change false atom ∷ [])

pub effect_holds : (tree : Tree) → (effect_of tree).faults ≡ [] → IsEffect tree (effect_of tree).value
effect_holds tree none = conjunction_holds plain_effect_of IsChange change_holds tree none

pub effect_reads : (tree : Tree) (items : List EffectItem) → IsEffect tree items → effect_of tree ≡ fine items
effect_reads tree items is = conjunction_reads plain_effect_of IsChange change_reads is

-- ---- facts of :init
stated_holds : (at : ℕ) (head : List ℕ) (i : ℕ) (rest : Trees) → is_pred head ≡ true → (stated_of head i rest).faults ≡ []
    → IsFact (Branch at (Then (Leaf head i) rest)) (stated_of head i rest).value
stated_holds at head i rest is none =
    elim (is_timed head rest) as (λ k. is_timed head rest ≡ k → let r : Read InitFact = elim k [
      | true ↦ wrong (Unsupported head) i >> fine (literal true (no_atom head i))
      | false ↦ atom_of head i rest >>= λ atom. fine (literal true atom)
    ] in r.faults ≡ [] → IsFact (Branch at (Then (Leaf head i) rest)) r.value) [
      | true ↦ λ e none. cc
      | false ↦ λ e none. of_stated (Branch at (Then (Leaf head i) rest)) (atom_of head i rest).value e
          (atom_holds at head i rest is (none_before (atom_of head i rest).faults [] none))
    ] refl none

headed_fact_holds : (at : ℕ) (head : List ℕ) (i : ℕ) (rest : Trees) → (headed_fact_of at head i rest).faults ≡ []
    → IsFact (Branch at (Then (Leaf head i) rest)) (headed_fact_of at head i rest).value
headed_fact_holds at head i rest none =
    elim (head_of head) as (λ k. SaysOf k head → let r : Read InitFact = elim k [
      | heads.Not ↦ negated_of head i rest >>= λ atom. fine (literal false atom)
      | heads.Name ↦ stated_of head i rest
      | heads.Other ↦ wrong Shape at >> fine (literal true (no_atom head i))
      | _ ↦ wrong (Unsupported head) i >> fine (literal true (no_atom head i))
    ] in r.faults ≡ [] → IsFact (Branch at (Then (Leaf head i) rest)) r.value) [
      | heads.Not ↦ λ says none.
          let atom = (negated_of head i rest).value in
          let it = negated_holds head i rest (none_before (negated_of head i rest).faults [] none) in
          subst (λ (w : List ℕ). IsFact (Branch at (Then (Leaf w i) rest)) (literal false atom)) (sym says)
          (subst (λ (trees : Trees). IsFact (Branch at (Then (Leaf (codes "not") i) trees)) (literal false atom)) (sym it.only)
          (of_denied it.tree atom at i it.is))
      | heads.Name ↦ λ says none. stated_holds at head i rest says none
      | heads.Other ↦ λ says none. cc
      | _ ↦ λ says none. cc
    ] (head_says head) none

pub fact_holds : (tree : Tree) → (fact_of tree).faults ≡ [] → Alone IsFact tree (fact_of tree).value
fact_holds (Leaf text at) none = cc
fact_holds (Branch at End) none = cc
fact_holds (Branch at (Then (Branch i trees) rest)) none = cc
fact_holds (Branch at (Then (Leaf head i) rest)) none = record {
  item = (headed_fact_of at head i rest).value;
  only = refl;
  is = headed_fact_holds at head i rest (none_before (headed_fact_of at head i rest).faults [] none);
}

pub fact_reads : (tree : Tree) (fact : InitFact) → IsFact tree fact → fact_of tree ≡ fine (fact ∷ [])
fact_reads _ _ (of_stated tree atom untimed is) =
    with_atom (λ tree atom. is_timed_literal tree ≡ false → fact_of tree ≡ fine (literal true atom ∷ []))
    (λ at pred i terms atom named read untimed j.
    (ap (λ k. let r : Read InitFact = elim k [
      | heads.Not ↦ negated_of pred i terms >>= λ atom. fine (literal false atom)
      | heads.Name ↦ stated_of pred i terms
      | heads.Other ↦ wrong Shape at >> fine (literal true (no_atom pred i))
      | _ ↦ wrong (Unsupported pred) i >> fine (literal true (no_atom pred i))
    ] in r) (head_named pred named)
    ∙ ap (λ k. let r : Read InitFact = elim k [
      | true ↦ wrong (Unsupported pred) i >> fine (literal true (no_atom pred i))
      | false ↦ atom_of pred i terms >>= λ atom. fine (literal true atom)
    ] in r) untimed
    ∙ λ l. read l >>= λ atom. fine (literal true atom)) j >>= λ fact. fine (fact ∷ [])) tree atom is untimed
fact_reads _ _ (of_denied tree atom i j is) =
    λ k. (negated_reads (codes "not") j tree atom is k >>= λ atom. fine (literal false atom)) >>= λ fact. fine (fact ∷ [])
