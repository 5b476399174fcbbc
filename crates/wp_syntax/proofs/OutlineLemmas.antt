-- What domains and problems share: it is read without a fault exactly where the grammar has it.
use Rattle.std.proofs.Common.{◌≡◌, ℕ, true, not, List, [], ◌∷◌, ◌++◌, refl, sym, subst}
use Rattle.std.specs.Prelude.{codes}
use Rattle.std.specs.Str.{bytes_eq}
use Rattle.std.proofs.lemmas.Slice.Eq.{bytes_eq-Decides}
use Rattle.wp_lex.specs.Trees.{Tree, Trees, Leaf, Branch, End, Then}
use Rattle.wp_syntax.specs.declared.error.ReadKind.TheVariants.{Shape}
use Rattle.wp_syntax.specs.declared.records.Name.{Name}
use Rattle.wp_syntax.specs.Word.{is_keyword, is_name}
use Rattle.wp_syntax.specs.Reading.{fine, wrong_if, ◌>>=◌, ◌>>◌}
use Rattle.wp_syntax.specs.Outline.{outline_of, end_of, only_name_of, title_of, flags_of}
use Rattle.wp_syntax.specs.Phrases.{IsWordThat}
use Rattle.wp_syntax.specs.Sentences.{AreFlags, HasOutline, defines}
use Rattle.wp_syntax.proofs.FaultLemmas.{none_before, none_behind}
use Rattle.wp_syntax.proofs.Heads.{same_word, passed}

pub some_fault : {F : Type 0} (fault : F) (faults : List F) → fault ∷ faults ≡ [] → ⊥
some_fault fault faults e = cc

-- ---- flags
pub flags_hold : (trees : Trees) → (flags_of trees).faults ≡ [] → AreFlags trees
flags_hold End none = tt
flags_hold (Then (Leaf text at) rest) none =
    let flag = wrong_if (not (is_keyword text)) Shape at in
    (passed (is_keyword text) Shape at (none_before flag.faults _ none), flags_hold rest (none_behind flag.faults _ none))
flags_hold (Then (Branch at trees) rest) none = cc

pub flags_read : (trees : Trees) → AreFlags trees → (flags_of trees).faults ≡ []
flags_read End are = refl
flags_read (Then (Leaf text at) rest) (is, are) = λ j. (wrong_if (not (is j)) Shape at).faults ++ flags_read rest are j
flags_read (Then (Branch at trees) rest) are = absurd are

-- ---- one name
pub record OnlyName (trees : Trees) (name : Name) : Type 0 where
  pub tree : Tree
  pub only : trees ≡ Then tree End
  pub is : IsWordThat is_name tree name

pub only_name_holds : (at : ℕ) (trees : Trees) → (only_name_of at trees).faults ≡ [] → OnlyName trees (only_name_of at trees).value
only_name_holds at End none = cc
only_name_holds at (Then (Branch i trees) rest) none = cc
only_name_holds at (Then (Leaf text i) End) none = record {
  tree = Leaf text i;
  only = refl;
  is = (
    passed (is_name text) Shape i (none_before (wrong_if (not (is_name text)) Shape i).faults []
        (none_before ((wrong_if (not (is_name text)) Shape i).faults ++ []) _ none)),
    refl,
  );
}
only_name_holds at (Then (Leaf text i) (Then tree rest)) none =
    absurd (some_fault _ _ (none_behind ((wrong_if (not (is_name text)) Shape i).faults ++ []) _ none))

pub only_name_reads : (at : ℕ) (tree : Tree) (name : Name) → IsWordThat is_name tree name → only_name_of at (Then tree End) ≡ fine name
only_name_reads at (Leaf text i) name (good, same) =
    λ j. (wrong_if (not (good j)) Shape i >> fine (sym same j)) >>= λ name. end_of End >> fine name
only_name_reads at (Branch i trees) name is = absurd is

-- ---- the title
record Titles (word : List ℕ) (title : Tree) (name : Name) : Type 0 where
  at : ℕ
  place : ℕ
  tree : Tree
  only : title ≡ Branch at (Then (Leaf word place) (Then tree End))
  is : IsWordThat is_name tree name

title_holds : (word : List ℕ) (title : Tree) → (title_of word title).faults ≡ [] → Titles word title (title_of word title).value
title_holds word (Leaf text at) none = cc
title_holds word (Branch at End) none = cc
title_holds word (Branch at (Then (Branch i trees) rest)) none = cc
title_holds word (Branch at (Then (Leaf head i) rest)) none =
    let test = wrong_if (not (bytes_eq head word)) Shape at in
    let it = only_name_holds at rest (none_behind test.faults _ none) in
    let same = same_word head word (passed (bytes_eq head word) Shape at (none_before test.faults _ none)) in
    record {
      at = at;
      place = i;
      tree = it.tree;
      only = λ j. Branch at (Then (Leaf (same j) i) (it.only j));
      is = it.is;
    }

-- ---- the whole list
pub outline_holds : (word : List ℕ) (trees : Trees) → (outline_of trees).faults ≡ [] → (title_of word (outline_of trees).value.title).faults ≡ []
    → HasOutline word trees (title_of word (outline_of trees).value.title).value (outline_of trees).value.rest
outline_holds word End outline title = cc
outline_holds word (Then (Leaf text at) rest) outline title = cc
outline_holds word (Then (Branch at trees) (Then tree rest)) outline title = cc
outline_holds word (Then (Branch at End) End) outline title = cc
outline_holds word (Then (Branch at (Then (Branch i trees) rest)) End) outline title = cc
outline_holds word (Then (Branch at (Then (Leaf text i) End)) End) outline title = cc
outline_holds word (Then (Branch at (Then (Leaf text i) (Then tree rest))) End) outline title =
    let test = wrong_if (not (bytes_eq text (codes "define"))) Shape at in
    let same = same_word text (codes "define") (passed (bytes_eq text (codes "define")) Shape at (none_before test.faults [] outline)) in
    let it = title_holds word tree title in
    let name = (title_of word tree).value in
    subst (λ (t : Tree). HasOutline word (Then (Branch at (Then (Leaf text i) (Then t rest))) End) name rest) (sym it.only)
    (subst (λ (w : List ℕ). HasOutline word (Then (Branch at (Then (Leaf w i) (Then (Branch it.at (Then (Leaf word it.place) (Then it.tree End))) rest))) End) name rest)
    (sym same) (defines at i it.at it.place it.tree name rest it.is))

bytes_same : (xs : List ℕ) → bytes_eq xs xs ≡ true
bytes_same xs = (bytes_eq-Decides xs xs).1 refl

pub title_reads : (word : List ℕ) (at i : ℕ) (tree : Tree) (name : Name) → IsWordThat is_name tree name
    → title_of word (Branch at (Then (Leaf word i) (Then tree End))) ≡ fine name
title_reads word at i tree name is =
    λ j. wrong_if (not (bytes_same word j)) Shape at >> only_name_reads at tree name is j
