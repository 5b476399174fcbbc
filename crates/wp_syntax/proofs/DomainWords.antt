-- The names that a domain without a fault declares are words, and those of its actions differ.
use Rattle.std.proofs.Common.{◌≡◌, ℕ, true, false, not, List, [], ◌∷◌, ◌++◌, Some, map, refl, sym, ap, subst, ◌∙◌}
use Rattle.std.specs.Prelude.{All, codes, unwrap_or, is_some, ◌||◌}
use Rattle.std.specs.List.{IsDistinct, list_any}
use Rattle.std.specs.Str.{bytes_eq}
use Rattle.std.proofs.lemmas.Cmp.{nat_list_eq_equiv}
use Rattle.std.proofs.lemmas.List.Elements.{All-nil, All-cons, All-push, All-append}
use Rattle.std.proofs.lemmas.Map.Keys.{IsDistinct-push}
use Rattle.wp_lex.specs.Trees.{Tree, Trees, Leaf, Branch, End, Then}
use Rattle.wp_lex.specs.Leaves.{IsOfWords, AreOfWords}
use Rattle.wp_syntax.specs.declared.error.ReadKind.TheVariants.{Shape, Unsupported, Duplicate}
use Rattle.wp_syntax.specs.declared.records.PredText.{PredText}
use Rattle.wp_syntax.specs.declared.records.ActionText.{ActionText}
use Rattle.wp_syntax.specs.declared.records.Domain.{Domain}
use Rattle.wp_syntax.specs.declared.domain.Sections.{Sections}
use Rattle.wp_syntax.specs.declared.typing.Role.TheVariants as roles
use Rattle.wp_syntax.specs.declared.word.SectionHead.TheVariants as section_heads
use Rattle.wp_syntax.specs.Word.{is_name}
use Rattle.wp_syntax.specs.Heads.{section_head_of}
use Rattle.wp_syntax.specs.Reading.{Read, fine, wrong, wrong_if, ◌>>=◌, ◌>>◌}
use Rattle.wp_syntax.specs.Typing.{typed_of}
use Rattle.wp_syntax.specs.Predicates.{pred_of, preds_of, declaration_of}
use Rattle.wp_syntax.specs.Actions.{is_defined, defined_of, action_of}
use Rattle.wp_syntax.specs.Outline.{outline_of, title_of, flags_of}
use Rattle.wp_syntax.specs.Domains.{no_sections, headed_section_of, section_of, sections_of, domain_of}
use Rattle.wp_syntax.specs.Laws.{IsWorded, IsTypedByWords, IsNamedDomain}
use Rattle.wp_syntax.proofs.FaultLemmas.{none_before, none_behind, not_faulty}
use Rattle.wp_syntax.proofs.TypedWords.{list_words}

-- what is read has it, where there is no fault
abbrev pub Holds : {A : Type 0} → (A → Type 0) → Read A → Type 0
Holds P read = read.faults ≡ [] → P read.value

-- predicates
abbrev IsWordedPred : PredText → Type 0
IsWordedPred pred = IsWorded pred.name

pred_words : (before : List PredText) (tree : Tree) → IsOfWords tree
    → All IsWordedPred (pred_of before tree).value
pred_words before (Leaf text at) words = All-nil IsWordedPred
pred_words before (Branch at End) words = All-nil IsWordedPred
pred_words before (Branch at (Then (Branch i trees) rest)) words = All-nil IsWordedPred
pred_words before (Branch at (Then (Leaf text i) rest)) (word, words) =
    elim (is_name text) as (λ k. let r : Read (List PredText) = elim k [
      | true ↦ declaration_of before text i rest >>= λ pred. fine (pred ∷ [])
      | false ↦ wrong Shape at >> fine []
    ] in All IsWordedPred r.value) [
      | true ↦ All-cons IsWordedPred (declaration_of before text i rest).value [] word
          (All-nil IsWordedPred)
      | false ↦ All-nil IsWordedPred
    ]

preds_words : (before : List PredText) (trees : Trees) → All IsWordedPred before → AreOfWords trees
    → All IsWordedPred (preds_of before trees).value
preds_words before End named words = named
preds_words before (Then tree rest) named (word, words) =
    preds_words (before ++ (pred_of before tree).value) rest
    (All-append IsWordedPred before (pred_of before tree).value named (pred_words before tree word)) words

-- actions
abbrev IsWordedAction : ActionText → Type 0
IsWordedAction action = IsWorded action.name

abbrev action_names : List ActionText → List (List ℕ)
action_names actions = map (λ (action : ActionText). action.name.text) actions

record IsNew (before : List ActionText) (action : ActionText) : Type 0 where
  word : IsWorded action.name
  unused : is_defined action.name.text before ≡ false

action_words : (before : List ActionText) (at : ℕ) (trees : Trees) → AreOfWords trees
    → Holds (IsNew before) (action_of before at trees)
action_words before at End words none = cc
action_words before at (Then (Branch i trees) rest) words none = cc
action_words before at (Then (Leaf text i) rest) (word, words) none =
    let defined : (defined_of before text i).faults ≡ [] =
    none_before (defined_of before text i).faults _ none in
    let duplicate : (wrong_if (is_defined text before) Duplicate i).faults ≡ [] =
    none_before (wrong_if (is_defined text before) Duplicate i).faults _
    (none_behind (wrong_if (not (is_name text)) Shape i).faults _ defined) in
    record { word = word; unused = not_faulty (is_defined text before) (record { kind = Duplicate; at = i }) duplicate }

any_swapped : (text : List ℕ) (actions : List ActionText) → list_any (bytes_eq text) (action_names actions) ≡ is_defined text actions
any_swapped text [] = refl
any_swapped text (action ∷ actions) = λ j. nat_list_eq_equiv.symm text action.name.text j || any_swapped text actions j

names_push : (actions : List ActionText) (action : ActionText)
    → action_names (actions ++ action ∷ []) ≡ action_names actions ++ action.name.text ∷ []
names_push [] action = refl
names_push (first ∷ actions) action = ap (λ names. first.name.text ∷ names) (names_push actions action)

-- sections
record IsNamed (sections : Sections) : Type 0 where
  types : All IsTypedByWords (unwrap_or sections.types [])
  constants : All IsTypedByWords (unwrap_or sections.constants [])
  preds : All IsWordedPred (unwrap_or sections.preds [])
  actions : All IsWordedAction sections.actions
  distinct : IsDistinct bytes_eq (action_names sections.actions)

with_action : (so_far : Sections) (action : ActionText) → IsNamed so_far → IsNew so_far.actions action
    → IsNamed (record so_far { actions = so_far.actions ++ action ∷ [] })
with_action so_far action named new = record {
  types = named.types;
  constants = named.constants;
  preds = named.preds;
  actions = All-push IsWordedAction so_far.actions action named.actions new.word;
  distinct = subst (IsDistinct bytes_eq) (sym (names_push so_far.actions action))
      (IsDistinct-push nat_list_eq_equiv (action_names so_far.actions) action.name.text named.distinct
      (any_swapped action.name.text so_far.actions ∙ new.unused));
}

headed_section_words : (so_far : Sections) (at : ℕ) (head : List ℕ) (i : ℕ) (rest : Trees) → IsNamed so_far → AreOfWords rest
    → Holds IsNamed (headed_section_of so_far at head i rest)
headed_section_words so_far at head i rest named words =
    elim (section_head_of head) as (λ k. let r : Read Sections = elim k [
      | section_heads.Requirements ↦ wrong_if so_far.requirements Duplicate at
          >> (flags_of rest >> fine (record so_far { requirements = true }))
      | section_heads.Types ↦ wrong_if (is_some so_far.types) Duplicate at
          >> (typed_of roles.Names [] [] rest >>= λ types. fine (record so_far { types = Some types }))
      | section_heads.Constants ↦ wrong_if (is_some so_far.constants) Duplicate at
          >> (typed_of roles.Names [] [] rest >>= λ constants. fine (record so_far { constants = Some constants }))
      | section_heads.Predicates ↦ wrong_if (is_some so_far.preds) Duplicate at
          >> (preds_of [] rest >>= λ preds. fine (record so_far { preds = Some preds }))
      | section_heads.Action ↦
          action_of so_far.actions at rest >>= λ action. fine (record so_far { actions = so_far.actions ++ action ∷ [] })
      | section_heads.Unsupported ↦ wrong (Unsupported head) i >> fine so_far
      | section_heads.Other ↦ wrong Shape at >> fine so_far
    ] in Holds IsNamed r) [
      | section_heads.Requirements ↦ λ none. record {
        types = named.types;
        constants = named.constants;
        preds = named.preds;
        actions = named.actions;
        distinct = named.distinct;
      }
      | section_heads.Types ↦ λ none. record {
        types = list_words roles.Names rest words;
        constants = named.constants;
        preds = named.preds;
        actions = named.actions;
        distinct = named.distinct;
      }
      | section_heads.Constants ↦ λ none. record {
        types = named.types;
        constants = list_words roles.Names rest words;
        preds = named.preds;
        actions = named.actions;
        distinct = named.distinct;
      }
      | section_heads.Predicates ↦ λ none. record {
        types = named.types;
        constants = named.constants;
        preds = preds_words [] rest (All-nil IsWordedPred) words;
        actions = named.actions;
        distinct = named.distinct;
      }
      | section_heads.Action ↦ λ none. with_action so_far (action_of so_far.actions at rest).value named
          (action_words so_far.actions at rest words (none_before (action_of so_far.actions at rest).faults [] none))
      | section_heads.Unsupported ↦ λ none. named
      | section_heads.Other ↦ λ none. named
    ]

section_words : (so_far : Sections) (tree : Tree) → IsNamed so_far → IsOfWords tree → Holds IsNamed (section_of so_far tree)
section_words so_far (Leaf text at) named words none = named
section_words so_far (Branch at End) named words none = named
section_words so_far (Branch at (Then (Branch i trees) rest)) named words none = named
section_words so_far (Branch at (Then (Leaf head i) rest)) named (word, words) none =
    headed_section_words so_far at head i rest named words none

sections_words : (so_far : Sections) (trees : Trees) → IsNamed so_far → AreOfWords trees → Holds IsNamed (sections_of so_far trees)
sections_words so_far End named words none = named
sections_words so_far (Then tree rest) named (word, words) none =
    let new : Sections = (section_of so_far tree).value in
    sections_words new rest
    (section_words so_far tree named word (none_before (section_of so_far tree).faults (sections_of new rest).faults none)) words
    (none_behind (section_of so_far tree).faults (sections_of new rest).faults none)

-- what stands behind the title
pub outline_words : (trees : Trees) → AreOfWords trees → AreOfWords (outline_of trees).value.rest
outline_words End words = tt
outline_words (Then (Leaf text at) rest) words = tt
outline_words (Then (Branch at End) End) words = tt
outline_words (Then (Branch at (Then (Branch i trees) rest)) End) words = tt
outline_words (Then (Branch at (Then (Leaf word i) End)) End) words = tt
outline_words (Then (Branch at (Then (Leaf word i) (Then title rest))) End) ((word', (title', words)), none) = words
outline_words (Then (Branch at trees) (Then tree rest)) words = tt

none_named : IsNamed no_sections
unfolding IsDistinct
none_named = record {
  types = All-nil IsTypedByWords;
  constants = All-nil IsTypedByWords;
  preds = All-nil IsWordedPred;
  actions = All-nil IsWordedAction;
  distinct = tt;
}

domain_words : (trees : Trees) → AreOfWords trees → Holds IsNamedDomain (domain_of trees)
domain_words trees words none =
    let outline = outline_of trees in
    let title = title_of (codes "domain") outline.value.title in
    let sections = sections_of no_sections outline.value.rest in
    let all : outline.faults ++ (title.faults ++ (sections.faults ++ [])) ≡ [] = none_before _ [] none in
    let behind : sections.faults ≡ [] =
    none_before sections.faults [] (none_behind title.faults _ (none_behind outline.faults _ all)) in
    let named = sections_words no_sections outline.value.rest none_named (outline_words trees words) behind in record {
      types = named.types;
      constants = named.constants;
      preds = named.preds;
      actions = named.actions;
      distinct = named.distinct;
    }

pub domain_named : (trees : Trees) (domain : Domain) → AreOfWords trees → domain_of trees ≡ fine domain → IsNamedDomain domain
domain_named trees domain words e =
    subst (λ (r : Read Domain). IsNamedDomain r.value) e (domain_words trees words (ap (λ (r : Read Domain). r.faults) e))
