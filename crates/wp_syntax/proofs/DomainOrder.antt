-- The faults of typed lists, predicates, actions and sections stand in order.
use Rattle.std.proofs.Common.{ℕ, suc, ◌+◌, ◌*◌, ◌≤◌, ◌<◌, Bool, true, false, Some, List, [], ◌∷◌, ◌++◌, arith, not, length}
use Rattle.std.specs.Prelude.{codes, is_some, nat_le, ◌||◌}
use Rattle.std.specs.Str.{bytes_eq}
use Rattle.wp_lex.specs.Trees.{Tree, Trees, Leaf, Branch, End, Then}
use Rattle.wp_lex.specs.Rising.{TreeRises, Rises}
use Rattle.wp_syntax.specs.declared.error.ReadKind.TheVariants.{Shape, Unsupported, Reserved, Duplicate, TooMany}
use Rattle.wp_syntax.specs.declared.records.Name.{Name}
use Rattle.wp_syntax.specs.declared.records.Typed.{Typed}
use Rattle.wp_syntax.specs.declared.records.PredText.{PredText}
use Rattle.wp_syntax.specs.declared.records.ActionText.{ActionText}
use Rattle.wp_syntax.specs.declared.typing.Role.{Role}
use Rattle.wp_syntax.specs.declared.typing.Role.TheVariants as roles
use Rattle.wp_syntax.specs.declared.action.Parts.{Parts}
use Rattle.wp_syntax.specs.declared.domain.Sections.{Sections}
use Rattle.wp_syntax.specs.declared.word.PartHead.TheVariants as part_heads
use Rattle.wp_syntax.specs.declared.word.SectionHead.TheVariants as section_heads
use Rattle.wp_syntax.specs.Word.{is_dash, is_keyword, is_name, is_reserved, is_variable}
use Rattle.wp_syntax.specs.Heads.{part_head_of, section_head_of}
use Rattle.wp_syntax.specs.Reading.{Wrong, Read, fine, wrong, wrong_if, ◌>>=◌, ◌>>◌}
use Rattle.wp_syntax.specs.Grammar.{name_at, place_of, cond_of}
use Rattle.wp_syntax.specs.Effects.{effect_of}
use Rattle.wp_syntax.specs.Typing.{is_empty, with_kinds, is_typed, is_named, limit_of, word_of, kind_of, kinds_of, either_of, typed_of, grouped_of}
use Rattle.wp_syntax.specs.Predicates.{is_declared, declared_of, declaration_of, pred_of, preds_of}
use Rattle.wp_syntax.specs.Actions.{no_parts, part_of, bare_part_of, valued_of, parts_of, is_defined, defined_of, action_of}
use Rattle.wp_syntax.specs.Outline.{end_of, name_of, only_name_of, title_of, flag_of, flags_of}
use Rattle.wp_syntax.specs.Domains.{no_sections, headed_section_of, section_of, sections_of, domain_of}
use Rattle.wp_syntax.specs.Named.{most_declared, most_params}
use Rattle.wp_syntax.specs.Walk.{Ordered}
use Rattle.wp_syntax.proofs.Order.{lower, both, higher, ended, perhaps, rises_le, each_walks}
use Rattle.wp_syntax.proofs.CondOrder.{cond_walks, effect_walks}

word_walks : (role : Role) (done : List Typed) (group : List Name) (text : List ℕ) (at low high : ℕ) → low ≤ at → at < high
    → Ordered (5 * low) (word_of role done group text at).faults (5 * high)
word_walks roles.Names done group text at low high l h =
    perhaps (not (is_name text)) Shape at (5 * low) (5 * high) (omega arith) (omega arith)
word_walks roles.Predicate done group text at low high l h =
    both (5 * low) (5 * at) (5 * high) (wrong_if (not (is_variable text)) Shape at).faults (limit_of done group at).faults
    (perhaps (not (is_variable text)) Shape at (5 * low) (5 * at) (omega arith) (omega arith))
    (perhaps (nat_le most_params (length done + length group)) (TooMany most_params) at (5 * at) (5 * high) (omega arith) (omega arith))
word_walks roles.Action done group text at low high l h =
    both (5 * low) (5 * at) (5 * high) (wrong_if (not (is_variable text)) Shape at).faults
    ((wrong_if (is_typed text done || is_named text group) Duplicate at).faults ++ (limit_of done group at).faults)
    (perhaps (not (is_variable text)) Shape at (5 * low) (5 * at) (omega arith) (omega arith))
    (both (5 * at) (5 * at + 3) (5 * high) (wrong_if (is_typed text done || is_named text group) Duplicate at).faults
    (limit_of done group at).faults
    (perhaps (is_typed text done || is_named text group) Duplicate at (5 * at) (5 * at + 3) (omega arith) (omega arith))
    (perhaps (nat_le most_params (length done + length group)) (TooMany most_params) at (5 * at + 3) (5 * high) (omega arith) (omega arith)))

kind_walks : (tree : Tree) (low high : ℕ) → TreeRises tree low high → Ordered (5 * low) (kind_of tree).faults (5 * high)
kind_walks (Leaf text at) low high (l, h) =
    ended (5 * low) (5 * high) (wrong_if (not (is_name text)) Shape at).faults
    (perhaps (not (is_name text)) Shape at (5 * low) (5 * high) (omega arith) (omega arith))
kind_walks (Branch at trees) low high (l, r) =
    let inside : suc at ≤ high = rises_le trees (suc at) high r in (omega arith, omega arith)

either_walks : (at : ℕ) (trees : Trees) (low high : ℕ) → at < low → Rises trees low high
    → Ordered (5 * at) (either_of at trees).faults (5 * high)
either_walks at End low high a r = (omega arith, omega arith)
either_walks at (Then (Branch i trees) rest) low high a r =
    let below : low ≤ high = rises_le (Then (Branch i trees) rest) low high r in (omega arith, omega arith)
either_walks at (Then (Leaf word i) End) low high a (middle, (l, h), r) = (omega arith, omega arith)
either_walks at (Then (Leaf word i) (Then kind kinds)) low high a (middle, (l, h), r) =
    both (5 * at) (5 * middle) (5 * high) (wrong_if (not (bytes_eq word (codes "either"))) Shape at).faults
    (kinds_of (Then kind kinds)).faults
    (perhaps (not (bytes_eq word (codes "either"))) Shape at (5 * at) (5 * middle) (omega arith) (omega arith))
    (each_walks kind_of kind_walks (Then kind kinds) middle high r)

mutual
  pub typed_walks : (role : Role) (done : List Typed) (group : List Name) (trees : Trees) (low high : ℕ) → Rises trees low high
      → Ordered (5 * low) (typed_of role done group trees).faults (5 * high)
  typed_walks role done group End low high r = omega arith
  typed_walks role done group (Then (Branch at trees) rest) low high (middle, (l, inside), r) =
      let within : suc at ≤ middle = rises_le trees (suc at) middle inside in (
        omega arith,
        lower (5 * at + 0) (5 * middle) (5 * high) (typed_of role done group rest).faults (omega arith)
            (typed_walks role done group rest middle high r),
      )
  typed_walks role done group (Then (Leaf text at) rest) low high (middle, (l, h), r) =
      let dash : Ordered (5 * low) ((wrong_if (is_empty group) Shape at).faults
      ++ (grouped_of role done group at rest).faults) (5 * high) =
      both (5 * low) (5 * at) (5 * high) (wrong_if (is_empty group) Shape at).faults
      (grouped_of role done group at rest).faults
      (perhaps (is_empty group) Shape at (5 * low) (5 * at) (omega arith) (omega arith))
      (grouped_walks role done group at rest middle high h r) in
      let more : List Name = group ++ name_at text at ∷ [] in
      let word : Ordered (5 * low) ((word_of role done group text at).faults
      ++ (typed_of role done more rest).faults) (5 * high) =
      both (5 * low) (5 * middle) (5 * high) (word_of role done group text at).faults (typed_of role done more rest).faults
      (word_walks role done group text at low middle l h) (typed_walks role done more rest middle high r) in
      elim (is_dash text) as (λ k. let r : Read (List Typed) = elim k [
        | true ↦ wrong_if (is_empty group) Shape at >> grouped_of role done group at rest
        | false ↦ word_of role done group text at >> typed_of role done (group ++ name_at text at ∷ []) rest
      ] in Ordered (5 * low) r.faults (5 * high)) [ true ↦ dash | false ↦ word ]

  grouped_walks : (role : Role) (done : List Typed) (group : List Name) (dash : ℕ) (trees : Trees) (low high : ℕ) → dash < low
      → Rises trees low high → Ordered (5 * dash) (grouped_of role done group dash trees).faults (5 * high)
  grouped_walks role done group dash End low high a r = (omega arith, omega arith)
  grouped_walks role done group dash (Then (Leaf text at) rest) low high a (middle, (l, h), r) =
      let next : List Typed = done ++ with_kinds (name_at text at ∷ []) group in
      both (5 * dash) (5 * middle) (5 * high) (wrong_if (not (is_name text)) Shape dash).faults (typed_of role next [] rest).faults
      (perhaps (not (is_name text)) Shape dash (5 * dash) (5 * middle) (omega arith) (omega arith))
      (typed_walks role next [] rest middle high r)
  grouped_walks role done group dash (Then (Branch at trees) rest) low high a (middle, (l, inside), r) =
      let next : List Typed = done ++ with_kinds (either_of at trees).value group in
      both (5 * dash) (5 * middle) (5 * high) (either_of at trees).faults (typed_of role next [] rest).faults
      (lower (5 * dash) (5 * at) (5 * middle) (either_of at trees).faults (omega arith)
      (either_walks at trees (suc at) middle (omega arith) inside))
      (typed_walks role next [] rest middle high r)

declared_walks : (before : List PredText) (text : List ℕ) (at low high : ℕ) → low ≤ at → at < high
    → Ordered (5 * low) (declared_of before text at).faults (5 * high)
declared_walks before text at low high l h =
    both (5 * low) (5 * at + 2) (5 * high) (wrong_if (is_reserved text) Reserved at).faults
    ((wrong_if (is_declared text before) Duplicate at).faults
    ++ (wrong_if (nat_le most_declared (length before)) (TooMany most_declared) at).faults)
    (perhaps (is_reserved text) Reserved at (5 * low) (5 * at + 2) (omega arith) (omega arith))
    (both (5 * at + 2) (5 * at + 3) (5 * high) (wrong_if (is_declared text before) Duplicate at).faults
    (wrong_if (nat_le most_declared (length before)) (TooMany most_declared) at).faults
    (perhaps (is_declared text before) Duplicate at (5 * at + 2) (5 * at + 3) (omega arith) (omega arith))
    (perhaps (nat_le most_declared (length before)) (TooMany most_declared) at (5 * at + 3) (5 * high) (omega arith) (omega arith)))

pred_walks : (before : List PredText) (tree : Tree) (low high : ℕ) → TreeRises tree low high
    → Ordered (5 * low) (pred_of before tree).faults (5 * high)
pred_walks before (Leaf text at) low high (l, h) = (omega arith, omega arith)
pred_walks before (Branch at End) low high (l, r) = (omega arith, omega arith)
pred_walks before (Branch at (Then (Branch i trees) rest)) low high (l, r) =
    let inside : suc at ≤ high = rises_le (Then (Branch i trees) rest) (suc at) high r in (omega arith, omega arith)
pred_walks before (Branch at (Then (Leaf text i) rest)) low high (l, (middle, (m, h), r)) =
    let below : middle ≤ high = rises_le rest middle high r in
    let declaration : Ordered (5 * low) (declaration_of before text i rest).faults (5 * high) =
    both (5 * low) (5 * middle) (5 * high) (declared_of before text i).faults
    ((typed_of roles.Predicate [] [] rest).faults ++ [])
    (declared_walks before text i low middle (omega arith) h)
    (ended (5 * middle) (5 * high) (typed_of roles.Predicate [] [] rest).faults
    (typed_walks roles.Predicate [] [] rest middle high r)) in
    elim (is_name text) as (λ k. let r : Read (List PredText) = elim k [
      | true ↦ declaration_of before text i rest >>= λ pred. fine (pred ∷ [])
      | false ↦ wrong Shape at >> fine []
    ] in Ordered (5 * low) r.faults (5 * high)) [
      | true ↦ ended (5 * low) (5 * high) (declaration_of before text i rest).faults declaration
      | false ↦ (omega arith, omega arith)
    ]

preds_walk : (before : List PredText) (trees : Trees) (low high : ℕ) → Rises trees low high
    → Ordered (5 * low) (preds_of before trees).faults (5 * high)
preds_walk before End low high r = omega arith
preds_walk before (Then tree rest) low high (middle, t, r) =
    let more : List PredText = before ++ (pred_of before tree).value in
    both (5 * low) (5 * middle) (5 * high) (pred_of before tree).faults (preds_of more rest).faults
    (pred_walks before tree low middle t) (preds_walk more rest middle high r)

bare_part_walks : (word : List ℕ) (at low high : ℕ) → low ≤ at → at < high
    → Ordered (5 * low) (bare_part_of word at).faults (5 * high)
bare_part_walks word at low high l h =
    elim (part_head_of word) as (λ k. let r : Read (Unit {0}) = elim k [
      | part_heads.Vars ↦ wrong (Unsupported word) at
      | _ ↦ wrong Shape at
    ] in Ordered (5 * low) r.faults (5 * high)) [
      | part_heads.Vars ↦ (omega arith, omega arith)
      | _ ↦ (omega arith, omega arith)
    ]

-- a section or part that may come once, and what is read of it
pub once_walks : {A : Type 0} (there : Bool) (read : Read A) (at low high : ℕ) → at < low → low ≤ high
    → Ordered (5 * low) read.faults (5 * high)
    → Ordered (5 * at) ((wrong_if there Duplicate at).faults ++ (read.faults ++ [])) (5 * high)
once_walks {A} there read at low high a b o =
    both (5 * at) (5 * low) (5 * high) (wrong_if there Duplicate at).faults (read.faults ++ [])
    (perhaps there Duplicate at (5 * at) (5 * low) (omega arith) (omega arith)) (ended (5 * low) (5 * high) read.faults o)

part_walks : (so_far : Parts) (word : List ℕ) (at i : ℕ) (trees : Trees) (low high : ℕ) → at < low → low ≤ i
    → Rises trees (suc i) high → Ordered (5 * at) (part_of so_far word at i trees).faults (5 * high)
part_walks so_far word at i trees low high a l r =
    let below : suc i ≤ high = rises_le trees (suc i) high r in
    let within : low ≤ high = omega arith in
    elim (part_head_of word) as (λ k. let r : Read Parts = elim k [
      | part_heads.Parameters ↦ wrong_if (is_some so_far.params) Duplicate at
          >> (typed_of roles.Action [] [] trees >>= λ params. fine (record so_far { params = Some params }))
      | part_heads.Precondition ↦ wrong_if (is_some so_far.pre) Duplicate at
          >> (cond_of (Branch i trees) >>= λ conds. fine (record so_far { pre = Some conds }))
      | part_heads.Effect ↦ wrong_if (is_some so_far.effects) Duplicate at
          >> (effect_of (Branch i trees) >>= λ effects. fine (record so_far { effects = Some effects }))
      | part_heads.Vars ↦ wrong (Unsupported word) at >> fine so_far
      | part_heads.Other ↦ wrong Shape at >> fine so_far
    ] in Ordered (5 * at) r.faults (5 * high)) [
      | part_heads.Parameters ↦ once_walks (is_some so_far.params) (typed_of roles.Action [] [] trees) at (suc i) high
          (omega arith) below (typed_walks roles.Action [] [] trees (suc i) high r)
      | part_heads.Precondition ↦ once_walks (is_some so_far.pre) (cond_of (Branch i trees)) at low high a within
          (cond_walks (Branch i trees) low high (l, r))
      | part_heads.Effect ↦ once_walks (is_some so_far.effects) (effect_of (Branch i trees)) at low high a within
          (effect_walks (Branch i trees) low high (l, r))
      | part_heads.Vars ↦ (omega arith, omega arith)
      | part_heads.Other ↦ (omega arith, omega arith)
    ]

parts_walk : (so_far : Parts) (trees : Trees) (low high : ℕ) → Rises trees low high
    → Ordered (5 * low) (parts_of so_far trees).faults (5 * high)
parts_walk so_far End low high r = omega arith
parts_walk so_far (Then (Branch at trees) rest) low high (middle, (l, inside), r) =
    let within : suc at ≤ middle = rises_le trees (suc at) middle inside in
    let below : middle ≤ high = rises_le rest middle high r in (omega arith, omega arith)
parts_walk so_far (Then (Leaf word at) End) low high (middle, (l, h), r) =
    ended (5 * low) (5 * high) (bare_part_of word at).faults (bare_part_walks word at low high l (omega arith))
parts_walk so_far (Then (Leaf word at) (Then (Leaf text i) rest)) low high (middle, (l, h), (back, (m, k), r)) =
    let new : Parts = (valued_of so_far word at (Leaf text i)).value in
    both (5 * low) (5 * middle) (5 * high) ((bare_part_of word at).faults ++ []) (parts_of new rest).faults
    (ended (5 * low) (5 * middle) (bare_part_of word at).faults (bare_part_walks word at low middle l h))
    (lower (5 * middle) (5 * back) (5 * high) (parts_of new rest).faults (omega arith) (parts_walk new rest back high r))
parts_walk so_far (Then (Leaf word at) (Then (Branch i trees) rest)) low high (middle, (l, h), (back, (m, inside), r)) =
    let new : Parts = (part_of so_far word at i trees).value in
    both (5 * low) (5 * back) (5 * high) (part_of so_far word at i trees).faults (parts_of new rest).faults
    (lower (5 * low) (5 * at) (5 * back) (part_of so_far word at i trees).faults (omega arith)
    (part_walks so_far word at i trees middle back h m inside))
    (parts_walk new rest back high r)

defined_walks : (before : List ActionText) (text : List ℕ) (at low high : ℕ) → low ≤ at → at < high
    → Ordered (5 * low) (defined_of before text at).faults (5 * high)
defined_walks before text at low high l h =
    both (5 * low) (5 * at) (5 * high) (wrong_if (not (is_name text)) Shape at).faults
    ((wrong_if (is_defined text before) Duplicate at).faults
    ++ (wrong_if (nat_le most_declared (length before)) (TooMany most_declared) at).faults)
    (perhaps (not (is_name text)) Shape at (5 * low) (5 * at) (omega arith) (omega arith))
    (both (5 * at) (5 * at + 3) (5 * high) (wrong_if (is_defined text before) Duplicate at).faults
    (wrong_if (nat_le most_declared (length before)) (TooMany most_declared) at).faults
    (perhaps (is_defined text before) Duplicate at (5 * at) (5 * at + 3) (omega arith) (omega arith))
    (perhaps (nat_le most_declared (length before)) (TooMany most_declared) at (5 * at + 3) (5 * high) (omega arith) (omega arith)))

action_walks : (before : List ActionText) (at : ℕ) (trees : Trees) (low high : ℕ) → at < low → Rises trees low high
    → Ordered (5 * at) (action_of before at trees).faults (5 * high)
action_walks before at End low high a r = (omega arith, omega arith)
action_walks before at (Then (Branch i trees) rest) low high a (middle, (l, inside), r) =
    let within : suc i ≤ middle = rises_le trees (suc i) middle inside in
    let below : middle ≤ high = rises_le rest middle high r in (omega arith, omega arith)
action_walks before at (Then (Leaf text i) rest) low high a (middle, (l, h), r) =
    both (5 * at) (5 * middle) (5 * high) (defined_of before text i).faults ((parts_of no_parts rest).faults ++ [])
    (defined_walks before text i at middle (omega arith) h)
    (ended (5 * middle) (5 * high) (parts_of no_parts rest).faults (parts_walk no_parts rest middle high r))

place_within : (tree : Tree) (low high : ℕ) → TreeRises tree low high → (low ≤ place_of tree) × (place_of tree < high)
place_within (Leaf text at) low high r = r
place_within (Branch at trees) low high (l, r) = let inside : suc at ≤ high = rises_le trees (suc at) high r in (l, omega arith)

pub end_walks : (trees : Trees) (low high : ℕ) → Rises trees low high → Ordered (5 * low) (end_of trees).faults (5 * high)
end_walks End low high r = omega arith
end_walks (Then tree rest) low high (middle, t, r) =
    let place : (low ≤ place_of tree) × (place_of tree < middle) = place_within tree low middle t in
    let below : middle ≤ high = rises_le rest middle high r in (omega arith, omega arith)

name_walks : (tree : Tree) (low high : ℕ) → TreeRises tree low high → Ordered (5 * low) (name_of tree).faults (5 * high)
name_walks (Leaf text at) low high (l, h) =
    ended (5 * low) (5 * high) (wrong_if (not (is_name text)) Shape at).faults
    (perhaps (not (is_name text)) Shape at (5 * low) (5 * high) (omega arith) (omega arith))
name_walks (Branch at trees) low high (l, r) =
    let inside : suc at ≤ high = rises_le trees (suc at) high r in (omega arith, omega arith)

-- a name and nothing else, where something stands
pub some_name_walks : (at : ℕ) (tree : Tree) (rest : Trees) (low middle high : ℕ) → TreeRises tree low middle
    → Rises rest middle high → Ordered (5 * low) (only_name_of at (Then tree rest)).faults (5 * high)
some_name_walks at tree rest low middle high t r =
    both (5 * low) (5 * middle) (5 * high) (name_of tree).faults ((end_of rest).faults ++ []) (name_walks tree low middle t)
    (ended (5 * middle) (5 * high) (end_of rest).faults (end_walks rest middle high r))

only_name_walks : (at : ℕ) (trees : Trees) (low high : ℕ) → at < low → Rises trees low high
    → Ordered (5 * at) (only_name_of at trees).faults (5 * high)
only_name_walks at End low high a r = (omega arith, omega arith)
only_name_walks at (Then tree rest) low high a (middle, t, r) =
    lower (5 * at) (5 * low) (5 * high) (only_name_of at (Then tree rest)).faults (omega arith)
    (some_name_walks at tree rest low middle high t r)

pub title_walks : (word : List ℕ) (tree : Tree) (low high : ℕ) → TreeRises tree low high
    → Ordered (5 * low) (title_of word tree).faults (5 * high)
title_walks word (Leaf text at) low high (l, h) = (omega arith, omega arith)
title_walks word (Branch at End) low high (l, r) = (omega arith, omega arith)
title_walks word (Branch at (Then (Branch i trees) rest)) low high (l, r) =
    let inside : suc at ≤ high = rises_le (Then (Branch i trees) rest) (suc at) high r in (omega arith, omega arith)
title_walks word (Branch at (Then (Leaf head i) rest)) low high (l, (middle, (m, h), r)) =
    both (5 * low) (5 * at) (5 * high) (wrong_if (not (bytes_eq head word)) Shape at).faults (only_name_of at rest).faults
    (perhaps (not (bytes_eq head word)) Shape at (5 * low) (5 * at) (omega arith) (omega arith))
    (only_name_walks at rest middle high (omega arith) r)

flag_walks : (tree : Tree) (low high : ℕ) → TreeRises tree low high → Ordered (5 * low) (flag_of tree).faults (5 * high)
flag_walks (Leaf text at) low high (l, h) =
    perhaps (not (is_keyword text)) Shape at (5 * low) (5 * high) (omega arith) (omega arith)
flag_walks (Branch at trees) low high (l, r) =
    let inside : suc at ≤ high = rises_le trees (suc at) high r in (omega arith, omega arith)

pub flags_walk : (trees : Trees) (low high : ℕ) → Rises trees low high → Ordered (5 * low) (flags_of trees).faults (5 * high)
flags_walk End low high r = omega arith
flags_walk (Then tree rest) low high (middle, t, r) =
    both (5 * low) (5 * middle) (5 * high) (flag_of tree).faults (flags_of rest).faults (flag_walks tree low middle t)
    (flags_walk rest middle high r)

headed_section_walks : (so_far : Sections) (at : ℕ) (head : List ℕ) (i : ℕ) (rest : Trees) (low high : ℕ) → at < i → i < low
    → Rises rest low high → Ordered (5 * at) (headed_section_of so_far at head i rest).faults (5 * high)
headed_section_walks so_far at head i rest low high a b r =
    let below : low ≤ high = rises_le rest low high r in
    let within : at < low = omega arith in
    elim (section_head_of head) as (λ k. let r : Read Sections = elim k [
      | section_heads.Requirements ↦ wrong_if so_far.requirements Duplicate at
          >> (flags_of rest >> fine (record so_far { requirements = true }))
      | section_heads.Types ↦ wrong_if (is_some so_far.types) Duplicate at
          >> (typed_of roles.Names [] [] rest >>= λ types. fine (record so_far { types = Some types }))
      | section_heads.Constants ↦ wrong_if (is_some so_far.constants) Duplicate at
          >> (typed_of roles.Names [] [] rest >>= λ constants. fine (record so_far { constants = Some constants }))
      | section_heads.Predicates ↦ wrong_if (is_some so_far.preds) Duplicate at
          >> (preds_of [] rest >>= λ preds. fine (record so_far { preds = Some preds }))
      | section_heads.Action ↦
          action_of so_far.actions at rest >>= λ action. fine (record so_far { actions = so_far.actions ++ action ∷ [] })
      | section_heads.Unsupported ↦ wrong (Unsupported head) i >> fine so_far
      | section_heads.Other ↦ wrong Shape at >> fine so_far
    ] in Ordered (5 * at) r.faults (5 * high)) [
      | section_heads.Requirements ↦ once_walks so_far.requirements (flags_of rest) at low high within below
          (flags_walk rest low high r)
      | section_heads.Types ↦ once_walks (is_some so_far.types) (typed_of roles.Names [] [] rest) at low high within below
          (typed_walks roles.Names [] [] rest low high r)
      | section_heads.Constants ↦ once_walks (is_some so_far.constants) (typed_of roles.Names [] [] rest) at low high within below
          (typed_walks roles.Names [] [] rest low high r)
      | section_heads.Predicates ↦ once_walks (is_some so_far.preds) (preds_of [] rest) at low high within below
          (preds_walk [] rest low high r)
      | section_heads.Action ↦ ended (5 * at) (5 * high) (action_of so_far.actions at rest).faults
          (action_walks so_far.actions at rest low high within r)
      | section_heads.Unsupported ↦ (omega arith, omega arith)
      | section_heads.Other ↦ (omega arith, omega arith)
    ]

section_walks : (so_far : Sections) (tree : Tree) (low high : ℕ) → TreeRises tree low high
    → Ordered (5 * low) (section_of so_far tree).faults (5 * high)
section_walks so_far (Leaf text at) low high (l, h) = (omega arith, omega arith)
section_walks so_far (Branch at End) low high (l, r) = (omega arith, omega arith)
section_walks so_far (Branch at (Then (Branch i trees) rest)) low high (l, r) =
    let inside : suc at ≤ high = rises_le (Then (Branch i trees) rest) (suc at) high r in (omega arith, omega arith)
section_walks so_far (Branch at (Then (Leaf head i) rest)) low high (l, (middle, (m, h), r)) =
    lower (5 * low) (5 * at) (5 * high) (headed_section_of so_far at head i rest).faults (omega arith)
    (headed_section_walks so_far at head i rest middle high m h r)

sections_walk : (so_far : Sections) (trees : Trees) (low high : ℕ) → Rises trees low high
    → Ordered (5 * low) (sections_of so_far trees).faults (5 * high)
sections_walk so_far End low high r = omega arith
sections_walk so_far (Then tree rest) low high (middle, t, r) =
    let new : Sections = (section_of so_far tree).value in
    both (5 * low) (5 * middle) (5 * high) (section_of so_far tree).faults (sections_of new rest).faults
    (section_walks so_far tree low middle t) (sections_walk new rest middle high r)

inside_walks : (at : ℕ) (trees : Trees) (high : ℕ) → Rises trees (suc at) high
    → Ordered 0 (domain_of (Then (Branch at trees) End)).faults (5 * high)
inside_walks at End high r = (omega arith, (omega arith, omega arith))
inside_walks at (Then (Branch i trees) rest) high r =
    let inside : suc at ≤ high = rises_le (Then (Branch i trees) rest) (suc at) high r in
    (omega arith, (omega arith, omega arith))
inside_walks at (Then (Leaf word i) End) high r =
    let inside : suc at ≤ high = rises_le (Then (Leaf word i) End) (suc at) high r in
    (omega arith, (omega arith, omega arith))
inside_walks at (Then (Leaf word i) (Then title rest)) high (middle, (l, h), (back, t, r)) =
    let named : List Wrong = (title_of (codes "domain") title).faults in
    let listed : List Wrong = (sections_of no_sections rest).faults in
    ended 0 (5 * high) ((wrong_if (not (bytes_eq word (codes "define"))) Shape at).faults ++ [] ++ (named ++ (listed ++ [])))
    (both 0 (5 * middle) (5 * high) ((wrong_if (not (bytes_eq word (codes "define"))) Shape at).faults ++ []) (named ++ (listed ++ []))
    (ended 0 (5 * middle) (wrong_if (not (bytes_eq word (codes "define"))) Shape at).faults
    (perhaps (not (bytes_eq word (codes "define"))) Shape at 0 (5 * middle) (omega arith) (omega arith)))
    (both (5 * middle) (5 * back) (5 * high) named (listed ++ []) (title_walks (codes "domain") title middle back t)
    (ended (5 * back) (5 * high) listed (sections_walk no_sections rest back high r))))

pub domain_walks : (trees : Trees) (high : ℕ) → Rises trees 0 high → Ordered 0 (domain_of trees).faults (5 * high)
domain_walks End high r = (omega arith, (omega arith, omega arith))
domain_walks (Then (Leaf text at) rest) high (middle, (l, h), r) =
    let below : middle ≤ high = rises_le rest middle high r in (omega arith, (omega arith, omega arith))
domain_walks (Then (Branch at trees) End) high (middle, (l, inside), r) =
    higher 0 (5 * middle) (5 * high) (domain_of (Then (Branch at trees) End)).faults (omega arith)
    (inside_walks at trees middle inside)
domain_walks (Then (Branch at trees) (Then tree rest)) high (middle, (l, inside), r) =
    let within : suc at ≤ middle = rises_le trees (suc at) middle inside in
    let below : middle ≤ high = rises_le (Then tree rest) middle high r in (omega arith, (omega arith, omega arith))
