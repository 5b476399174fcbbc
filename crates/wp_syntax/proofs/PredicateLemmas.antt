-- Predicates: they are read without a fault exactly where the grammar has them.
use Rattle.std.proofs.Common.{◌≡◌, ℕ, true, false, leb, List, [], ◌∷◌, ◌++◌, length, map, refl, sym, ap, subst, ◌∙◌, append_assoc}
use Rattle.std.specs.List.{list_any}
use Rattle.std.specs.Str.{bytes_eq}
use Rattle.std.proofs.lemmas.List.{length-map, map-append}
use Rattle.wp_lex.specs.Trees.{Tree, Trees, Leaf, Branch, End, Then}
use Rattle.wp_syntax.specs.declared.error.ReadKind.TheVariants.{Shape, Reserved, Duplicate, TooMany}
use Rattle.wp_syntax.specs.declared.records.Name.{Name}
use Rattle.wp_syntax.specs.declared.records.PredText.{PredText}
use Rattle.wp_syntax.specs.declared.typing.Role.TheVariants as roles
use Rattle.wp_syntax.specs.Word.{is_name, is_reserved}
use Rattle.wp_syntax.specs.Named.{most_declared}
use Rattle.wp_syntax.specs.Reading.{Read, fine, wrong, wrong_if, ◌>>=◌, ◌>>◌}
use Rattle.wp_syntax.specs.Typing.{typed_of}
use Rattle.wp_syntax.specs.Predicates.{is_declared, declared_of, declaration_of, pred_of, preds_of}
use Rattle.wp_syntax.specs.Phrases.{Each, AreDeclared}
use Rattle.wp_syntax.specs.Sentences.{IsDeclaration, ArePredicates}
use Rattle.wp_syntax.proofs.FaultLemmas.{append_none, none_before, none_behind, not_faulty}
use Rattle.wp_syntax.proofs.DeclaredLemmas.{has_swapped, none_declared, declared_push, declared_new, declared_within}
use Rattle.wp_syntax.proofs.TypedLemmas.{list_holds, list_reads}

-- ---- predicates
abbrev pred_names : List PredText → List (List ℕ)
pred_names preds = map (λ (pred : PredText). pred.name.text) preds

record Declares (before : List PredText) (tree : Tree) (preds : List PredText) : Type 0 where
  pred : PredText
  only : preds ≡ pred ∷ []
  is : IsDeclaration tree pred
  new : list_any (bytes_eq pred.name.text) (pred_names before) ≡ false
  within : leb most_declared (length (pred_names before)) ≡ false

declared_holds : (before : List PredText) (at : ℕ) (text : List ℕ) (i : ℕ) (rest : Trees) → is_name text ≡ true
    → (declaration_of before text i rest).faults ≡ []
    → Declares before (Branch at (Then (Leaf text i) rest)) ((declaration_of before text i rest).value ∷ [])
declared_holds before at text i rest named none =
    let reserved = wrong_if (is_reserved text) Reserved i in
    let again = wrong_if (is_declared text before) Duplicate i in
    let here = none_before (declared_of before text i).faults _ none in
    let params = typed_of roles.Predicate [] [] rest in
    let there = none_before params.faults [] (none_behind (declared_of before text i).faults _ none) in
    let behind = none_behind reserved.faults _ here in
    record {
      pred = (declaration_of before text i rest).value;
      only = refl;
      is = (
        named,
        not_faulty (is_reserved text) (record { kind = Reserved; at = i }) (none_before reserved.faults _ here),
        refl,
        list_holds roles.Predicate rest there,
      );
      new = has_swapped (λ (pred : PredText). pred.name) text before
          ∙ not_faulty (is_declared text before) (record { kind = Duplicate; at = i }) (none_before again.faults _ behind);
      within = ap (leb most_declared) (length-map before (λ (pred : PredText). pred.name.text))
          ∙ not_faulty (leb most_declared (length before)) (record { kind = TooMany most_declared; at = i }) (none_behind again.faults _ behind);
    }

pred_holds : (before : List PredText) (tree : Tree) → (pred_of before tree).faults ≡ [] → Declares before tree (pred_of before tree).value
pred_holds before (Leaf text at) none = cc
pred_holds before (Branch at End) none = cc
pred_holds before (Branch at (Then (Branch i trees) rest)) none = cc
pred_holds before (Branch at (Then (Leaf text i) rest)) none =
    elim (is_name text) as (λ k. is_name text ≡ k → let r : Read (List PredText) = elim k [
      | true ↦ declaration_of before text i rest >>= λ pred. fine (pred ∷ [])
      | false ↦ wrong Shape at >> fine []
    ] in r.faults ≡ [] → Declares before (Branch at (Then (Leaf text i) rest)) r.value) [
      | true ↦ λ e none. declared_holds before at text i rest e (none_before (declaration_of before text i rest).faults [] none)
      | false ↦ λ e none. cc
    ] refl none

record AllDeclare (before : List PredText) (trees : Trees) (preds : List PredText) : Type 0 where
  more : List PredText
  all : preds ≡ before ++ more
  each : Each IsDeclaration trees more
  declared : AreDeclared most_declared (pred_names (before ++ more))

names_push : (before : List PredText) (pred : PredText) → pred_names (before ++ pred ∷ []) ≡ pred_names before ++ pred.name.text ∷ []
names_push before pred = map-append (λ (pred : PredText). pred.name.text) before (pred ∷ [])

all_hold : (before : List PredText) (trees : Trees) → AreDeclared most_declared (pred_names before) → (preds_of before trees).faults ≡ []
    → AllDeclare before trees (preds_of before trees).value
all_hold before End are none = record {
  more = [];
  all = sym (append_none before);
  each = tt;
  declared = subst (λ (preds : List PredText). AreDeclared most_declared (pred_names preds)) (sym (append_none before)) are;
}
all_hold before (Then tree rest) are none =
    let it = pred_holds before tree (none_before (pred_of before tree).faults _ none) in
    let new = before ++ (pred_of before tree).value in
    let same : before ++ it.pred ∷ [] ≡ new = ap (λ (preds : List PredText). before ++ preds) (sym it.only) in
    let rest_of = all_hold new rest
    (subst (λ (preds : List PredText). AreDeclared most_declared (pred_names preds)) same
    (subst (AreDeclared most_declared) (sym (names_push before it.pred))
    (declared_push most_declared (pred_names before) it.pred.name.text are it.new it.within)))
    (none_behind (pred_of before tree).faults _ none) in
    let joined : new ++ rest_of.more ≡ before ++ it.pred ∷ rest_of.more =
    ap (λ (preds : List PredText). preds ++ rest_of.more) (sym same) ∙ append_assoc before (it.pred ∷ []) rest_of.more in
    record {
      more = it.pred ∷ rest_of.more;
      all = rest_of.all ∙ joined;
      each = (it.is, rest_of.each);
      declared = subst (λ (preds : List PredText). AreDeclared most_declared (pred_names preds)) joined rest_of.declared;
    }

pub preds_hold : (trees : Trees) → (preds_of [] trees).faults ≡ [] → ArePredicates trees (preds_of [] trees).value
preds_hold trees none =
    let it = all_hold [] trees (none_declared most_declared) none in
    subst (ArePredicates trees) (sym it.all) (record { each = it.each; declared = it.declared })

pred_reads : (before : List PredText) (tree : Tree) (pred : PredText) (rest : List (List ℕ)) → IsDeclaration tree pred
    → AreDeclared most_declared (pred_names before ++ pred.name.text ∷ rest) → pred_of before tree ≡ fine (pred ∷ [])
pred_reads before (Leaf text at) pred rest is are = absurd is
pred_reads before (Branch at End) pred rest is are = absurd is
pred_reads before (Branch at (Then (Branch i trees) more)) pred rest is are = absurd is
pred_reads before (Branch at (Then (Leaf text i) more)) pred rest (named, free, name, params) are =
    let text_is : pred.name.text ≡ text = ap (λ (name : Name). name.text) name in
    let new : is_declared text before ≡ false = subst (λ (w : List ℕ). is_declared w before ≡ false) text_is
    (sym (has_swapped (λ (pred : PredText). pred.name) pred.name.text before)
    ∙ declared_new most_declared (pred_names before) pred.name.text rest are) in
    let within : leb most_declared (length before) ≡ false =
    ap (leb most_declared) (sym (length-map before (λ (pred : PredText). pred.name.text)))
    ∙ declared_within most_declared (pred_names before) pred.name.text rest are.few in
    ap (λ k. let r : Read (List PredText) = elim k [
      | true ↦ declaration_of before text i more >>= λ pred. fine (pred ∷ [])
      | false ↦ wrong Shape at >> fine []
    ] in r) named
    ∙ λ j. ((wrong_if (free j) Reserved i >> (wrong_if (new j) Duplicate i >> wrong_if (within j) (TooMany most_declared) i))
    >> (list_reads roles.Predicate more pred.params params j >>= λ params. fine (record { name = sym name j; params = params })))
    >>= λ pred. fine (pred ∷ [])

all_read : (before : List PredText) (trees : Trees) (more : List PredText) → Each IsDeclaration trees more
    → AreDeclared most_declared (pred_names (before ++ more)) → preds_of before trees ≡ fine (before ++ more)
all_read before End [] each are = ap fine (sym (append_none before))
all_read before End (pred ∷ more) each are = absurd each
all_read before (Then tree rest) [] each are = absurd each
all_read before (Then tree rest) (pred ∷ more) (is, each) are =
    ap (λ (r : Read (List PredText)). r >>= λ new. preds_of (before ++ new) rest)
    (pred_reads before tree pred (pred_names more) is
    (subst (AreDeclared most_declared) (map-append (λ (pred : PredText). pred.name.text) before (pred ∷ more)) are))
    ∙ all_read (before ++ pred ∷ []) rest more each
    (subst (λ (preds : List PredText). AreDeclared most_declared (pred_names preds)) (sym (append_assoc before (pred ∷ []) more)) are)
    ∙ ap fine (append_assoc before (pred ∷ []) more)

pub preds_read : (trees : Trees) (preds : List PredText) → ArePredicates trees preds → preds_of [] trees ≡ fine preds
preds_read trees preds are = all_read [] trees preds are.each are.declared
