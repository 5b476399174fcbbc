-- What the grammar says of each record: how much of everything there is, and what stands once.
use Rattle.std.proofs.Common.{◌≡◌, ℕ, ◌≤◌, List, [], ◌∷◌, map, ap, sym, subst}
use Rattle.std.specs.List.{AllByRecursion}
use Rattle.std.proofs.lemmas.List.{length-map}
use Rattle.wp_lex.specs.Trees.{Tree, Trees, Leaf, Branch, End, Then}
use Rattle.wp_syntax.specs.declared.records.Typed.{Typed}
use Rattle.wp_syntax.specs.declared.records.PredText.{PredText}
use Rattle.wp_syntax.specs.declared.records.ActionText.{ActionText}
use Rattle.wp_syntax.specs.declared.records.Domain.{Domain}
use Rattle.wp_syntax.specs.Named.{most_declared, most_params}
use Rattle.wp_syntax.specs.Reading.{Read, fine}
use Rattle.wp_syntax.specs.Domains.{domain_of}
use Rattle.wp_syntax.specs.Phrases.{Each, AreDeclared, words_in}
use Rattle.wp_syntax.specs.Sentences.{IsOnce, IsDeclaration, ActionPart, Parameters, Precondition, Effects, IsPart, of_parameters, of_precondition, of_effect, AreParts, params_in, IsAction, Section, Requirements, Types, Constants, Predicates, Action, HasSection, of_requirements, of_types, of_constants, of_predicates, of_action, IsSection, preds_in, actions_in, IsDomain}
use Rattle.wp_syntax.specs.Limits.{HasFewParams, HasDeclaredParams, IsLimited}
use Rattle.wp_syntax.proofs.DeclaredLemmas.{none_declared}
use Rattle.wp_syntax.proofs.DomainLemmas.{domain_holds}

-- ---- predicates
abbrev ArePreds : List PredText → Type 0
ArePreds preds =
    AreDeclared most_declared (map (λ (pred : PredText). pred.name.text) preds) × AllByRecursion HasFewParams preds

few_params : (trees : Trees) (preds : List PredText) → Each IsDeclaration trees preds → AllByRecursion HasFewParams preds
few_params End [] each = tt
few_params End (pred ∷ preds) each = absurd each
few_params (Then tree rest) [] each = absurd each
few_params (Then (Leaf text at) rest) (pred ∷ preds) (is, each) = absurd is
few_params (Then (Branch at End) rest) (pred ∷ preds) (is, each) = absurd is
few_params (Then (Branch at (Then (Branch i trees) more)) rest) (pred ∷ preds) (is, each) = absurd is
few_params (Then (Branch at (Then (Leaf text i) more)) rest) (pred ∷ preds) ((named, free, name, params), each) = (
  subst (λ n. n ≤ most_params) (length-map pred.params (λ (one : Typed). one.name.text)) params.allowed,
  few_params rest preds each,
)

-- ---- actions
abbrev PartParams : ActionPart → Type 0
PartParams (Parameters params) = AreDeclared most_params (words_in params)
PartParams (Precondition conds) = Unit {0}
PartParams (Effects effects) = Unit {0}

part_params : {word : List ℕ} {tree : Tree} {part : ActionPart} → IsPart word tree part → PartParams part
part_params (of_parameters at trees params is) = is.allowed
part_params (of_precondition tree conds is) = tt
part_params (of_effect tree effects is) = tt

of_part : (word : List ℕ) (tree : Tree) (params : List Typed) → IsPart word tree (Parameters params) → AreDeclared most_params (words_in params)
of_part word tree params is = part_params is

params_declared : (trees : Trees) (parts : List ActionPart) → AreParts trees parts
    → AllByRecursion (λ (params : List Typed). AreDeclared most_params (words_in params)) (params_in parts)
params_declared End [] each = tt
params_declared End (part ∷ parts) each = absurd each
params_declared (Then (Branch at trees) rest) parts each = absurd each
params_declared (Then (Leaf word at) End) parts each = absurd each
params_declared (Then (Leaf word at) (Then value rest)) [] each = absurd each
params_declared (Then (Leaf word at) (Then value rest)) (Parameters params ∷ parts) (is, each) =
    (of_part word value params is, params_declared rest parts each)
params_declared (Then (Leaf word at) (Then value rest)) (Precondition conds ∷ parts) (is, each) = params_declared rest parts each
params_declared (Then (Leaf word at) (Then value rest)) (Effects effects ∷ parts) (is, each) = params_declared rest parts each

once_declared : (lists : List (List Typed)) (params : List Typed) → IsOnce lists params
    → AllByRecursion (λ (params : List Typed). AreDeclared most_params (words_in params)) lists → AreDeclared most_params (words_in params)
once_declared [] params is all = subst (λ (params : List Typed). AreDeclared most_params (words_in params)) (sym is) (none_declared most_params)
once_declared (one ∷ []) params is all = subst (λ (params : List Typed). AreDeclared most_params (words_in params)) (sym is) all.0
once_declared (one ∷ another ∷ more) params is all = absurd is

action_params : (trees : Trees) (action : ActionText) → IsAction trees action → HasDeclaredParams action
action_params End action is = absurd is
action_params (Then (Branch at trees) rest) action is = absurd is
action_params (Then (Leaf text at) rest) action (named, name, has) =
    once_declared (params_in has.parts) action.params has.params (params_declared rest has.parts has.each)

-- ---- sections
abbrev IsLimitedSection : Section → Type 0
IsLimitedSection Requirements = Unit {0}
IsLimitedSection (Types types) = Unit {0}
IsLimitedSection (Constants constants) = Unit {0}
IsLimitedSection (Predicates preds) = ArePreds preds
IsLimitedSection (Action action) = HasDeclaredParams action

section_limited : {word : List ℕ} {trees : Trees} {section : Section} → HasSection word trees section → IsLimitedSection section
section_limited (of_requirements trees are) = tt
section_limited (of_types trees typed is) = tt
section_limited (of_constants trees typed is) = tt
section_limited (of_predicates trees preds are) = (are.declared, few_params trees preds are.each)
section_limited (of_action trees action is) = action_params trees action is

sections_limited : (trees : Trees) (sections : List Section) → Each IsSection trees sections → AllByRecursion IsLimitedSection sections
sections_limited End [] each = tt
sections_limited End (section ∷ sections) each = absurd each
sections_limited (Then tree rest) [] each = absurd each
sections_limited (Then (Leaf text at) rest) (section ∷ sections) (is, each) = absurd is
sections_limited (Then (Branch at End) rest) (section ∷ sections) (is, each) = absurd is
sections_limited (Then (Branch at (Then (Branch i trees) more)) rest) (section ∷ sections) (is, each) = absurd is
sections_limited (Then (Branch at (Then (Leaf head i) more)) rest) (section ∷ sections) (is, each) =
    (section_limited is, sections_limited rest sections each)

preds_limited : (sections : List Section) → AllByRecursion IsLimitedSection sections → AllByRecursion ArePreds (preds_in sections)
preds_limited [] all = tt
preds_limited (Requirements ∷ sections) all = preds_limited sections all.1
preds_limited (Types types ∷ sections) all = preds_limited sections all.1
preds_limited (Constants constants ∷ sections) all = preds_limited sections all.1
preds_limited (Predicates preds ∷ sections) all = (all.0, preds_limited sections all.1)
preds_limited (Action action ∷ sections) all = preds_limited sections all.1

actions_limited : (sections : List Section) → AllByRecursion IsLimitedSection sections → AllByRecursion HasDeclaredParams (actions_in sections)
actions_limited [] all = tt
actions_limited (Requirements ∷ sections) all = actions_limited sections all.1
actions_limited (Types types ∷ sections) all = actions_limited sections all.1
actions_limited (Constants constants ∷ sections) all = actions_limited sections all.1
actions_limited (Predicates preds ∷ sections) all = actions_limited sections all.1
actions_limited (Action action ∷ sections) all = (all.0, actions_limited sections all.1)

once_preds : (lists : List (List PredText)) (preds : List PredText) → IsOnce lists preds → AllByRecursion ArePreds lists → ArePreds preds
once_preds [] preds is all = subst ArePreds (sym is) (none_declared most_declared, tt)
once_preds (one ∷ []) preds is all = subst ArePreds (sym is) all.0
once_preds (one ∷ another ∷ more) preds is all = absurd is

domain_limited : (trees : Trees) (domain : Domain) → IsDomain trees domain → IsLimited domain
domain_limited trees domain is =
    let all = sections_limited is.rest is.sections is.each in
    let preds = once_preds (preds_in is.sections) domain.preds is.preds (preds_limited is.sections all) in
    record {
      preds = preds.0;
      pred_params = preds.1;
      actions = is.declared;
      action_params = subst (AllByRecursion HasDeclaredParams) is.actions (actions_limited is.sections all);
    }

pub read_limited : (trees : Trees) (domain : Domain) → domain_of trees ≡ fine domain → IsLimited domain
read_limited trees domain e =
    domain_limited trees domain
    (subst (λ (r : Read Domain). IsDomain trees r.value) e (domain_holds trees (ap (λ (r : Read Domain). r.faults) e)))
