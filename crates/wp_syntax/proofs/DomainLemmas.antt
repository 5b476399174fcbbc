-- Domains: they are read without a fault exactly where the grammar has them.
use Rattle.std.proofs.Common.{◌≡◌, ℕ, Bool, true, false, leb, List, [], ◌∷◌, ◌++◌, length, map, Option, None, Some, refl, sym, ap, subst, ◌∙◌, append_assoc}
use Rattle.std.specs.Prelude.{codes, is_some, option_to_list}
use Rattle.std.specs.List.{list_any}
use Rattle.std.specs.Str.{bytes_eq}
use Rattle.std.proofs.lemmas.List.{map-append}
use Rattle.wp_lex.specs.Trees.{Tree, Trees, Leaf, Branch, End, Then}
use Rattle.wp_syntax.specs.declared.error.ReadKind.TheVariants.{Shape, Unsupported, Duplicate}
use Rattle.wp_syntax.specs.declared.records.Name.{Name}
use Rattle.wp_syntax.specs.declared.records.Typed.{Typed}
use Rattle.wp_syntax.specs.declared.records.PredText.{PredText}
use Rattle.wp_syntax.specs.declared.records.ActionText.{ActionText}
use Rattle.wp_syntax.specs.declared.records.Domain.{Domain}
use Rattle.wp_syntax.specs.declared.domain.Sections.{Sections}
use Rattle.wp_syntax.specs.declared.typing.Role.TheVariants as roles
use Rattle.wp_syntax.specs.declared.word.SectionHead.{SectionHead}
use Rattle.wp_syntax.specs.declared.word.SectionHead.TheVariants as section_heads
use Rattle.wp_syntax.specs.Heads.{is_other_section, section_head_of}
use Rattle.wp_syntax.specs.Named.{most_declared}
use Rattle.wp_syntax.specs.Reading.{Read, fine, wrong, wrong_if, ◌>>=◌, ◌>>◌}
use Rattle.wp_syntax.specs.Typing.{typed_of}
use Rattle.wp_syntax.specs.Predicates.{preds_of}
use Rattle.wp_syntax.specs.Actions.{action_of}
use Rattle.wp_syntax.specs.Outline.{outline_of, title_of, flags_of}
use Rattle.wp_syntax.specs.Domains.{no_sections, headed_section_of, section_of, sections_of, domain_from, domain_of}
use Rattle.wp_syntax.specs.Phrases.{Each, AreDeclared}
use Rattle.wp_syntax.specs.Sentences.{Section, Requirements, Types, Constants, Predicates, Action, HasSection, of_requirements, of_types, of_constants, of_predicates, of_action, IsSection, requirements_in, types_in, constants_in, preds_in, actions_in, HasOutline, defines, IsDomain}
use Rattle.wp_syntax.proofs.FaultLemmas.{append_none, none_before, none_behind}
use Rattle.wp_syntax.proofs.Heads.{pick, same_word}
use Rattle.wp_syntax.proofs.DeclaredLemmas.{none_declared, declared_push}
use Rattle.wp_syntax.proofs.OnceLemmas.{once_of, kept_of, kept_is, free_of, same_of, not_there, once_new, once_read, free_place, flag, flag_free, flag_same, flag_none, flag_of}
use Rattle.wp_syntax.proofs.TypedLemmas.{list_holds, list_reads}
use Rattle.wp_syntax.proofs.PredicateLemmas.{preds_hold, preds_read}
use Rattle.wp_syntax.proofs.PartLemmas.{action_holds, action_reads}
use Rattle.wp_syntax.proofs.OutlineLemmas.{flags_hold, flags_read, outline_holds, title_reads}

abbrev SaysSection : SectionHead → List ℕ → Type 0
SaysSection section_heads.Requirements text = text ≡ codes ":requirements"
SaysSection section_heads.Types text = text ≡ codes ":types"
SaysSection section_heads.Constants text = text ≡ codes ":constants"
SaysSection section_heads.Predicates text = text ≡ codes ":predicates"
SaysSection section_heads.Action text = text ≡ codes ":action"
SaysSection section_heads.Unsupported text = Unit {0}
SaysSection section_heads.Other text = Unit {0}

section_says : (text : List ℕ) → SaysSection (section_head_of text) text
section_says text =
    let P : SectionHead → Type 0 = λ k. SaysSection k text in
    pick P (bytes_eq text (codes ":requirements")) section_heads.Requirements _ (λ e. same_word text (codes ":requirements") e)
    (λ _. pick P (bytes_eq text (codes ":types")) section_heads.Types _ (λ e. same_word text (codes ":types") e)
    (λ _. pick P (bytes_eq text (codes ":constants")) section_heads.Constants _ (λ e. same_word text (codes ":constants") e)
    (λ _. pick P (bytes_eq text (codes ":predicates")) section_heads.Predicates _ (λ e. same_word text (codes ":predicates") e)
    (λ _. pick P (bytes_eq text (codes ":action")) section_heads.Action _ (λ e. same_word text (codes ":action") e)
    (λ _. pick P (is_other_section text) section_heads.Unsupported section_heads.Other (λ _. tt) (λ _. tt))))))

abbrev action_names : List ActionText → List (List ℕ)
action_names actions = map (λ (action : ActionText). action.name.text) actions

-- a section that is put in its place
abbrev with_section : Sections → Section → Sections
with_section so_far Requirements = record so_far { requirements = true }
with_section so_far (Types types) = record so_far { types = Some types }
with_section so_far (Constants constants) = record so_far { constants = Some constants }
with_section so_far (Predicates preds) = record so_far { preds = Some preds }
with_section so_far (Action action) = record so_far { actions = so_far.actions ++ action ∷ [] }

-- the sections so far with those that follow
record Fills (so_far : Sections) (sections : List Section) (all : Sections) : Type 0 where
  requirements : option_to_list (flag so_far.requirements) ++ requirements_in sections ≡ option_to_list (flag all.requirements)
  types : option_to_list so_far.types ++ types_in sections ≡ option_to_list all.types
  constants : option_to_list so_far.constants ++ constants_in sections ≡ option_to_list all.constants
  preds : option_to_list so_far.preds ++ preds_in sections ≡ option_to_list all.preds
  actions : so_far.actions ++ actions_in sections ≡ all.actions

abbrev HasPlace : Sections → Section → Type 0
HasPlace so_far Requirements = so_far.requirements ≡ false
HasPlace so_far (Types types) = so_far.types ≡ None
HasPlace so_far (Constants constants) = so_far.constants ≡ None
HasPlace so_far (Predicates preds) = so_far.preds ≡ None
HasPlace so_far (Action action) =
    (list_any (bytes_eq action.name.text) (action_names so_far.actions) ≡ false) × (leb most_declared (length (action_names so_far.actions)) ≡ false)

add_section : (so_far : Sections) (section : Section) (sections : List Section) (all : Sections) → HasPlace so_far section
    → Fills (with_section so_far section) sections all → Fills so_far (section ∷ sections) all
add_section so_far Requirements sections all free it = record {
  requirements = subst (λ (there : Bool). option_to_list (flag there) ++ [] ∷ requirements_in sections ≡ option_to_list (flag all.requirements)) (sym free) it.requirements;
  types = it.types;
  constants = it.constants;
  preds = it.preds;
  actions = it.actions;
}
add_section so_far (Types types) sections all free it = record {
  requirements = it.requirements;
  types = subst (λ (o : Option (List Typed)). option_to_list o ++ types ∷ types_in sections ≡ option_to_list all.types) (sym free) it.types;
  constants = it.constants;
  preds = it.preds;
  actions = it.actions;
}
add_section so_far (Constants constants) sections all free it = record {
  requirements = it.requirements;
  types = it.types;
  constants = subst (λ (o : Option (List Typed)). option_to_list o ++ constants ∷ constants_in sections ≡ option_to_list all.constants) (sym free) it.constants;
  preds = it.preds;
  actions = it.actions;
}
add_section so_far (Predicates preds) sections all free it = record {
  requirements = it.requirements;
  types = it.types;
  constants = it.constants;
  preds = subst (λ (o : Option (List PredText)). option_to_list o ++ preds ∷ preds_in sections ≡ option_to_list all.preds) (sym free) it.preds;
  actions = it.actions;
}
add_section so_far (Action action) sections all free it = record {
  requirements = it.requirements;
  types = it.types;
  constants = it.constants;
  preds = it.preds;
  actions = sym (append_assoc so_far.actions (action ∷ []) (actions_in sections)) ∙ it.actions;
}

record Puts (so_far : Sections) (tree : Tree) (new : Sections) : Type 0 where
  section : Section
  is : IsSection tree section
  place : HasPlace so_far section
  put : new ≡ with_section so_far section

headed_section_holds : (so_far : Sections) (at : ℕ) (head : List ℕ) (i : ℕ) (rest : Trees) → (headed_section_of so_far at head i rest).faults ≡ []
    → Puts so_far (Branch at (Then (Leaf head i) rest)) (headed_section_of so_far at head i rest).value
headed_section_holds so_far at head i rest none =
    elim (section_head_of head) as (λ k. SaysSection k head → let r : Read Sections = elim k [
      | section_heads.Requirements ↦ wrong_if so_far.requirements Duplicate at
          >> (flags_of rest >> fine (record so_far { requirements = true }))
      | section_heads.Types ↦ wrong_if (is_some so_far.types) Duplicate at
          >> (typed_of roles.Names [] [] rest >>= λ types. fine (record so_far { types = Some types }))
      | section_heads.Constants ↦ wrong_if (is_some so_far.constants) Duplicate at
          >> (typed_of roles.Names [] [] rest >>= λ constants. fine (record so_far { constants = Some constants }))
      | section_heads.Predicates ↦ wrong_if (is_some so_far.preds) Duplicate at
          >> (preds_of [] rest >>= λ preds. fine (record so_far { preds = Some preds }))
      | section_heads.Action ↦
          action_of so_far.actions at rest >>= λ action. fine (record so_far { actions = so_far.actions ++ action ∷ [] })
      | section_heads.Unsupported ↦ wrong (Unsupported head) i >> fine so_far
      | section_heads.Other ↦ wrong Shape at >> fine so_far
    ] in r.faults ≡ [] → Puts so_far (Branch at (Then (Leaf head i) rest)) r.value) [
      | section_heads.Requirements ↦ λ says none.
          let it = once_new so_far.requirements at (flags_of rest) none in record {
            section = Requirements;
            is = subst (λ (w : List ℕ). HasSection w rest Requirements) (sym says) (of_requirements rest (flags_hold rest it.1));
            place = it.0;
            put = refl;
          }
      | section_heads.Types ↦ λ says none.
          let it = once_new (is_some so_far.types) at (typed_of roles.Names [] [] rest) none in
          let types = (typed_of roles.Names [] [] rest).value in record {
            section = Types types;
            is = subst (λ (w : List ℕ). HasSection w rest (Types types)) (sym says) (of_types rest types (list_holds roles.Names rest it.1));
            place = not_there so_far.types it.0;
            put = refl;
          }
      | section_heads.Constants ↦ λ says none.
          let it = once_new (is_some so_far.constants) at (typed_of roles.Names [] [] rest) none in
          let constants = (typed_of roles.Names [] [] rest).value in record {
            section = Constants constants;
            is = subst (λ (w : List ℕ). HasSection w rest (Constants constants)) (sym says) (of_constants rest constants (list_holds roles.Names rest it.1));
            place = not_there so_far.constants it.0;
            put = refl;
          }
      | section_heads.Predicates ↦ λ says none.
          let it = once_new (is_some so_far.preds) at (preds_of [] rest) none in
          let preds = (preds_of [] rest).value in record {
            section = Predicates preds;
            is = subst (λ (w : List ℕ). HasSection w rest (Predicates preds)) (sym says) (of_predicates rest preds (preds_hold rest it.1));
            place = not_there so_far.preds it.0;
            put = refl;
          }
      | section_heads.Action ↦ λ says none.
          let it = action_holds so_far.actions at rest (none_before (action_of so_far.actions at rest).faults [] none) in
          let action = (action_of so_far.actions at rest).value in record {
            section = Action action;
            is = subst (λ (w : List ℕ). HasSection w rest (Action action)) (sym says) (of_action rest action it.is);
            place = (it.new, it.within);
            put = refl;
          }
      | section_heads.Unsupported ↦ λ says none. cc
      | section_heads.Other ↦ λ says none. cc
    ] (section_says head) none

section_holds : (so_far : Sections) (tree : Tree) → (section_of so_far tree).faults ≡ [] → Puts so_far tree (section_of so_far tree).value
section_holds so_far (Leaf text at) none = cc
section_holds so_far (Branch at End) none = cc
section_holds so_far (Branch at (Then (Branch i trees) rest)) none = cc
section_holds so_far (Branch at (Then (Leaf head i) rest)) none = headed_section_holds so_far at head i rest none

-- actions stay declared once
still_declared : (so_far : Sections) (section : Section) → HasPlace so_far section → AreDeclared most_declared (action_names so_far.actions)
    → AreDeclared most_declared (action_names (with_section so_far section).actions)
still_declared so_far Requirements place are = are
still_declared so_far (Types types) place are = are
still_declared so_far (Constants constants) place are = are
still_declared so_far (Predicates preds) place are = are
still_declared so_far (Action action) place are =
    subst (AreDeclared most_declared) (sym (map-append (λ (action : ActionText). action.name.text) so_far.actions (action ∷ [])))
    (declared_push most_declared (action_names so_far.actions) action.name.text are place.0 place.1)

record AllFill (so_far : Sections) (trees : Trees) (all : Sections) : Type 0 where
  sections : List Section
  each : Each IsSection trees sections
  fill : Fills so_far sections all
  declared : AreDeclared most_declared (action_names all.actions)

sections_hold : (so_far : Sections) (trees : Trees) → AreDeclared most_declared (action_names so_far.actions) → (sections_of so_far trees).faults ≡ []
    → AllFill so_far trees (sections_of so_far trees).value
sections_hold so_far End are none = record {
  sections = [];
  each = tt;
  fill = record {
    requirements = append_none (option_to_list (flag so_far.requirements));
    types = append_none (option_to_list so_far.types);
    constants = append_none (option_to_list so_far.constants);
    preds = append_none (option_to_list so_far.preds);
    actions = append_none so_far.actions;
  };
  declared = are;
}
sections_hold so_far (Then tree rest) are none =
    let read = section_of so_far tree in
    let it = section_holds so_far tree (none_before read.faults _ none) in
    let all = (sections_of read.value rest).value in
    let more = sections_hold read.value rest
    (subst (λ (new : Sections). AreDeclared most_declared (action_names new.actions)) (sym it.put) (still_declared so_far it.section it.place are))
    (none_behind read.faults _ none) in
    record {
      sections = it.section ∷ more.sections;
      each = (it.is, more.each);
      fill = add_section so_far it.section more.sections all it.place (subst (λ (new : Sections). Fills new more.sections all) it.put more.fill);
      declared = more.declared;
    }

pub domain_holds : (trees : Trees) → (domain_of trees).faults ≡ [] → IsDomain trees (domain_of trees).value
domain_holds trees none =
    let outline = outline_of trees in
    let title = title_of (codes "domain") outline.value.title in
    let sections = sections_of no_sections outline.value.rest in
    let all : outline.faults ++ (title.faults ++ (sections.faults ++ [])) ≡ [] = none_before _ [] none in
    let behind = none_behind outline.faults _ all in
    let it = sections_hold no_sections outline.value.rest (none_declared most_declared)
    (none_before sections.faults [] (none_behind title.faults _ behind)) in
    record {
      rest = outline.value.rest;
      sections = it.sections;
      outline = outline_holds (codes "domain") trees (none_before outline.faults _ all) (none_before title.faults _ behind);
      each = it.each;
      requirements = flag_none (requirements_in it.sections) sections.value.requirements it.fill.requirements;
      types = once_of (types_in it.sections) sections.value.types it.fill.types;
      constants = once_of (constants_in it.sections) sections.value.constants it.fill.constants;
      preds = once_of (preds_in it.sections) sections.value.preds it.fill.preds;
      actions = it.fill.actions;
      declared = it.declared;
    }

-- ---- the other way
has_place : (so_far : Sections) (section : Section) (sections : List Section) (all : Sections) → Fills so_far (section ∷ sections) all
    → Fills (with_section so_far section) sections all
has_place so_far Requirements sections all it =
    let free = flag_free so_far.requirements (free_of (flag so_far.requirements) [] (requirements_in sections) (flag all.requirements) it.requirements) in record {
      requirements = subst (λ (there : Bool). option_to_list (flag there) ++ [] ∷ requirements_in sections ≡ option_to_list (flag all.requirements)) free it.requirements;
      types = it.types;
      constants = it.constants;
      preds = it.preds;
      actions = it.actions;
    }
has_place so_far (Types types) sections all it = record {
  requirements = it.requirements;
  types = subst (λ (o : Option (List Typed)). option_to_list o ++ types ∷ types_in sections ≡ option_to_list all.types)
      (free_of so_far.types types (types_in sections) all.types it.types) it.types;
  constants = it.constants;
  preds = it.preds;
  actions = it.actions;
}
has_place so_far (Constants constants) sections all it = record {
  requirements = it.requirements;
  types = it.types;
  constants = subst (λ (o : Option (List Typed)). option_to_list o ++ constants ∷ constants_in sections ≡ option_to_list all.constants)
      (free_of so_far.constants constants (constants_in sections) all.constants it.constants) it.constants;
  preds = it.preds;
  actions = it.actions;
}
has_place so_far (Predicates preds) sections all it = record {
  requirements = it.requirements;
  types = it.types;
  constants = it.constants;
  preds = subst (λ (o : Option (List PredText)). option_to_list o ++ preds ∷ preds_in sections ≡ option_to_list all.preds)
      (free_of so_far.preds preds (preds_in sections) all.preds it.preds) it.preds;
  actions = it.actions;
}
has_place so_far (Action action) sections all it = record {
  requirements = it.requirements;
  types = it.types;
  constants = it.constants;
  preds = it.preds;
  actions = append_assoc so_far.actions (action ∷ []) (actions_in sections) ∙ it.actions;
}

section_reads : (so_far : Sections) (at : ℕ) (head : List ℕ) (i : ℕ) (rest : Trees) (section : Section) (sections : List Section) (all : Sections)
    → HasSection head rest section → Fills so_far (section ∷ sections) all → AreDeclared most_declared (action_names all.actions)
    → section_of so_far (Branch at (Then (Leaf head i) rest)) ≡ fine (with_section so_far section)
section_reads so_far at _ i _ _ sections all (of_requirements rest are) it declared =
    let free = flag_free so_far.requirements (free_of (flag so_far.requirements) [] (requirements_in sections) (flag all.requirements) it.requirements) in
    λ j. wrong_if (free j) Duplicate at >> (record { faults = flags_read rest are j; value = tt } >> fine (record so_far { requirements = true }))
section_reads so_far at _ i _ _ sections all (of_types rest types is) it declared =
    once_read (is_some so_far.types) at (typed_of roles.Names [] [] rest) types (λ types. record so_far { types = Some types })
    (free_place so_far.types (free_of so_far.types types (types_in sections) all.types it.types)) (list_reads roles.Names rest types is)
section_reads so_far at _ i _ _ sections all (of_constants rest constants is) it declared =
    once_read (is_some so_far.constants) at (typed_of roles.Names [] [] rest) constants (λ constants. record so_far { constants = Some constants })
    (free_place so_far.constants (free_of so_far.constants constants (constants_in sections) all.constants it.constants)) (list_reads roles.Names rest constants is)
section_reads so_far at _ i _ _ sections all (of_predicates rest preds are) it declared =
    once_read (is_some so_far.preds) at (preds_of [] rest) preds (λ preds. record so_far { preds = Some preds })
    (free_place so_far.preds (free_of so_far.preds preds (preds_in sections) all.preds it.preds)) (preds_read rest preds are)
section_reads so_far at _ i _ _ sections all (of_action rest action is) it declared =
    ap (λ (r : Read ActionText). r >>= λ action. fine (record so_far { actions = so_far.actions ++ action ∷ [] }))
    (action_reads so_far.actions at rest action (action_names (actions_in sections)) is
    (subst (AreDeclared most_declared)
    (ap action_names (sym it.actions) ∙ map-append (λ (action : ActionText). action.name.text) so_far.actions (action ∷ actions_in sections)) declared))

sections_read : (so_far : Sections) (trees : Trees) (sections : List Section) (all : Sections) → Each IsSection trees sections
    → Fills so_far sections all → AreDeclared most_declared (action_names all.actions) → sections_of so_far trees ≡ fine all
sections_read so_far End [] all each it declared =
    let requirements = flag_same so_far.requirements all.requirements (same_of (flag so_far.requirements) (flag all.requirements) it.requirements) in
    let types = same_of so_far.types all.types it.types in
    let constants = same_of so_far.constants all.constants it.constants in
    let preds = same_of so_far.preds all.preds it.preds in
    let actions = sym (append_none so_far.actions) ∙ it.actions in
    λ j. fine (record { requirements = requirements j; types = types j; constants = constants j; preds = preds j; actions = actions j })
sections_read so_far End (section ∷ sections) all each it declared = absurd each
sections_read so_far (Then tree rest) [] all each it declared = absurd each
sections_read so_far (Then (Leaf text at) rest) (section ∷ sections) all (is, each) it declared = absurd is
sections_read so_far (Then (Branch at End) rest) (section ∷ sections) all (is, each) it declared = absurd is
sections_read so_far (Then (Branch at (Then (Branch i trees) more)) rest) (section ∷ sections) all (is, each) it declared = absurd is
sections_read so_far (Then (Branch at (Then (Leaf head i) more)) rest) (section ∷ sections) all (is, each) it declared =
    ap (λ (r : Read Sections). r >>= λ new. sections_of new rest) (section_reads so_far at head i more section sections all is it declared)
    ∙ sections_read (with_section so_far section) rest sections all each (has_place so_far section sections all it) declared

sectioned_reads : (name : Name) (trees rest : Trees) (all : Sections) (domain : Domain) → HasOutline (codes "domain") trees name rest
    → sections_of no_sections rest ≡ fine all → domain_from name all ≡ domain → domain_of trees ≡ fine domain
sectioned_reads _ _ _ all domain (defines at i j k title name rest is) read same =
    let pair : Name → Sections → Name × Sections = λ (name : Name) (sections : Sections). (name, sections) in
    (λ l. (title_reads (codes "domain") j k title name is l >>= λ name. read l >>= λ sections. fine (pair name sections)) >>= λ read. fine (domain_from read.0 read.1))
    ∙ ap fine same

pub domain_reads : (trees : Trees) (domain : Domain) → IsDomain trees domain → domain_of trees ≡ fine domain
domain_reads trees domain is =
    let types = kept_is (types_in is.sections) domain.types is.types in
    let constants = kept_is (constants_in is.sections) domain.constants is.constants in
    let preds = kept_is (preds_in is.sections) domain.preds is.preds in
    let requirements = flag_of (requirements_in is.sections) is.requirements in
    let all : Sections = record {
      requirements = requirements.0;
      types = kept_of (types_in is.sections);
      constants = kept_of (constants_in is.sections);
      preds = kept_of (preds_in is.sections);
      actions = domain.actions;
    } in
    sectioned_reads domain.name trees is.rest all domain is.outline
    (sections_read no_sections is.rest is.sections all is.each
    (record { requirements = requirements.1; types = types.0; constants = constants.0; preds = preds.0; actions = is.actions }) is.declared)
    (λ j. record { name = domain.name; types = types.1 j; constants = constants.1 j; preds = preds.1 j; actions = domain.actions })
