-- The parts of an action, and actions: they are read without a fault exactly where the grammar has them.
use Rattle.std.proofs.Common.{unwrap_or, ◌≡◌, ℕ, false, not, leb, List, [], ◌∷◌, ◌++◌, length, map, Option, None, Some, refl, sym, ap, subst, ◌∙◌}
use Rattle.std.specs.Prelude.{codes, is_some, option_to_list}
use Rattle.std.specs.List.{list_any}
use Rattle.std.specs.Str.{bytes_eq}
use Rattle.std.proofs.lemmas.List.{length-map}
use Rattle.wp_lex.specs.Trees.{Tree, Trees, Leaf, Branch, End, Then}
use Rattle.wp_syntax.specs.declared.error.ReadKind.TheVariants.{Shape, Unsupported, Duplicate, TooMany}
use Rattle.wp_syntax.specs.declared.records.Name.{Name}
use Rattle.wp_syntax.specs.declared.records.Typed.{Typed}
use Rattle.wp_syntax.specs.declared.records.Cond.{Cond}
use Rattle.wp_syntax.specs.declared.items.EffectItem.{EffectItem}
use Rattle.wp_syntax.specs.declared.records.ActionText.{ActionText}
use Rattle.wp_syntax.specs.declared.action.Parts.{Parts}
use Rattle.wp_syntax.specs.declared.typing.Role.TheVariants as roles
use Rattle.wp_syntax.specs.declared.word.PartHead.{PartHead}
use Rattle.wp_syntax.specs.declared.word.PartHead.TheVariants as part_heads
use Rattle.wp_syntax.specs.Word.{is_name}
use Rattle.wp_syntax.specs.Heads.{part_head_of}
use Rattle.wp_syntax.specs.Named.{most_declared}
use Rattle.wp_syntax.specs.Reading.{Read, fine, wrong, wrong_if, ◌>>=◌, ◌>>◌}
use Rattle.wp_syntax.specs.Grammar.{name_at, cond_of}
use Rattle.wp_syntax.specs.Items.{changes_in}
use Rattle.wp_syntax.specs.Effects.{effect_of}
use Rattle.wp_syntax.specs.Typing.{typed_of}
use Rattle.wp_syntax.specs.Actions.{no_parts, part_of, bare_part_of, valued_of, parts_of, action_from, is_defined, defined_of, action_of}
use Rattle.wp_syntax.specs.Phrases.{IsCondition, IsEffect, AreDeclared}
use Rattle.wp_syntax.specs.Sentences.{ActionPart, Parameters, Precondition, Effects, IsPart, of_parameters, of_precondition, of_effect, AreParts, params_in, conds_in, effects_in, IsAction}
use Rattle.wp_syntax.proofs.FaultLemmas.{append_none, none_before, none_behind, not_faulty}
use Rattle.wp_syntax.proofs.Heads.{pick, same_word, passed}
use Rattle.wp_syntax.proofs.DeclaredLemmas.{has_swapped, declared_new, declared_within}
use Rattle.wp_syntax.proofs.PhraseLemmas.{cond_holds, cond_reads, effect_holds, effect_reads}
use Rattle.wp_syntax.proofs.TypedLemmas.{list_holds, list_reads}
use Rattle.wp_syntax.proofs.OnceLemmas.{once_of, kept_of, kept_is, free_of, same_of, not_there, once_new, once_read, free_place}

abbrev SaysPart : PartHead → List ℕ → Type 0
SaysPart part_heads.Parameters text = text ≡ codes ":parameters"
SaysPart part_heads.Precondition text = text ≡ codes ":precondition"
SaysPart part_heads.Effect text = text ≡ codes ":effect"
SaysPart part_heads.Vars text = Unit {0}
SaysPart part_heads.Other text = Unit {0}

part_says : (text : List ℕ) → SaysPart (part_head_of text) text
part_says text =
    pick (λ k. SaysPart k text) (bytes_eq text (codes ":parameters")) part_heads.Parameters _ (λ e. same_word text (codes ":parameters") e)
    (λ _. pick (λ k. SaysPart k text) (bytes_eq text (codes ":precondition")) part_heads.Precondition _ (λ e. same_word text (codes ":precondition") e)
    (λ _. pick (λ k. SaysPart k text) (bytes_eq text (codes ":effect")) part_heads.Effect _ (λ e. same_word text (codes ":effect") e)
    (λ _. pick (λ k. SaysPart k text) (bytes_eq text (codes ":vars")) part_heads.Vars part_heads.Other (λ _. tt) (λ _. tt))))

-- a part that is put in its place
abbrev with_part : Parts → ActionPart → Parts
with_part so_far (Parameters params) = record so_far { params = Some params }
with_part so_far (Precondition conds) = record so_far { pre = Some conds }
with_part so_far (Effects effects) = record so_far { effects = Some effects }

abbrev HasPlace : Parts → ActionPart → Type 0
HasPlace so_far (Parameters params) = so_far.params ≡ None
HasPlace so_far (Precondition conds) = so_far.pre ≡ None
HasPlace so_far (Effects effects) = so_far.effects ≡ None

-- the parts so far with those that follow
record Fills (so_far : Parts) (parts : List ActionPart) (all : Parts) : Type 0 where
  params : option_to_list so_far.params ++ params_in parts ≡ option_to_list all.params
  pre : option_to_list so_far.pre ++ conds_in parts ≡ option_to_list all.pre
  effects : option_to_list so_far.effects ++ effects_in parts ≡ option_to_list all.effects

add_part : (so_far : Parts) (part : ActionPart) (parts : List ActionPart) (all : Parts) → HasPlace so_far part
    → Fills (with_part so_far part) parts all → Fills so_far (part ∷ parts) all
add_part so_far (Parameters params) parts all free it = record {
  params = subst (λ (o : Option (List Typed)). option_to_list o ++ params ∷ params_in parts ≡ option_to_list all.params) (sym free) it.params;
  pre = it.pre;
  effects = it.effects;
}
add_part so_far (Precondition conds) parts all free it = record {
  params = it.params;
  pre = subst (λ (o : Option (List Cond)). option_to_list o ++ conds ∷ conds_in parts ≡ option_to_list all.pre) (sym free) it.pre;
  effects = it.effects;
}
add_part so_far (Effects effects) parts all free it = record {
  params = it.params;
  pre = it.pre;
  effects = subst (λ (o : Option (List EffectItem)). option_to_list o ++ effects ∷ effects_in parts ≡ option_to_list all.effects) (sym free) it.effects;
}

has_place : (so_far : Parts) (part : ActionPart) (parts : List ActionPart) (all : Parts) → Fills so_far (part ∷ parts) all → HasPlace so_far part
has_place so_far (Parameters params) parts all it = free_of so_far.params params (params_in parts) all.params it.params
has_place so_far (Precondition conds) parts all it = free_of so_far.pre conds (conds_in parts) all.pre it.pre
has_place so_far (Effects effects) parts all it = free_of so_far.effects effects (effects_in parts) all.effects it.effects

put_part : (so_far : Parts) (part : ActionPart) (parts : List ActionPart) (all : Parts) → Fills so_far (part ∷ parts) all
    → Fills (with_part so_far part) parts all
put_part so_far (Parameters params) parts all it = record {
  params = subst (λ (o : Option (List Typed)). option_to_list o ++ params ∷ params_in parts ≡ option_to_list all.params)
      (free_of so_far.params params (params_in parts) all.params it.params) it.params;
  pre = it.pre;
  effects = it.effects;
}
put_part so_far (Precondition conds) parts all it = record {
  params = it.params;
  pre = subst (λ (o : Option (List Cond)). option_to_list o ++ conds ∷ conds_in parts ≡ option_to_list all.pre)
      (free_of so_far.pre conds (conds_in parts) all.pre it.pre) it.pre;
  effects = it.effects;
}
put_part so_far (Effects effects) parts all it = record {
  params = it.params;
  pre = it.pre;
  effects = subst (λ (o : Option (List EffectItem)). option_to_list o ++ effects ∷ effects_in parts ≡ option_to_list all.effects)
      (free_of so_far.effects effects (effects_in parts) all.effects it.effects) it.effects;
}

record Puts (so_far : Parts) (word : List ℕ) (value : Tree) (new : Parts) : Type 0 where
  part : ActionPart
  is : IsPart word value part
  place : HasPlace so_far part
  put : new ≡ with_part so_far part

part_holds : (so_far : Parts) (word : List ℕ) (at i : ℕ) (trees : Trees) → (part_of so_far word at i trees).faults ≡ []
    → Puts so_far word (Branch i trees) (part_of so_far word at i trees).value
part_holds so_far word at i trees none =
    elim (part_head_of word) as (λ k. SaysPart k word → let r : Read Parts = elim k [
      | part_heads.Parameters ↦ wrong_if (is_some so_far.params) Duplicate at
          >> (typed_of roles.Action [] [] trees >>= λ params. fine (record so_far { params = Some params }))
      | part_heads.Precondition ↦ wrong_if (is_some so_far.pre) Duplicate at
          >> (cond_of (Branch i trees) >>= λ conds. fine (record so_far { pre = Some conds }))
      | part_heads.Effect ↦ wrong_if (is_some so_far.effects) Duplicate at
          >> (effect_of (Branch i trees) >>= λ effects. fine (record so_far { effects = Some effects }))
      | part_heads.Vars ↦ wrong (Unsupported word) at >> fine so_far
      | part_heads.Other ↦ wrong Shape at >> fine so_far
    ] in r.faults ≡ [] → Puts so_far word (Branch i trees) r.value) [
      | part_heads.Parameters ↦ λ says none.
          let it = once_new (is_some so_far.params) at (typed_of roles.Action [] [] trees) none in
          let params = (typed_of roles.Action [] [] trees).value in record {
            part = Parameters params;
            is = subst (λ (w : List ℕ). IsPart w (Branch i trees) (Parameters params)) (sym says)
                (of_parameters i trees params (list_holds roles.Action trees it.1));
            place = not_there so_far.params it.0;
            put = refl;
          }
      | part_heads.Precondition ↦ λ says none.
          let it = once_new (is_some so_far.pre) at (cond_of (Branch i trees)) none in
          let conds = (cond_of (Branch i trees)).value in record {
            part = Precondition conds;
            is = subst (λ (w : List ℕ). IsPart w (Branch i trees) (Precondition conds)) (sym says)
                (of_precondition (Branch i trees) conds (cond_holds (Branch i trees) it.1));
            place = not_there so_far.pre it.0;
            put = refl;
          }
      | part_heads.Effect ↦ λ says none.
          let it = once_new (is_some so_far.effects) at (effect_of (Branch i trees)) none in
          let effects = (effect_of (Branch i trees)).value in record {
            part = Effects effects;
            is = subst (λ (w : List ℕ). IsPart w (Branch i trees) (Effects effects)) (sym says)
                (of_effect (Branch i trees) effects (effect_holds (Branch i trees) it.1));
            place = not_there so_far.effects it.0;
            put = refl;
          }
      | part_heads.Vars ↦ λ says none. cc
      | part_heads.Other ↦ λ says none. cc
    ] (part_says word) none

-- a part without a list is a fault
bare_wrong : (word : List ℕ) (at : ℕ) → (bare_part_of word at).faults ≡ [] → ⊥
bare_wrong word at none =
    elim (part_head_of word) as (λ k. let r : Read (Unit {0}) = elim k [
      | part_heads.Vars ↦ wrong (Unsupported word) at
      | _ ↦ wrong Shape at
    ] in r.faults ≡ [] → ⊥) [ part_heads.Vars ↦ λ none. cc | _ ↦ λ none. cc ] none

record AllFill (so_far : Parts) (trees : Trees) (all : Parts) : Type 0 where
  parts : List ActionPart
  each : AreParts trees parts
  fill : Fills so_far parts all

parts_hold : (so_far : Parts) (trees : Trees) → (parts_of so_far trees).faults ≡ [] → AllFill so_far trees (parts_of so_far trees).value
parts_hold so_far End none = record {
  parts = [];
  each = tt;
  fill = record {
    params = append_none (option_to_list so_far.params);
    pre = append_none (option_to_list so_far.pre);
    effects = append_none (option_to_list so_far.effects);
  };
}
parts_hold so_far (Then (Branch at trees) rest) none = cc
parts_hold so_far (Then (Leaf word at) End) none = absurd (bare_wrong word at (none_before (bare_part_of word at).faults [] none))
parts_hold so_far (Then (Leaf word at) (Then (Leaf text i) rest)) none =
    absurd (bare_wrong word at (none_before (bare_part_of word at).faults []
    (none_before ((bare_part_of word at).faults ++ []) _ none)))
parts_hold so_far (Then (Leaf word at) (Then (Branch i trees) rest)) none =
    let read = part_of so_far word at i trees in
    let it = part_holds so_far word at i trees (none_before read.faults _ none) in
    let more = parts_hold read.value rest (none_behind read.faults _ none) in
    let all = (parts_of read.value rest).value in
    record {
      parts = it.part ∷ more.parts;
      each = (it.is, more.each);
      fill = add_part so_far it.part more.parts all it.place (subst (λ (new : Parts). Fills new more.parts all) it.put more.fill);
    }

-- a word is no condition, and no effect
some_fault : {F : Type 0} (fault : F) → fault ∷ [] ≡ [] → ⊥
some_fault fault e = cc

no_condition : (text : List ℕ) (i : ℕ) (conds : List Cond) → IsCondition (Leaf text i) conds → ⊥
no_condition text i conds is = some_fault _ (ap (λ (r : Read (List Cond)). r.faults) (cond_reads (Leaf text i) conds is))

no_effect : (text : List ℕ) (i : ℕ) (effects : List EffectItem) → IsEffect (Leaf text i) effects → ⊥
no_effect text i effects is = some_fault _ (ap (λ (r : Read (List EffectItem)). r.faults) (effect_reads (Leaf text i) effects is))

part_reads : (so_far : Parts) (word : List ℕ) (at : ℕ) (value : Tree) (part : ActionPart) → IsPart word value part → HasPlace so_far part
    → valued_of so_far word at value ≡ fine (with_part so_far part)
part_reads so_far _ at _ _ (of_parameters i trees params is) free =
    once_read (is_some so_far.params) at (typed_of roles.Action [] [] trees) params (λ params. record so_far { params = Some params }) (free_place so_far.params free)
    (list_reads roles.Action trees params is)
part_reads so_far _ at (Leaf text i) _ (of_precondition _ conds is) free = absurd (no_condition text i conds is)
part_reads so_far _ at (Branch i trees) _ (of_precondition _ conds is) free =
    once_read (is_some so_far.pre) at (cond_of (Branch i trees)) conds (λ conds. record so_far { pre = Some conds }) (free_place so_far.pre free)
    (cond_reads (Branch i trees) conds is)
part_reads so_far _ at (Leaf text i) _ (of_effect _ effects is) free = absurd (no_effect text i effects is)
part_reads so_far _ at (Branch i trees) _ (of_effect _ effects is) free =
    once_read (is_some so_far.effects) at (effect_of (Branch i trees)) effects (λ effects. record so_far { effects = Some effects }) (free_place so_far.effects free)
    (effect_reads (Branch i trees) effects is)

parts_read : (so_far : Parts) (trees : Trees) (parts : List ActionPart) (all : Parts) → AreParts trees parts → Fills so_far parts all
    → parts_of so_far trees ≡ fine all
parts_read so_far End [] all each fill =
    let params = same_of so_far.params all.params fill.params in
    let pre = same_of so_far.pre all.pre fill.pre in
    let effects = same_of so_far.effects all.effects fill.effects in
    λ j. fine (record { params = params j; pre = pre j; effects = effects j })
parts_read so_far End (part ∷ parts) all each fill = absurd each
parts_read so_far (Then (Branch at trees) rest) parts all each fill = absurd each
parts_read so_far (Then (Leaf word at) End) parts all each fill = absurd each
parts_read so_far (Then (Leaf word at) (Then value rest)) [] all each fill = absurd each
parts_read so_far (Then (Leaf word at) (Then value rest)) (part ∷ parts) all (is, each) fill =
    ap (λ (r : Read Parts). r >>= λ new. parts_of new rest) (part_reads so_far word at value part is (has_place so_far part parts all fill))
    ∙ parts_read (with_part so_far part) rest parts all each (put_part so_far part parts all fill)

-- ---- actions
pub record Defines (before : List ActionText) (trees : Trees) (action : ActionText) : Type 0 where
  pub is : IsAction trees action
  pub new : list_any (bytes_eq action.name.text) (map (λ (action : ActionText). action.name.text) before) ≡ false
  pub within : leb most_declared (length (map (λ (action : ActionText). action.name.text) before)) ≡ false

pub action_holds : (before : List ActionText) (at : ℕ) (trees : Trees) → (action_of before at trees).faults ≡ []
    → Defines before trees (action_of before at trees).value
action_holds before at End none = cc
action_holds before at (Then (Branch i trees) rest) none = cc
action_holds before at (Then (Leaf text i) rest) none =
    let named = wrong_if (not (is_name text)) Shape i in
    let again = wrong_if (is_defined text before) Duplicate i in
    let here = none_before (defined_of before text i).faults _ none in
    let behind = none_behind named.faults _ here in
    let read = parts_of no_parts rest in
    let it = parts_hold no_parts rest (none_before read.faults [] (none_behind (defined_of before text i).faults _ none)) in
    record {
      is = (
        passed (is_name text) Shape i (none_before named.faults _ here),
        refl,
        record {
          parts = it.parts;
          each = it.each;
          params = once_of (params_in it.parts) read.value.params it.fill.params;
          pre = once_of (conds_in it.parts) read.value.pre it.fill.pre;
          items = unwrap_or read.value.effects [];
          effects = once_of (effects_in it.parts) read.value.effects it.fill.effects;
          changes = refl;
        },
      );
      new = has_swapped (λ (action : ActionText). action.name) text before
          ∙ not_faulty (is_defined text before) (record { kind = Duplicate; at = i }) (none_before again.faults _ behind);
      within = ap (leb most_declared) (length-map before (λ (action : ActionText). action.name.text))
          ∙ not_faulty (leb most_declared (length before)) (record { kind = TooMany most_declared; at = i }) (none_behind again.faults _ behind);
    }

pub action_reads : (before : List ActionText) (at : ℕ) (trees : Trees) (action : ActionText) (rest : List (List ℕ)) → IsAction trees action
    → AreDeclared most_declared (map (λ (action : ActionText). action.name.text) before ++ action.name.text ∷ rest)
    → action_of before at trees ≡ fine action
action_reads before at End action rest is are = absurd is
action_reads before at (Then (Branch i trees) more) action rest is are = absurd is
action_reads before at (Then (Leaf text i) more) action rest (named, name, has) are =
    let names = map (λ (action : ActionText). action.name.text) before in
    let text_is : action.name.text ≡ text = ap (λ (name : Name). name.text) name in
    let new : is_defined text before ≡ false = subst (λ (w : List ℕ). is_defined w before ≡ false) text_is
    (sym (has_swapped (λ (action : ActionText). action.name) action.name.text before) ∙ declared_new most_declared names action.name.text rest are) in
    let within : leb most_declared (length before) ≡ false =
    ap (leb most_declared) (sym (length-map before (λ (action : ActionText). action.name.text)))
    ∙ declared_within most_declared names action.name.text rest are.few in
    let params = kept_is (params_in has.parts) action.params has.params in
    let pre = kept_is (conds_in has.parts) action.pre has.pre in
    let effects = kept_is (effects_in has.parts) has.items has.effects in
    let all : Parts = record { params = kept_of (params_in has.parts); pre = kept_of (conds_in has.parts); effects = kept_of (effects_in has.parts) } in
    let read = parts_read no_parts more has.parts all has.each (record { params = params.0; pre = pre.0; effects = effects.0 }) in
    (λ j. (wrong_if (not (named j)) Shape i >> (wrong_if (new j) Duplicate i >> wrong_if (within j) (TooMany most_declared) i))
    >> (read j >>= λ parts. fine (action_from (name_at text i) parts)))
    ∙ λ j. fine (record { name = sym name j; params = params.1 j; pre = pre.1 j; effects = (ap changes_in effects.1 ∙ sym has.changes) j })
