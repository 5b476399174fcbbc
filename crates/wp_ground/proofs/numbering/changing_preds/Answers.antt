use Rattle.std.proofs.Common.{◌≡◌, ◌∙◌, ◌||◌, ◌==◌, ℕ, Bool, false, List, length, take, ap, sym, rules, arith}
use Rattle.std.specs.Prelude.{replicate}
use Rattle.std.specs.List.{list_any}
use Rattle.std.proofs.lemmas.List.{length-replicate, take_all}
use Rattle.std.proofs.lemmas.List.Folds.{list_any_more}
use Rattle.std.proofs.lemmas.List.FromFn.{fill_by_all}
use Rattle.wp_lift.specs.declared.schemas.Schema.{Schema}
use Rattle.wp_lift.specs.declared.schemas.SlotEffect.{SlotEffect}
use Rattle.wp_ground.specs.Numbering.{has_flag}
use Rattle.wp_ground.specs.Tasks.{changes}
use Rattle.wp_ground.proofs.NumberLemmas.{flags-none}
use Rattle.wp_ground.proofs.numbering.changing_preds.Goals as goal

names : ℕ → Schema → Bool
names p schema = list_any (λ (effect : SlotEffect). effect.atom.pred == p) schema.effects

pub loop-schema-init : goal.loop-schema-init
loop-schema-init c =
    let none : c.in_ok-changing.changing.items ≡ replicate (length c.as_slice.result.now) false = search rules in
    let count = ap length (c.as_slice.ensures ∙ c.preds.ensures.value) in
    record {
      size = ap length none ∙ length-replicate (length c.as_slice.result.now) false ∙ count;
      marked = λ p within. ap (λ (l : List Bool). has_flag l p) none ∙ flags-none (length c.as_slice.result.now) p (omega arith);
    }

pub loop-schema-preserved : goal.loop-schema-preserved
unfolding names
loop-schema-preserved c =
    let old = c.loop-schema.invariant in
    let size = old.size in
    record {
      size = c.mark_all.ensures.size ∙ size;
      marked = λ p within.
          c.mark_all.ensures.marked p (omega arith)
          ∙ (λ i. old.marked p within i || list_any (λ (effect : SlotEffect). effect.atom.pred == p) (c.as_slice-in-loop-schema.ensures i))
          ∙ ap (λ (schema : Schema). list_any (names p) (take c.loop-schema.schema-index c.as_slice-schema-items.result.now) || names p schema) c.schema-item.is
          ∙ sym (list_any_more (names p) c.as_slice-schema-items.result.now c.loop-schema.schema-index c.schema-item.result c.loop-schema-test.true);
    }

pub returns : goal.returns
returns c =
    let done = c.loop-schema.invariant in
    fill_by_all (changes c.args.lifted.now) c.loop-schema.changing.items (length c.args.lifted.now.preds) false done.size
    (λ p within. done.marked p within
    ∙ ap (list_any (λ (schema : Schema). list_any (λ (effect : SlotEffect). effect.atom.pred == p) schema.effects))
    (take_all c.loop-schema.schema-index c.as_slice-schema-items.result.now c.loop-schema-test.false ∙ c.as_slice-schema-items.ensures ∙ c.schemas.ensures.value))
