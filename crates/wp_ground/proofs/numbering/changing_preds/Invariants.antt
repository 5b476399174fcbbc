use Rattle.std.proofs.Common.{◌≡◌, ◌<◌, ◌==◌, ℕ, length, take}
use Rattle.std.specs.List.{list_any}
use Rattle.wp_lift.specs.declared.schemas.Schema.{Schema}
use Rattle.wp_lift.specs.declared.schemas.SlotEffect.{SlotEffect}
use Rattle.wp_ground.specs.Numbering.{has_flag}
use Rattle.wp_ground.proofs.numbering.changing_preds.Given as goal

abbrev pub invariant-loop-schema : goal.invariant-loop-schema
invariant-loop-schema l = record {
  size : length l.changing.items ≡ length l.lifted.preds;
  marked : (p : ℕ) → p < length l.lifted.preds → has_flag l.changing.items p
      ≡ list_any (λ (schema : Schema). list_any (λ (effect : SlotEffect). effect.atom.pred == p) schema.effects) (take l.schema-index l.schema-items);
}
