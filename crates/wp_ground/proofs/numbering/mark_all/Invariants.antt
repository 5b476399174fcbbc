use Rattle.std.proofs.Common.{◌≡◌, ◌<◌, ◌==◌, ◌||◌, ℕ, length, take}
use Rattle.std.specs.List.{list_any}
use Rattle.wp_lift.specs.declared.schemas.SlotEffect.{SlotEffect}
use Rattle.wp_ground.specs.Numbering.{has_flag}
use Rattle.wp_ground.proofs.numbering.mark_all.Given as goal

abbrev pub invariant-loop-effect : goal.invariant-loop-effect
invariant-loop-effect l = record {
  size : length l.flags.items ≡ length l.fn.flags.items;
  marked : (p : ℕ) → p < length l.fn.flags.items → has_flag l.flags.items p
      ≡ (has_flag l.fn.flags.items p || list_any (λ (effect : SlotEffect). effect.atom.pred == p) (take l.effect-index l.effects));
}
