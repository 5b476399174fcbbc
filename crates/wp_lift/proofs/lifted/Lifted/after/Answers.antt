use Rattle.std.proofs.Common.{◌∙◌, ap}
use Rattle.wp_lift.specs.declared.schemas.Schema.{Schema}
use Rattle.wp_lift.proofs.WorldLemmas.{after-is}
use Rattle.wp_lift.proofs.lifted.Lifted.after.Goals as goal

pub returns : goal.returns
returns c = after-is c.args.self.now (record { schema = c.args.schema; args = c.args.args.now }) _ _ c.args.world.now c.delete_all.new.world c.add_all.new.world
    c.as_slice-args.ensures (c.as_slice-effects.ensures ∙ ap (λ (schema : Schema). schema.effects) c.schema_at.ensures) c.in_ok-delete_all.ensures c.in_ok-add_all.ensures
