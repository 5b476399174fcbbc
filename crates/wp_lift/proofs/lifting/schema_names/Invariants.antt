use Rattle.std.proofs.Common.{◌≡◌, map, take}
use Rattle.wp_lift.specs.declared.schemas.Schema.{Schema}
use Rattle.wp_lift.proofs.lifting.schema_names.Given as goal

abbrev pub invariant-loop-schema : goal.invariant-loop-schema
invariant-loop-schema l = l.names ≡ map (λ (schema : Schema). schema.name) (take l.schema-index l.schemas)
