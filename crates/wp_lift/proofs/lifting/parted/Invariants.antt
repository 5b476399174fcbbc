use Rattle.std.proofs.Common.{◌≡◌, map}
use Rattle.wp_lift.specs.declared.lifting.TypedSchema.{TypedSchema}
use Rattle.wp_lift.proofs.lifting.parted.Given as goal

abbrev pub invariant-loop-typed : goal.invariant-loop-typed
invariant-loop-typed l = (l.schemas.items ≡ map (λ (typed : TypedSchema). typed.schema) l.yielded) × (l.wanted.items ≡ map (λ (typed : TypedSchema). typed.wanted) l.yielded)
