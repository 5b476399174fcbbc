use Rattle.std.proofs.Common.{◌≡◌, drop}
use Rattle.wp_lift.specs.Walk.{each, behind}
use Rattle.wp_syntax.specs.declared.records.Typed.{Typed}
use Rattle.wp_syntax.specs.declared.error.Part.TheVariants as parts
use Rattle.wp_lift.specs.Typing.{kinds_of}
use Rattle.wp_lift.proofs.lifting.wanted_of.Given as goal

abbrev pub invariant-loop-param : goal.invariant-loop-param
invariant-loop-param l = behind l.wanted.items (each (λ (param : Typed). kinds_of parts.Domain l.types param.kinds) (drop l.param-index l.params)) ≡ each (λ (param : Typed). kinds_of parts.Domain l.types param.kinds) l.params
