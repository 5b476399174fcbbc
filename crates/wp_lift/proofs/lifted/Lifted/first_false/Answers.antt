use Rattle.std.proofs.Common.{◌<◌, ℕ, Option, length, not, ◌∙◌, ap, sym, subst, IfSome}
use Rattle.wp_lift.specs.declared.schemas.Schema.{Schema}
use Rattle.wp_lift.specs.declared.schemas.SlotCond.{SlotCond}
use Rattle.wp_lift.specs.Problem.{schema_at}
use Rattle.wp_lift.specs.Worlds.{among, holds}
use Rattle.wp_lift.proofs.PlaceLemmas.{position-in}
use Rattle.wp_lift.proofs.WorldLemmas.{first_false-is}
use Rattle.wp_lift.proofs.lifted.Lifted.first_false.Goals as goal

pub returns-clause-value : goal.returns-clause-value
returns-clause-value c = first_false-is c.args.self.now (record { schema = c.args.schema; args = c.args.args.now }) (among c.args.world.now) _ _ _
    c.as_slice.ensures (c.as_slice-conds.ensures ∙ ap (λ (schema : Schema). schema.conds) c.schema_at.ensures) c.in_ok-place.ensures

pub returns-clause-in_range : goal.returns-clause-in_range
returns-clause-in_range c =
    let conds = (schema_at c.args.self.now c.args.schema).conds in
    let P : Option ℕ → Type 0 = λ found. IfSome found (λ place. place < length conds) in
    subst P (sym (returns-clause-value c)) (position-in (λ (cond : SlotCond). not (holds c.args.args.now (among c.args.world.now) cond)) conds)
