use Rattle.std.proofs.Common.{List, ℕ, subst}
use Rattle.wp_lift.specs.Walk.{Walk, Gives}
use Rattle.wp_lift.proofs.WalkLemmas.{kinds-each}
use Rattle.wp_lift.proofs.typing.kinds_of.Goals as goal

pub returns : goal.returns
returns c = let P : Walk (List ℕ) → Type 0 = λ walk. Gives c.each_kind.result walk in
    subst P (kinds-each c.args.part c.args.types.now c.args.kinds.now cc) c.each_kind.ensures
