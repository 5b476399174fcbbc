-- What is left gives the answer.
use Rattle.std.proofs.Common.{◌≡◌, not, drop}
use Rattle.std.specs.List.{position_from}
use Rattle.wp_lift.specs.Worlds.{among, holds}
use Rattle.wp_lift.proofs.meaning.first_false.Given as goal

abbrev pub invariant-loop-place : goal.invariant-loop-place
invariant-loop-place l =
    position_from (λ cond. not (holds l.args (among l.world) cond)) 0 l.conds
    ≡ position_from (λ cond. not (holds l.args (among l.world) cond)) l.place (drop l.place l.conds)
