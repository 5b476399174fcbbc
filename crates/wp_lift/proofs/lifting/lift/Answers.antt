use Rattle.std.proofs.Common.{◌∙◌, ap, sym}
use Rattle.std.proofs.lemmas.Result.{err_from_is_err_and}
use Rattle.wp_lift.specs.Walk.{fine}
use Rattle.wp_lift.proofs.FormedLemmas.{made-formed}
use Rattle.wp_lift.proofs.LiftLemmas.{scene-fails, schemas-fail, facts-fail, all-fine}
use Rattle.wp_lift.proofs.lifting.lift.Goals as goal

pub returns-in_err-scene : goal.returns-in_err-scene
returns-in_err-scene c =
    let p = err_from_is_err_and c.from_residual.result c.from_residual.ensures.1 in
    rw (p.1, p.2) (scene-fails c.args.domain.now c.args.problem.now _ c.in_err-scene.ensures)

pub returns-in_err-typed : goal.returns-in_err-typed
returns-in_err-typed c =
    let p = err_from_is_err_and c.from_residual-in_err-typed.result c.from_residual-in_err-typed.ensures.1 in
    rw (p.1, p.2) (schemas-fail c.args.domain.now c.args.problem.now c.in_ok-scene.scene _ c.in_ok-scene.ensures (rw c.as_slice.ensures at c.in_err-typed.ensures))

pub returns-in_err-facts : goal.returns-in_err-facts
returns-in_err-facts c =
    let p = err_from_is_err_and c.from_residual-in_err-facts.result c.from_residual-in_err-facts.ensures.1 in
    rw (p.1, p.2) (facts-fail c.args.domain.now c.args.problem.now c.in_ok-scene.scene _ _ c.in_ok-scene.ensures (rw c.as_slice.ensures at c.in_ok-typed.ensures) c.in_err-facts.ensures)

pub assembled-requires : goal.assembled-requires
assembled-requires c =
    rw c.as_slice-2.ensures (made-formed c.args.domain.now c.args.problem.now _
    (all-fine c.args.domain.now c.args.problem.now c.in_ok-scene.scene _ _ c.in_ok-scene.ensures (rw c.as_slice.ensures at c.in_ok-typed.ensures) c.in_ok-facts.ensures))

pub returns : goal.returns
returns c =
    all-fine c.args.domain.now c.args.problem.now c.in_ok-scene.scene _ _ c.in_ok-scene.ensures (rw c.as_slice.ensures at c.in_ok-typed.ensures) c.in_ok-facts.ensures
    ∙ ap fine (sym (rw c.as_slice-2.ensures at c.in_ok-lifted.ensures))
