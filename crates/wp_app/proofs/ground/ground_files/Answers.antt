use Rattle.std.proofs.lemmas.Result.{err_from_is_err_and}
use Rattle.wp_app.specs.Table.{answer_to_ground}
use Rattle.wp_app.proofs.StepLemmas.{stops, goes_on_to}
use Rattle.wp_app.proofs.ground.ground_files.Goals as goal

pub returns-in_err-texts-clause-follows : goal.returns-in_err-texts-clause-follows
unfolding answer_to_ground
returns-in_err-texts-clause-follows g c =
    let p = err_from_is_err_and c.from_residual.result c.from_residual.ensures.1 in
    rw (p.1, p.2) (stops _ c.in_err-texts.ensures.follows)

pub returns-clause-follows : goal.returns-clause-follows
unfolding answer_to_ground
returns-clause-follows g c = goes_on_to _ c.in_ok-texts.ensures.follows c.numbered.ensures.meets
