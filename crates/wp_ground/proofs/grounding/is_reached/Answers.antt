use Rattle.std.proofs.Common.{◌∙◌, List, ℕ, ap}
use Rattle.wp_lift.specs.Worlds.{among}
use Rattle.wp_ground.specs.Flat.{atom_with}
use Rattle.wp_ground.proofs.TableLemmas.{found-among}
use Rattle.wp_ground.proofs.grounding.is_reached.Goals as goal

pub returns : goal.returns
returns c =
    c.is_some.ensures
    ∙ found-among c.args.reached.now (atom_with c.args.atom.now.pred c.as_slice.result.now) c.find.result c.find.ensures.within c.find.ensures.found c.find.ensures.none
    ∙ ap (λ (args : List ℕ). among c.args.reached.now (atom_with c.args.atom.now.pred args)) c.as_slice.ensures
