use Rattle.std.proofs.Common.{◌∙◌, List, ap}
use Rattle.wp_lift.specs.declared.atoms.GroundAtom.{GroundAtom}
use Rattle.wp_ground.specs.Flat.{atom_with}
use Rattle.wp_ground.specs.Numbering.{number_in}
use Rattle.wp_ground.proofs.NumberLemmas.{number-is}
use Rattle.wp_ground.proofs.numbering.TaskAtoms.number_of.Goals as goal

pub returns : goal.returns
returns c =
    number-is c.self.inside.atoms (atom_with c.args.pred c.args.args.now) c.find.result c.self.invariant.rising
    c.find.ensures.within c.find.ensures.found c.find.ensures.none
    ∙ ap (λ (atoms : List GroundAtom). number_in atoms (atom_with c.args.pred c.args.args.now)) c.self.view_is
