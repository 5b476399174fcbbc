use Rattle.std.proofs.Common.{◌∙◌, List, ap, sym}
use Rattle.std.specs.List.{filter_map}
use Rattle.wp_lift.specs.declared.atoms.GroundAtom.{GroundAtom}
use Rattle.wp_lift.specs.Worlds.{among}
use Rattle.wp_ground.specs.Tasks.{numbers_of}
use Rattle.wp_ground.specs.Numbering.{number_in}
use Rattle.wp_ground.proofs.NumberLemmas.{in-order-numbers}
use Rattle.wp_ground.proofs.numbering.TaskAtoms.put_in_order.Goals as goal

pub returns : goal.returns
returns c = λ wanted found.
    in-order-numbers c.self.inside.atoms wanted c.args.numbers.now.items c.sort_unstable.new.self.items c.dedup.new.self.items
    c.self.invariant.rising (found ∙ ap (λ (atoms : List GroundAtom). filter_map (number_in atoms) wanted) (sym c.self.view_is))
    c.sort_unstable.ensures.permutation c.sort_unstable.ensures.sorted c.dedup.ensures.filtered
    ∙ ap (λ (atoms : List GroundAtom). numbers_of atoms (among wanted)) c.self.view_is
