use Rattle.std.proofs.Common.{◌++◌, [], ℕ, List, Option, ap, ◌∙◌}
use Rattle.std.specs.List.{cons_option, filter_map}
use Rattle.std.proofs.lemmas.List.{take_all}
use Rattle.wp_ground.specs.Flat.{atom_with}
use Rattle.wp_ground.specs.Numbering.{number_in}
use Rattle.wp_ground.proofs.NumberLemmas.{numbers-more}
use Rattle.wp_ground.proofs.numbering.TaskAtoms.numbers.Goals as goal

pub loop-atom-preserved : goal.loop-atom-preserved
loop-atom-preserved c =
    numbers-more c.args.self.now c.args.wanted.now c.loop-atom.atom-index c.atom-item.result c.loop-atom.numbers.items c.push_some.new.numbers.items
    c.loop-atom-test.true c.atom-item.is c.loop-atom.invariant
    (c.in_ok-push_some.ensures ∙ ap (λ (o : Option ℕ). c.loop-atom.numbers.items ++ cons_option o [])
    (c.number_of.ensures ∙ ap (λ (args : List ℕ). number_in c.args.self.now (atom_with c.atom-item.result.pred args)) c.as_slice.ensures))

pub returns : goal.returns
returns c =
    c.of_vec.ensures
    ∙ c.put_in_order.ensures c.args.wanted.now
    (c.loop-atom.invariant ∙ ap (filter_map (number_in c.args.self.now)) (take_all c.loop-atom.atom-index c.args.wanted.now c.loop-atom-test.false))
