use Rattle.std.proofs.Common.{slice_set, true, ap, ◌∙◌}
use Rattle.wp_lift.proofs.FlagLemmas.{flags-own}
use Rattle.wp_lift.proofs.closure.flags_of.Goals as goal

pub returns : goal.returns
returns c =
    c.set-2.ensures
    ∙ ap (λ flags. slice_set flags c.args.a true) (c.set.ensures ∙ ap (λ flags. slice_set flags 0 true) c.in_ok-flags.ensures)
    ∙ flags-own c.args.count c.args.a
