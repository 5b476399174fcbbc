use Rattle.std.proofs.Common.{◌∙◌, ap, sym}
use Rattle.std.proofs.Math.ListN.{drop_of_length-le}
use Rattle.wp_cert.specs.Audits.{foreign_from}
use Rattle.wp_cert.proofs.FoundLemmas.{none_foreign}
use Rattle.wp_cert.proofs.auditing.first_foreign.Goals as goal

pub returns-clause-none : goal.returns-clause-none
returns-clause-none c =
    none_foreign c.args.task.now.atoms 0 c.args.states.now
    (sym c.loop-number.invariant
    ∙ ap (foreign_from c.args.task.now.atoms c.loop-number.number) (drop_of_length-le c.args.states.now c.loop-number-test.false))
