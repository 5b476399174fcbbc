use Rattle.std.proofs.Common.{sym, subst}
use Rattle.std.specs.List.{All}
use Rattle.std.proofs.lemmas.List.Elements.{All-push}
use Rattle.wp_task.specs.Set.{AreAtoms}
use Rattle.wp_cert.proofs.states.push_state.Goals as goal

pub returns-clause-fits : goal.returns-clause-fits
returns-clause-fits c =
    subst (All (AreAtoms 65536)) (sym c.in_ok-push.ensures.items)
    (All-push (AreAtoms 65536) c.args.states.now.items c.args.atoms c.requires.before c.requires.one)
