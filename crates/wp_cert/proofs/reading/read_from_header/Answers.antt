use Rattle.std.proofs.Common.{sym, subst}
use Rattle.wp_cert.specs.Format.{pieces, Gives}
use Rattle.wp_cert.proofs.LineLemmas.{some_piece, header_none, header_some}
use Rattle.wp_cert.proofs.reading.read_from_header.Goals as goal

pub returns-in-None : goal.returns-in-None
returns-in-None c =
    header_none c.args.number c.args.line.now (pieces 10 c.args.behind.now) (some_piece 10 c.args.behind.now) c.requires.header
    (sym c.in-None.ensures.value)

pub returns-in-Some : goal.returns-in-Some
returns-in-Some c =
    subst (Gives c.read_states.result)
    (sym (header_some c.args.number c.args.line.now (pieces 10 c.args.behind.now) (some_piece 10 c.args.behind.now) c.in-Some.count
    c.requires.header (sym c.in-Some.ensures.value)))
    c.read_states.ensures
