use Rattle.std.proofs.Common.{sym, ◌∙◌}
use Rattle.wp_commit.proofs.UnseenLemmas.{unseen-kept, unseen-inserted}
use Rattle.wp_commit.proofs.unseen.insert_unseen.Goals as goal

pub returns-then-is_some : goal.returns-then-is_some
returns-then-is_some g c =
    unseen-kept c.args.nodes.now.kept c.args.reached.now.keys c.args.next c.find.result c.find.ensures.found
    (sym c.is_some.ensures ∙ c.if-is_some.true)

pub returns : goal.returns
returns g c =
    c.in_ok-insert.ensures.keys
    ∙ unseen-inserted c.args.nodes.now.kept c.args.reached.now.keys c.args.next c.find.result c.find.ensures.none
    (sym c.is_some.ensures ∙ c.if-is_some.false)
