use Rattle.std.proofs.Common.{rules, ◌≡◌, ◌++◌, true, false, List, map, sym, ap, ◌∙◌, subst}
use Rattle.wp_novel.specs.declared.birth.Pair.{Pair}
use Rattle.wp_novel.specs.NoveltyTables.{placed, counters_of, open_pairs}
use Rattle.wp_commit.specs.Newborns.{AreUnopened}
use Rattle.wp_commit.proofs.PairLemmas.{with_pair-open, with_pair-inserted, unopened_inserted}
use Rattle.wp_commit.proofs.pairs.add_pair.Goals as goal

pub returns-in_ok-insert-clause-pairs : goal.returns-in_ok-insert-clause-pairs
returns-in_ok-insert-clause-pairs g c =
    let closed : c.has.result ≡ false = search rules in
    ap (λ (ps : List Pair). open_pairs (placed g.P.Places.places c.args.tables.now) ++ map counters_of ps) c.in_ok-insert.ensures.keys
    ∙ with_pair-inserted (open_pairs (placed g.P.Places.places c.args.tables.now)) c.args.pairs.now.keys c.args.pair (sym c.has.ensures ∙ closed)

pub returns-in_ok-insert-clause-unopened : goal.returns-in_ok-insert-clause-unopened
returns-in_ok-insert-clause-unopened g c =
    let closed : c.has.result ≡ false = search rules in
    subst (λ (ps : List Pair). AreUnopened (open_pairs (placed g.P.Places.places c.args.tables.now)) (map counters_of ps)) (sym c.in_ok-insert.ensures.keys)
    (unopened_inserted (open_pairs (placed g.P.Places.places c.args.tables.now)) c.args.pairs.now.keys c.args.pair (sym c.has.ensures ∙ closed) c.requires)

pub returns-else-not-has-clause-pairs : goal.returns-else-not-has-clause-pairs
returns-else-not-has-clause-pairs g c =
    let there : c.has.result ≡ true = search rules in
    with_pair-open (open_pairs (placed g.P.Places.places c.args.tables.now)) c.args.pairs.now.keys c.args.pair (sym c.has.ensures ∙ there)
