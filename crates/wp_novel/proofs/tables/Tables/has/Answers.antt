use Rattle.std.proofs.Common.{sym, ap, ◌∙◌}
use Rattle.wp_novel.specs.NoveltyTables.{TablesOver, placed, counters_of, is_open}
use Rattle.wp_novel.proofs.PairLemmas.{open_is}
use Rattle.wp_novel.proofs.tables.Tables.has.Goals as goal

pub returns : goal.returns
returns g c =
    c.contains_key.ensures ∙ (sym (open_is c.self.inside.homes.entries c.args.pair)
    ∙ ap (λ (t : TablesOver g.row.P.Denot). is_open (placed g.P.Places.places t) (counters_of c.args.pair)) c.self.view_is)
