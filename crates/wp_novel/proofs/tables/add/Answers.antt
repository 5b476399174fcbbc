use Rattle.std.proofs.Common.{◌∙◌}
use Rattle.indexmap.proofs.CallerLemmas.{insert_entry-new}
use Rattle.wp_novel.specs.NoveltyTables.{is_pair}
use Rattle.wp_novel.proofs.tables.add.Goals as goal

pub returns-clause-added : goal.returns-clause-added
returns-clause-added c = c.in_ok-insert.ensures.entries ∙ insert_entry-new is_pair c.args.homes.now c.args.pair c.args.home c.requires
