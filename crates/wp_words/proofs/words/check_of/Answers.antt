use Rattle.clap.specs.Words.{app_of}
use Rattle.wp_words.proofs.LineLemmas.{check_line-simple}
use Rattle.wp_words.proofs.words.check_of.Goals as goal

-- src/words.rt
pub read_entries-requires : goal.read_entries-requires
read_entries-requires c = check_line-simple (app_of c.in_ok-check_line.field-0) c.in_ok-check_line.ensures
