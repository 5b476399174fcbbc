use Rattle.clap.specs.Words.{app_of}
use Rattle.wp_words.proofs.LineLemmas.{gen_line-simple}
use Rattle.wp_words.proofs.words.gen_of.Goals as goal

-- src/words.rt
pub read_entries-requires : goal.read_entries-requires
read_entries-requires c = gen_line-simple (app_of c.in_ok-gen_line.field-0) c.in_ok-gen_line.ensures
