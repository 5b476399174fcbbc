use Rattle.clap.specs.Words.{app_of}
use Rattle.wp_words.proofs.LineLemmas.{plan_line-simple}
use Rattle.wp_words.proofs.words.plan_of.Goals as goal

-- src/words.rt
pub read_entries-requires : goal.read_entries-requires
read_entries-requires c = plan_line-simple (app_of c.in_ok-plan_line.field-0) c.in_ok-plan_line.ensures
