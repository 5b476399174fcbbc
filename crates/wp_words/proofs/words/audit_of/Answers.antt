use Rattle.clap.specs.Words.{app_of}
use Rattle.wp_words.proofs.LineLemmas.{audit_line-simple}
use Rattle.wp_words.proofs.words.audit_of.Goals as goal

-- src/words.rt
pub read_entries-requires : goal.read_entries-requires
read_entries-requires c = audit_line-simple (app_of c.in_ok-audit_line.field-0) c.in_ok-audit_line.ensures
