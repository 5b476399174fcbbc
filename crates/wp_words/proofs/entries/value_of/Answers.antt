use Rattle.std.proofs.Common.{◌∙◌}
use Rattle.clap.specs.Words.{found_of}
use Rattle.clap.proofs.WalkLemmas.{first_value-rows}
use Rattle.wp_words.proofs.EntryLemmas.{is_given, is_missing}
use Rattle.wp_words.proofs.entries.value_of.Goals as goal

-- src/entries.rt:29:1
pub returns-clause-given : goal.returns-clause-given
returns-clause-given c =
    is_given _ _ (c.get_str.ensures ∙ first_value-rows (found_of c.args.matches.now) c.args.id.now)

-- src/entries.rt:29:1
pub returns-clause-missing : goal.returns-clause-missing
returns-clause-missing c =
    is_missing _ _ (c.get_str.ensures ∙ first_value-rows (found_of c.args.matches.now) c.args.id.now)
