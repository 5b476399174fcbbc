use Rattle.std.proofs.Common.{◌≡◌, ◌∙◌, map, string_bytes}
use Rattle.clap.specs.Words.{app_of, found_of, rows_of}
use Rattle.wp_words.specs.declared.error.WordsError.TheVariants.{Usage}
use Rattle.wp_words.proofs.EntryLemmas.{entries_of-refused, entries_of-taken}
use Rattle.wp_words.proofs.entries.read_entries.Goals as goal

-- src/entries.rt:20:1
pub returns-in-Ok-clause-ok : goal.returns-in-Ok-clause-ok
returns-in-Ok-clause-ok c =
    entries_of-taken (app_of c.args.line) (map string_bytes c.args.words.now) (rows_of (found_of c.in-Ok.matches)) c.requires
    c.in-Ok.ensures.kinds c.in-Ok.ensures.matches

-- src/entries.rt:13:1
pub returns-in-Err-clause-usage : goal.returns-in-Err-clause-usage
returns-in-Err-clause-usage c =
    λ refused. let usage : c.words_error.result ≡ Usage = cc in
    entries_of-refused (app_of c.args.line) (map string_bytes c.args.words.now) c.in-Err.error c.requires c.in-Err.ensures.kinds
    (λ memory. c.words_error.ensures usage (c.kind.ensures ∙ memory))
