-- The commands as the crate `clap` knows them, and what its definition of a simple command makes of a list of words: an
-- entry for each argument, or nothing where it does not take the words. The first word stands for the program's name.
use Rattle.std.specs.Prelude.{ℕ, true, List, [], ◌∷◌, codes, fold, Option, Some, None, if◌then◌else◌}
use Rattle.clap.specs.Faults.{fault_of}
use Rattle.clap.specs.Simple.{App, matches_of, new_app, new_rule, with_rule}
use Rattle.clap.specs.Matches.{found_of}
use Rattle.clap.specs.Walk.{Row, Rule, is_empty, rows_of}
use Rattle.clap.specs.declared.parser.matches.ArgMatches.{ArgMatches}
use Rattle.clap.specs.declared.builder.action.ArgAction.TheVariants.{Set, SetTrue}

-- a word that has to be there
abbrev pub positional : List ℕ → Rule
positional id = record (new_rule id) { required = true; action = Some Set }

-- `--name VALUE` or `--name=VALUE`, once or not at all
abbrev pub option : List ℕ → Rule
option id = record (new_rule id) { long = Some id; action = Some Set }

-- `--name`, once or not at all
abbrev pub flag : List ℕ → Rule
flag id = record (new_rule id) { long = Some id; action = Some SetTrue }

abbrev pub with_positional : App → List ℕ → App
with_positional app id = with_rule app (positional id)

abbrev pub with_option : App → List ℕ → App
with_option app id = with_rule app (option id)

abbrev pub with_flag : App → List ℕ → App
with_flag app id = with_rule app (flag id)

-- the options whose values are numbers
abbrev pub with_numbers : App → App
with_numbers app =
    fold with_option app (codes "width" ∷ codes "budget" ∷ codes "words" ∷ codes "workers" ∷ codes "ahead" ∷ [])

-- the options of a search
abbrev pub with_options : App → App
with_options app = with_flag (with_option (with_numbers (with_option app (codes "search"))) (codes "watch")) (codes "plain")

abbrev pub with_files : App → App
with_files app = with_positional (with_positional app (codes "domain")) (codes "problem")

unfoldable pub plan_line : App
plan_line = with_flag (with_options (with_files (new_app (codes "plan")))) (codes "closed")

unfoldable pub check_line : App
check_line = with_positional (with_files (new_app (codes "check"))) (codes "plan")

unfoldable pub ground_line : App
ground_line = with_files (new_app (codes "ground"))

unfoldable pub gen_line : App
gen_line = with_options (with_positional (with_positional (new_app (codes "gen")) (codes "number")) (codes "size"))

unfoldable pub audit_line : App
audit_line = with_positional (with_files (new_app (codes "audit"))) (codes "certificate")

-- the entries of the words; none where the command does not take them
unfoldable pub entries_of : App → List (List ℕ) → Option (List Row)
entries_of app words = if is_empty (fault_of app words) then Some (matches_of app words) else None

-- the entries that `clap` found
abbrev pub entries_in : ArgMatches → List Row
entries_in matches = rows_of (found_of matches)
