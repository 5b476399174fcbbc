-- The commands of small command lines, computed from their words.
use Rattle.std.specs.Prelude.{◌≡◌, ◌==◌, ℕ, Bool, true, false, List, [], ◌∷◌, map, codes, Option, Some, None, refl}
use Rattle.std.specs.List.{slice_split}
use Rattle.clap.proofs.OnLiterals.{clap_on_literals}
use Rattle.wp_plain.specs.declared.settings.Search.TheVariants.{KBfws, F5}
use Rattle.wp_plain.specs.declared.settings.Settings.{Settings}
use Rattle.wp_watch.specs.declared.watch.WatchKind.{WatchKind}
use Rattle.wp_watch.specs.declared.watch.WatchKind.TheVariants.{Tally, Trace, Fronts}
use Rattle.wp_words.specs.declared.commands.Command.{Command}
use Rattle.wp_words.specs.declared.commands.Command.TheVariants.{Plan, Check, Ground, Gen, Audit}
use Rattle.wp_words.specs.CommandLines.{audit_line, check_line, entries_of, gen_line, ground_line, plan_line}
use Rattle.wp_words.specs.Options.{options_in}
use Rattle.wp_words.specs.Words.{command_of}

-- the words between the spaces of a line
abbrev command_in : List ℕ → Option Command
command_in line = command_of (slice_split (λ byte. byte == 32) line)

-- a line and its command
abbrev Row : Type 0
Row = List ℕ × Option Command

abbrev defaults : Settings
defaults = record { search = F5; width = 2; budget = 1000000; words = 134217728; workers = 1; ahead = 0 }

abbrev planned : Settings → List WatchKind → Bool → Option Command
planned settings watch plain = Some (Plan (codes "d") (codes "p") settings watch plain false)

abbrev with_settings : Settings → Option Command
with_settings settings = planned settings [] false

no_words : command_of [] ≡ None
no_words = refl

abbrev commands : List Row
commands =
    (codes "plan d p", with_settings defaults)
    ∷ (codes "check d p q", Some (Check (codes "d") (codes "p") (codes "q")))
    ∷ (codes "ground d p", Some (Ground (codes "d") (codes "p")))
    ∷ (codes "audit d p c", Some (Audit (codes "d") (codes "p") (codes "c")))
    ∷ (codes "plan d p --closed", Some (Plan (codes "d") (codes "p") defaults [] false true))
    ∷ (codes "plan --closed d p --plain", Some (Plan (codes "d") (codes "p") defaults [] true true))
    ∷ (codes "plan d", None)
    ∷ (codes "plan d p q", None)
    ∷ (codes "check d p", None)
    ∷ (codes "check d p q r", None)
    ∷ (codes "ground d", None)
    ∷ (codes "ground d p --plain", None)
    ∷ (codes "audit d p", None)
    ∷ (codes "audit d p c --plain", None)
    ∷ (codes "gen 7 1 --closed", None)
    ∷ (codes "plan d p --closed --closed", None)
    ∷ (codes "fly", None)
    ∷ (codes "fly d p", None)
    ∷ []

commands_read : map (λ (row : Row). command_in row.0) commands ≡ map (λ (row : Row). row.1) commands
unfolding clap_on_literals plan_line audit_line check_line ground_line gen_line entries_of options_in
commands_read = refl

abbrev settings : List Row
settings =
    (codes "plan d p --search kbfws", with_settings (record defaults { search = KBfws }))
    ∷ (codes "plan d p --search f5 --width 1", with_settings (record defaults { width = 1 }))
    ∷ (codes "plan d p --width=1", with_settings (record defaults { width = 1 }))
    ∷ (
      codes "plan --budget 100000000 d --words 536870912 p --workers 64 --ahead 1024",
      with_settings (record defaults {
        budget = 100000000;
        words = 536870912;
        workers = 64;
        ahead = 1024;
      }),
    )
    ∷ (codes "plan d p --budget 00000000000000000300", with_settings (record defaults { budget = 300 }))
    ∷ (codes "plan d p --budget 000000000000000000300", None)
    ∷ (codes "plan d p --search F5", None)
    ∷ (codes "plan d p --width 0", None)
    ∷ (codes "plan d p --width 3", None)
    ∷ (codes "plan d p --budget 0", None)
    ∷ (codes "plan d p --budget 100000001", None)
    ∷ (codes "plan d p --budget +3", None)
    ∷ (codes "plan d p --words 0", None)
    ∷ (codes "plan d p --words 536870913", None)
    ∷ (codes "plan d p --workers 0", None)
    ∷ (codes "plan d p --workers 65", None)
    ∷ (codes "plan d p --ahead 1025", None)
    ∷ (codes "plan d p --ahead", None)
    ∷ []

settings_read : map (λ (row : Row). command_in row.0) settings ≡ map (λ (row : Row). row.1) settings
unfolding clap_on_literals plan_line audit_line check_line ground_line gen_line entries_of options_in
settings_read = refl

abbrev watchers : List Row
watchers = (
  codes "plan d p --search kbfws --width 1 --watch fronts,tally,fronts",
  planned (record defaults { search = KBfws; width = 1 }) (Fronts ∷ Tally ∷ []) false,
)
    ∷ (codes "plan d p --watch=tally,trace,fronts", planned defaults (Tally ∷ Trace ∷ Fronts ∷ []) false)
    ∷ (codes "plan --plain d p", planned defaults [] true)
    ∷ (codes "plan d p --watch trace --plain", planned defaults (Trace ∷ []) true)
    ∷ (codes "plan d p --watch tally,", None)
    ∷ (codes "plan d p --watch ,tally", None)
    ∷ (codes "plan d p --watch tally,,trace", None)
    ∷ (codes "plan d p --watch=", None)
    ∷ (codes "plan d p --watch silent", None)
    ∷ []

watchers_read : map (λ (row : Row). command_in row.0) watchers ≡ map (λ (row : Row). row.1) watchers
unfolding clap_on_literals plan_line audit_line check_line ground_line gen_line entries_of options_in
watchers_read = refl

-- what `clap` makes of names that are given twice or cut short, of calls for help, and of words that begin with `-`
abbrev dashes : List Row
dashes =
    (codes "plan d p --plain --plain", None)
    ∷ (codes "plan d p --width 1 --width 1", None)
    ∷ (codes "plan d p --plain=true", None)
    ∷ (codes "plan d p --wid 1", None)
    ∷ (codes "plan d p --help", None)
    ∷ (codes "plan d p -h", None)
    ∷ (codes "plan d p --version", None)
    ∷ (codes "check --help p q", None)
    ∷ (codes "plan d p --ahead -1", None)
    ∷ (codes "ground - p", Some (Ground (codes "-") (codes "p")))
    ∷ (codes "ground -- --plain -h", Some (Ground (codes "--plain") (codes "-h")))
    ∷ (codes "ground  p", Some (Ground [] (codes "p")))
    ∷ []

dashes_read : map (λ (row : Row). command_in row.0) dashes ≡ map (λ (row : Row). row.1) dashes
unfolding clap_on_literals plan_line audit_line check_line ground_line gen_line entries_of options_in
dashes_read = refl

-- numbers and sizes, at the ends of their ranges and past them
abbrev generated : ℕ → ℕ → Option Command
generated number size = Some (Gen number size defaults [] false)

abbrev tasks : List Row
tasks =
    (codes "gen 7 1", generated 7 1)
    ∷ (codes "gen 4294967295 64", generated 4294967295 64)
    ∷ (codes "gen 0 00000000000000000064", generated 0 64)
    ∷ (codes "gen --plain 1 20 --budget 2000 --watch tally", Some (Gen 1 20 (record defaults { budget = 2000 }) (Tally ∷ []) true))
    ∷ (codes "gen 4294967296 1", None)
    ∷ (codes "gen 0 0", None)
    ∷ (codes "gen 0 65", None)
    ∷ (codes "gen -1 1", None)
    ∷ (codes "gen seven 1", None)
    ∷ (codes "gen 7", None)
    ∷ (codes "gen 7 1 1", None)
    ∷ (codes "gen 7 1 --size 1", None)
    ∷ []

tasks_read : map (λ (row : Row). command_in row.0) tasks ≡ map (λ (row : Row). row.1) tasks
unfolding clap_on_literals plan_line audit_line check_line ground_line gen_line entries_of options_in
tasks_read = refl
