-- The command of words: the words after the program's name, of which the first names the command. The others are read by
-- a simple command of `clap` of that name. Words that it does not take, and values of another form, have no command.
use Rattle.std.specs.Prelude.{ℕ, Bool, List, [], ◌∷◌, codes, Option, None, Some, option_and_then, if◌then◌else◌}
use Rattle.clap.specs.Walk.{Row, first_of}
use Rattle.wp_words.specs.declared.commands.Command.{Command}
use Rattle.wp_words.specs.declared.commands.Command.TheVariants.{Plan, Check, Ground, Gen, Audit}
use Rattle.wp_words.specs.declared.options.Options.{Options}
use Rattle.wp_words.specs.CommandLines.{audit_line, check_line, entries_of, gen_line, ground_line, plan_line}
use Rattle.wp_words.specs.Options.{is_set, number_of, options_in}
use Rattle.wp_words.specs.Values.{is_word}

abbrev pub plan_from : Option (List ℕ) → Option (List ℕ) → Option Options → Bool → Option Command
plan_from (Some domain) (Some problem) (Some options) closed =
    Some (Plan domain problem options.settings options.watch options.plain closed)
plan_from domain problem options closed = None

abbrev pub check_from : Option (List ℕ) → Option (List ℕ) → Option (List ℕ) → Option Command
check_from (Some domain) (Some problem) (Some plan) = Some (Check domain problem plan)
check_from domain problem plan = None

abbrev pub ground_from : Option (List ℕ) → Option (List ℕ) → Option Command
ground_from (Some domain) (Some problem) = Some (Ground domain problem)
ground_from domain problem = None

abbrev pub gen_from : Option ℕ → Option ℕ → Option Options → Option Command
gen_from (Some number) (Some size) (Some options) = Some (Gen number size options.settings options.watch options.plain)
gen_from number size options = None

abbrev pub audit_from : Option (List ℕ) → Option (List ℕ) → Option (List ℕ) → Option Command
audit_from (Some domain) (Some problem) (Some certificate) = Some (Audit domain problem certificate)
audit_from domain problem certificate = None

abbrev pub plan_in : List Row → Option Command
plan_in entries =
    plan_from (first_of (codes "domain") entries) (first_of (codes "problem") entries) (options_in entries)
    (is_set (first_of (codes "closed") entries))

abbrev pub check_in : List Row → Option Command
check_in entries =
    check_from (first_of (codes "domain") entries) (first_of (codes "problem") entries) (first_of (codes "plan") entries)

abbrev pub ground_in : List Row → Option Command
ground_in entries = ground_from (first_of (codes "domain") entries) (first_of (codes "problem") entries)

-- the number fits 32 bits, and a task has 64 places at most
abbrev pub gen_in : List Row → Option Command
gen_in entries =
    gen_from (number_of 0 4294967295 (first_of (codes "number") entries)) (number_of 1 64 (first_of (codes "size") entries)) (options_in entries)

abbrev pub audit_in : List Row → Option Command
audit_in entries =
    audit_from (first_of (codes "domain") entries) (first_of (codes "problem") entries) (first_of (codes "certificate") entries)

-- plan DOMAIN PROBLEM [options]
abbrev pub plan_of : List (List ℕ) → Option Command
plan_of words = option_and_then plan_in (entries_of plan_line words)

-- check DOMAIN PROBLEM PLAN
abbrev pub check_of : List (List ℕ) → Option Command
check_of words = option_and_then check_in (entries_of check_line words)

-- ground DOMAIN PROBLEM
abbrev pub ground_of : List (List ℕ) → Option Command
ground_of words = option_and_then ground_in (entries_of ground_line words)

-- gen NUMBER SIZE [options]
abbrev pub gen_of : List (List ℕ) → Option Command
gen_of words = option_and_then gen_in (entries_of gen_line words)

-- audit DOMAIN PROBLEM CERTIFICATE
abbrev pub audit_of : List (List ℕ) → Option Command
audit_of words = option_and_then audit_in (entries_of audit_line words)

abbrev pub command_named : List ℕ → List (List ℕ) → Option Command
command_named name words =
    if is_word name (codes "plan") then plan_of words else
    if is_word name (codes "check") then check_of words else
    if is_word name (codes "ground") then ground_of words else
    if is_word name (codes "gen") then gen_of words else
    if is_word name (codes "audit") then audit_of words else None

abbrev pub command_of : List (List ℕ) → Option Command
command_of [] = None
command_of (name ∷ words) = command_named name (name ∷ words)
