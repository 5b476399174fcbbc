-- What is asked of a run: its words, and the watchers that are handed in; and what the words make of it.
use Rattle.std.specs.Prelude.{◌||◌, ℕ, Bool, false, List, filter, map, Option, None, Some}
use Rattle.std.specs.List.{list_any}
use Rattle.wp_syntax.specs.declared.error.Part.{Part}
use Rattle.wp_syntax.specs.declared.error.Part.TheVariants as parts
use Rattle.wp_watch.specs.declared.watch.WatchKind.{WatchKind}
use Rattle.wp_watch.specs.declared.watch.WatchKind.TheVariants.{Silent}
use Rattle.wp_words.specs.declared.commands.Command.{Command}
use Rattle.wp_words.specs.declared.commands.Command.TheVariants.{Audit, Check, Gen, Ground, Plan}
use Rattle.wp_words.specs.Kinds.{is_kind}
use Rattle.wp_words.specs.Words.{command_of}

-- a watcher is told by its kind and the number of events that it wants, where it does not want all
pub record Asked : Type 0 where
  pub words : List (List ℕ)
  pub watchers : List (WatchKind × Option ℕ)

-- the same of boxes that tell their kind and that number
abbrev pub asked_by : {B : Type 0} → (B → WatchKind) → (B → Option ℕ) → List (List ℕ) → List B → Asked
asked_by kind until words boxes = record { words = words; watchers = map (λ box. (kind box, until box)) boxes }

-- a command, with the watchers that are kept for it
pub record Request : Type 0 where
  pub command : Command
  pub watchers : List (WatchKind × Option ℕ)

-- whether a command keeps the watchers of a kind: a search keeps those that its words ask for, and the silent ones
abbrev pub keeps_kind : Command → WatchKind → Bool
keeps_kind (Plan domain problem settings watch plain closed) kind = is_kind kind Silent || list_any (is_kind kind) watch
keeps_kind (Gen number size settings watch plain) kind = is_kind kind Silent || list_any (is_kind kind) watch
keeps_kind (Check domain problem plan) kind = false
keeps_kind (Ground domain problem) kind = false
keeps_kind (Audit domain problem certificate) kind = false

-- the watchers that a command keeps, in their order
abbrev pub kept_of : Command → List (WatchKind × Option ℕ) → List (WatchKind × Option ℕ)
kept_of command watchers = filter (λ (watcher : WatchKind × Option ℕ). keeps_kind command watcher.0) watchers

abbrev pub request_from : List (WatchKind × Option ℕ) → Option Command → Option Request
request_from watchers None = None
request_from watchers (Some command) = Some (record { command = command; watchers = kept_of command watchers })

abbrev pub request_of : Asked → Option Request
request_of asked = request_from asked.watchers (command_of asked.words)

-- the name of a part's file; a task that is made has none
abbrev pub file_of : Command → Part → Option (List ℕ)
file_of (Check domain problem plan) parts.Domain = Some domain
file_of (Check domain problem plan) parts.Problem = Some problem
file_of (Check domain problem plan) parts.Plan = Some plan
file_of (Check domain problem plan) parts.Certificate = None
file_of (Ground domain problem) parts.Domain = Some domain
file_of (Ground domain problem) parts.Problem = Some problem
file_of (Ground domain problem) parts.Plan = None
file_of (Ground domain problem) parts.Certificate = None
file_of (Plan domain problem settings watch plain closed) parts.Domain = Some domain
file_of (Plan domain problem settings watch plain closed) parts.Problem = Some problem
file_of (Plan domain problem settings watch plain closed) parts.Plan = None
file_of (Plan domain problem settings watch plain closed) parts.Certificate = None
file_of (Audit domain problem certificate) parts.Domain = Some domain
file_of (Audit domain problem certificate) parts.Problem = Some problem
file_of (Audit domain problem certificate) parts.Plan = None
file_of (Audit domain problem certificate) parts.Certificate = Some certificate
file_of (Gen number size settings watch plain) part = None
