-- A task that is made of a number and a size is never refused: whatever the number, its texts have no fault of reading or of names.
use Rattle.std.specs.Prelude.{◌≡◌, ℕ, Bool, true, false, List}
use Rattle.wp_edge.specs.Fetch.{Contents}
use Rattle.wp_plain.specs.declared.settings.Search.{Search}
use Rattle.wp_plain.specs.declared.settings.Settings.{Settings}
use Rattle.wp_watch.specs.declared.watch.WatchKind.{WatchKind}
use Rattle.wp_words.specs.declared.commands.Command.TheVariants.{Gen}
use Rattle.wp_words.specs.Names.{IsSize}
use Rattle.wp_app.specs.declared.reply.Reply.{Reply}
use Rattle.wp_app.specs.declared.reply.Status.{Status}
use Rattle.wp_app.specs.declared.reply.Status.TheVariants as statuses
use Rattle.wp_app.specs.Requests.{Asked}
use Rattle.wp_app.specs.Meanings.{IsAnswered, is_of_search}

-- the statuses of a search, but that of a refusal
abbrev pub is_of_made : Search → Status → Bool
is_of_made search statuses.Refused = false
is_of_made search status = is_of_search search status

abbrev pub MadeTasksAreNotRefused : Type 0
MadeTasksAreNotRefused =
    (asked : Asked) (files : Contents) (number size : ℕ) (settings : Settings) (watch : List WatchKind) (plain : Bool) (reply : Reply)
    → IsAnswered asked files (Gen number size settings watch plain) reply → IsSize size
    → is_of_made settings.search reply.status ≡ true
