-- The text of a watcher: a function of its kind and of the events that it was told, in order.
-- Each line ends with a line feed; numbers are plain decimal.
use Rattle.std.specs.Prelude.{ℕ, ◌-◌, Bool, true, false, nat_lt, List, [], ◌∷◌, ◌++◌, length, codes, decimal, if◌then◌else◌}
use Rattle.std.specs.List.{flat_map, list_all}
use Rattle.wp_watch.specs.declared.event.Born.{Born}
use Rattle.wp_watch.specs.declared.event.Event.{Event}
use Rattle.wp_watch.specs.declared.watch.WatchKind.{WatchKind}
use Rattle.wp_watch.specs.declared.watch.WatchKind.TheVariants.{Tally, Trace, Fronts, Silent}
use Rattle.wp_watch.specs.Sums.{born_in, kept_in, repeats_in}

abbrev pub line : List ℕ → List ℕ
line text = text ++ 10 ∷ []

-- the counts of all events
unfoldable pub tally_text : List Event → List ℕ
tally_text events =
    line (codes "; tally events " ++ decimal (length events) ++ codes " born " ++ decimal (born_in events)
    ++ codes " kept " ++ decimal (kept_in events) ++ codes " pruned " ++ decimal (born_in events - kept_in events)
    ++ codes " repeats " ++ decimal (repeats_in events))

abbrev pub fate_text : Bool → List ℕ
fate_text true = codes " kept"
fate_text false = codes " pruned"

-- a node that was born
unfoldable pub born_line : Born → List ℕ
born_line born =
    line (codes "; born " ++ decimal born.number ++ codes " act " ++ decimal born.act ++ codes " w " ++ decimal born.w
    ++ codes " g " ++ decimal born.g ++ codes " r " ++ decimal born.r ++ fate_text born.kept)

-- the node that was expanded
unfoldable pub expansion_line : Event → List ℕ
expansion_line event =
    line (codes "; expand " ++ decimal event.number ++ codes " w " ++ decimal event.w ++ codes " g " ++ decimal event.g
    ++ codes " r " ++ decimal event.r ++ codes " repeats " ++ decimal event.repeats)

abbrev pub event_lines : Event → List ℕ
event_lines event = expansion_line event ++ flat_map born_line event.born

-- each expansion with its children
unfoldable pub trace_text : List Event → List ℕ
trace_text events = flat_map event_lines events

-- #g is less than that of every earlier event
abbrev pub is_front : List Event → ℕ → Bool
is_front earlier g = list_all (λ (event : Event). nat_lt g event.g) earlier

unfoldable pub front_line : Event → List ℕ
front_line event = line (codes "; front g " ++ decimal event.g ++ codes " at " ++ decimal event.number)

-- the lines of the events that come after the earlier ones
abbrev pub fronts_after : List Event → List Event → List ℕ
fronts_after earlier [] = []
fronts_after earlier (event ∷ rest) =
    (if is_front earlier event.g then front_line event else []) ++ fronts_after (earlier ++ event ∷ []) rest

-- the events that have fewer unmet goals than all before
unfoldable pub fronts_text : List Event → List ℕ
fronts_text events = fronts_after [] events

unfoldable pub says : WatchKind → List Event → List ℕ
says Tally events = tally_text events
says Trace events = trace_text events
says Fronts events = fronts_text events
says Silent events = []
