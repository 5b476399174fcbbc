-- The kinds of watchers that a text asks for: one or more of their names, joined by single commas.
use Rattle.std.specs.Prelude.{◌==◌, ◌++◌, ℕ, Bool, true, false, List, [], ◌∷◌, codes, fold, option_map, Option, Some, None, if◌then◌else◌}
use Rattle.std.specs.List.{list_any, slice_split}
use Rattle.wp_watch.specs.declared.watch.WatchKind.{WatchKind}
use Rattle.wp_watch.specs.declared.watch.WatchKind.TheVariants.{Tally, Trace, Fronts, Silent}
use Rattle.wp_words.specs.Values.{is_word}

-- the kind of this name; silent watchers are not asked for
abbrev pub kind_of : List ℕ → Option WatchKind
kind_of name =
    if is_word name (codes "tally") then Some Tally else
    if is_word name (codes "trace") then Some Trace else
    if is_word name (codes "fronts") then Some Fronts else None

abbrev pub is_kind : WatchKind → WatchKind → Bool
is_kind Tally Tally = true
is_kind Trace Trace = true
is_kind Fronts Fronts = true
is_kind Silent Silent = true
is_kind kind other = false

-- the kinds with one more, where it is not among them
abbrev pub with_kind : List WatchKind → WatchKind → List WatchKind
with_kind kinds kind = if list_any (is_kind kind) kinds then kinds else kinds ++ kind ∷ []

-- each kind once, at its first place
abbrev pub each_once : List WatchKind → List WatchKind
each_once kinds = fold with_kind [] kinds

abbrev pub more_kinds : Option WatchKind → Option (List WatchKind) → Option (List WatchKind)
more_kinds (Some kind) (Some kinds) = Some (kind ∷ kinds)
more_kinds kind kinds = None

-- the kinds of these names; none where one of them names no kind
abbrev pub kinds_of : List (List ℕ) → Option (List WatchKind)
kinds_of [] = Some []
kinds_of (name ∷ names) = more_kinds (kind_of name) (kinds_of names)

-- the parts of a text between commas; a text without a comma is one part
abbrev pub parts_of : List ℕ → List (List ℕ)
parts_of text = slice_split (λ byte. byte == 44) text

abbrev pub kinds_in : List ℕ → Option (List WatchKind)
kinds_in text = option_map each_once (kinds_of (parts_of text))
