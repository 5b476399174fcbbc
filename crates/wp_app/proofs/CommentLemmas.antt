-- The line of a plan that is found, and all that watchers say, are comments: of each line no byte but the last is a line feed.
use Rattle.std.proofs.Common.{◌≡◌, ℕ, zero, suc, ◌+◌, ◌-◌, ◌/◌, ◌%◌, ◌==◌, Bool, true, false, not, ◌&&◌, List, [], ◌∷◌, ◌++◌, length, refl, sym, ap, ◌∙◌, arith, if◌then◌else◌}
use Rattle.std.specs.Prelude.{codes, decimal, nat_lt, Option}
use Rattle.std.specs.List.{flat_map, list_all}
use Rattle.std.specs.Fmt.{digit_glyph, digits, digits_onto}
use Rattle.std.proofs.lemmas.Bool.{ne_eqb}
use Rattle.std.proofs.lemmas.List.{append-nil}
use Rattle.std.proofs.lemmas.List.Folds.{list_all-append}
use Rattle.std.proofs.lemmas.List.Elements.{All-from_recursion}
use Rattle.wp_plain.specs.declared.ending.Counts.{Counts}
use Rattle.wp_check.specs.PlanText.{line, is_comment, AreComments, CommentsJoin}
use Rattle.wp_watch.specs.declared.event.Born.{Born}
use Rattle.wp_watch.specs.declared.event.Event.{Event}
use Rattle.wp_watch.specs.declared.watch.WatchKind.{WatchKind}
use Rattle.wp_watch.specs.declared.watch.WatchKind.TheVariants.{Tally, Trace, Fronts, Silent}
use Rattle.wp_watch.specs.Sums.{born_in, kept_in, repeats_in}
use Rattle.wp_watch.specs.Texts.{tally_text, fate_text, born_line, expansion_line, event_lines, trace_text, is_front, front_line, fronts_after, fronts_text, says}
use Rattle.wp_watch.specs.Places.{texts_after, wanted_of}
use Rattle.wp_report.specs.Endings.{counts_text, found_text}

-- no line feed
abbrev runs_on : ℕ → Bool
runs_on byte = not (byte == 10)

abbrev IsOneLine : List ℕ → Type 0
IsOneLine text = list_all runs_on text ≡ true

joined : (xs ys : List ℕ) → IsOneLine xs → IsOneLine ys → IsOneLine (xs ++ ys)
joined xs ys front back = list_all-append runs_on xs ys ∙ (λ j. front j && back j)

-- ---- numbers
glyph_by : (small : Bool) (d : ℕ) → runs_on (if small then 48 + d else 87 + d) ≡ true
glyph_by true d = ap not (ne_eqb (48 + d) 10 (λ (e : 48 + d ≡ 10). omega arith))
glyph_by false d = ap not (ne_eqb (87 + d) 10 (λ (e : 87 + d ≡ 10). omega arith))

one_of : (first : Bool) (xs ys : List ℕ) → IsOneLine xs → IsOneLine ys → IsOneLine (if first then xs else ys)
one_of true xs ys front back = front
one_of false xs ys front back = back

digits_run : (k n : ℕ) (rest : List ℕ) → IsOneLine rest → IsOneLine (digits_onto k 10 false n rest)
digits_run zero n rest h = h
digits_run (suc k) n rest h =
    let last = digit_glyph false (n % 10) ∷ rest in
    let here : IsOneLine last = λ j. glyph_by (nat_lt (n % 10) 10) (n % 10) j && h j in
    one_of (n / 10 == 0) last (digits_onto k 10 false (n / 10) last) here (digits_run k (n / 10) last here)

number_runs : (n : ℕ) → IsOneLine (decimal n)
unfolding digits
number_runs n = digits_run 64 n [] refl

-- ---- counts
-- a number behind a word, at the end of a line
counted : (line word : List ℕ) (n : ℕ) → IsOneLine line → IsOneLine word → IsOneLine (line ++ word ++ decimal n)
counted line word n front middle = joined (line ++ word) (decimal n) (joined line word front middle) (number_runs n)

counts_run : (counts : Counts) → IsOneLine (counts_text counts)
unfolding counts_text
counts_run counts =
    let to_expanded = codes "expanded " ++ decimal counts.expanded in
    let to_numbered = to_expanded ++ codes " numbered " ++ decimal counts.numbered in
    let to_kept = to_numbered ++ codes " kept " ++ decimal counts.kept in
    let to_pruned = to_kept ++ codes " pruned " ++ decimal counts.pruned in
    let to_repeats = to_pruned ++ codes " repeats " ++ decimal counts.repeats in
    counted to_repeats (codes " pairs ") counts.pairs
    (counted to_pruned (codes " repeats ") counts.repeats
    (counted to_kept (codes " pruned ") counts.pruned
    (counted to_numbered (codes " kept ") counts.kept
    (counted to_expanded (codes " numbered ") counts.numbered
    (joined (codes "expanded ") (decimal counts.expanded) refl (number_runs counts.expanded)) refl) refl) refl) refl) refl

-- the line of a plan that is found, with the counts of a search
pub found_is_comment : (steps : ℕ) (counts : Counts) → AreComments (found_text steps counts)
unfolding found_text
found_is_comment steps counts =
    let text = codes "; found steps " ++ decimal steps ++ codes " " ++ counts_text counts in
    let front = codes " found steps " ++ decimal steps in
    let is : is_comment text ≡ true =
    joined (front ++ codes " ") (counts_text counts)
    (joined front (codes " ") (joined (codes " found steps ") (decimal steps) refl (number_runs steps)) refl) (counts_run counts) in (
      text ∷ [],
      All-from_recursion (λ (one : List ℕ). is_comment one ≡ true) (text ∷ []) (is, tt),
      sym (append-nil (line text)),
    )

-- ---- watchers
-- one comment, which runs on to its end
commented : (rest : List ℕ) → IsOneLine rest → AreComments (line (59 ∷ rest))
commented rest h = (
  (59 ∷ rest) ∷ [],
  All-from_recursion (λ (one : List ℕ). is_comment one ≡ true) ((59 ∷ rest) ∷ []) (h, tt),
  sym (append-nil (line (59 ∷ rest))),
)

no_comments : AreComments []
no_comments = ([], All-from_recursion (λ (one : List ℕ). is_comment one ≡ true) [] tt, refl)

-- texts of comments, one behind another
all_comments : CommentsJoin → {X : Type 0} (f : X → List ℕ) → ((x : X) → AreComments (f x)) → (xs : List X) → AreComments (flat_map f xs)
all_comments join f each [] = no_comments
all_comments join f each (x ∷ xs) = join (f x) (flat_map f xs) (each x) (all_comments join f each xs)

tally_comment : (events : List Event) → AreComments (tally_text events)
unfolding tally_text
tally_comment events =
    let to_events = codes " tally events " ++ decimal (length events) in
    let to_born = to_events ++ codes " born " ++ decimal (born_in events) in
    let to_kept = to_born ++ codes " kept " ++ decimal (kept_in events) in
    let to_pruned = to_kept ++ codes " pruned " ++ decimal (born_in events - kept_in events) in
    commented (to_pruned ++ codes " repeats " ++ decimal (repeats_in events))
    (counted to_pruned (codes " repeats ") (repeats_in events)
    (counted to_kept (codes " pruned ") (born_in events - kept_in events)
    (counted to_born (codes " kept ") (kept_in events)
    (counted to_events (codes " born ") (born_in events)
    (joined (codes " tally events ") (decimal (length events)) refl (number_runs (length events))) refl) refl) refl) refl)

fate_runs : (kept : Bool) → IsOneLine (fate_text kept)
fate_runs true = refl
fate_runs false = refl

born_comment : (born : Born) → AreComments (born_line born)
unfolding born_line
born_comment born =
    let to_number = codes " born " ++ decimal born.number in
    let to_act = to_number ++ codes " act " ++ decimal born.act in
    let to_w = to_act ++ codes " w " ++ decimal born.w in
    let to_g = to_w ++ codes " g " ++ decimal born.g in
    let to_r = to_g ++ codes " r " ++ decimal born.r in
    commented (to_r ++ fate_text born.kept)
    (joined to_r (fate_text born.kept)
    (counted to_g (codes " r ") born.r
    (counted to_w (codes " g ") born.g
    (counted to_act (codes " w ") born.w
    (counted to_number (codes " act ") born.act
    (joined (codes " born ") (decimal born.number) refl (number_runs born.number)) refl) refl) refl) refl)
    (fate_runs born.kept))

expansion_comment : (event : Event) → AreComments (expansion_line event)
unfolding expansion_line
expansion_comment event =
    let to_number = codes " expand " ++ decimal event.number in
    let to_w = to_number ++ codes " w " ++ decimal event.w in
    let to_g = to_w ++ codes " g " ++ decimal event.g in
    let to_r = to_g ++ codes " r " ++ decimal event.r in
    commented (to_r ++ codes " repeats " ++ decimal event.repeats)
    (counted to_r (codes " repeats ") event.repeats
    (counted to_g (codes " r ") event.r
    (counted to_w (codes " g ") event.g
    (counted to_number (codes " w ") event.w
    (joined (codes " expand ") (decimal event.number) refl (number_runs event.number)) refl) refl) refl) refl)

trace_comments : CommentsJoin → (events : List Event) → AreComments (trace_text events)
unfolding trace_text
trace_comments join events = all_comments join event_lines
    (λ (event : Event). join (expansion_line event) (flat_map born_line event.born) (expansion_comment event) (all_comments join born_line born_comment event.born)) events

front_comment : (event : Event) → AreComments (front_line event)
unfolding front_line
front_comment event =
    let to_g = codes " front g " ++ decimal event.g in
    commented (to_g ++ codes " at " ++ decimal event.number)
    (counted to_g (codes " at ") event.number (joined (codes " front g ") (decimal event.g) refl (number_runs event.g)) refl)

comments_if : (wanted : Bool) (text : List ℕ) → AreComments text → AreComments (if wanted then text else [])
comments_if true text h = h
comments_if false text h = no_comments

fronts_after_comments : CommentsJoin → (earlier events : List Event) → AreComments (fronts_after earlier events)
fronts_after_comments join earlier [] = no_comments
fronts_after_comments join earlier (event ∷ rest) =
    join (if is_front earlier event.g then front_line event else []) (fronts_after (earlier ++ event ∷ []) rest)
    (comments_if (is_front earlier event.g) (front_line event) (front_comment event)) (fronts_after_comments join (earlier ++ event ∷ []) rest)

fronts_comments : CommentsJoin → (events : List Event) → AreComments (fronts_text events)
unfolding fronts_text
fronts_comments join events = fronts_after_comments join [] events

says_comments : CommentsJoin → (kind : WatchKind) (events : List Event) → AreComments (says kind events)
unfolding says
says_comments join Tally events = tally_comment events
says_comments join Trace events = trace_comments join events
says_comments join Fronts events = fronts_comments join events
says_comments join Silent events = no_comments

-- what watchers say are comments
pub texts_are_comments : CommentsJoin → (watchers : List (WatchKind × Option ℕ)) (events : List Event) → AreComments (flat_map (λ (text : List ℕ). text) (texts_after watchers events))
texts_are_comments join [] events = no_comments
texts_are_comments join (watcher ∷ watchers) events =
    join (says watcher.0 (wanted_of watcher.1 events)) (flat_map (λ (text : List ℕ). text) (texts_after watchers events))
    (says_comments join watcher.0 (wanted_of watcher.1 events)) (texts_are_comments join watchers events)

-- the line that there is no plan, with the counts of a search
pub emptied_is_comment : (counts : Counts) → AreComments (line (codes "; no plan " ++ counts_text counts))
emptied_is_comment counts =
    commented (codes " no plan " ++ counts_text counts) (joined (codes " no plan ") (counts_text counts) refl (counts_run counts))
