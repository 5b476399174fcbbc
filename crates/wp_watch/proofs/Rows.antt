-- Worked rows of the definitions, each computed.
use Rattle.std.specs.Prelude.{◌≡◌, ℕ, true, false, List, [], ◌∷◌, ◌++◌, codes, Some, None, refl}
use Rattle.std.specs.Fmt.{digits}
use Rattle.wp_watch.specs.declared.event.Born.{Born}
use Rattle.wp_watch.specs.declared.event.Event.{Event}
use Rattle.wp_watch.specs.declared.watch.WatchKind.TheVariants.{Tally, Trace, Fronts, Silent}
use Rattle.wp_watch.specs.Texts.{line, says, tally_text, trace_text, fronts_text, born_line, expansion_line, front_line}
use Rattle.wp_watch.specs.Places.{live, done, place_after, told_place, texts_after}

abbrev born : ℕ → ℕ → ℕ → ℕ → ℕ → Born
born number act w g r = record { number = number; act = act; w = w; g = g; r = r; kept = true }

abbrev pruned : ℕ → ℕ → ℕ → ℕ → ℕ → Born
pruned number act w g r = record { number = number; act = act; w = w; g = g; r = r; kept = false }

abbrev event : ℕ → ℕ → ℕ → ℕ → ℕ → List Born → Event
event number w g r repeats born =
    record { number = number; w = w; g = g; r = r; repeats = repeats; born = born }

-- the expansions of a chain of two actions
abbrev chain : List Event
chain = event 0 1 1 0 0 (born 1 0 1 1 1 ∷ []) ∷ event 1 1 1 1 1 (born 2 1 1 0 0 ∷ []) ∷ []

chain_trace : says Trace chain ≡
    line (codes "; expand 0 w 1 g 1 r 0 repeats 0")
    ++ line (codes "; born 1 act 0 w 1 g 1 r 1 kept")
    ++ line (codes "; expand 1 w 1 g 1 r 1 repeats 1")
    ++ line (codes "; born 2 act 1 w 1 g 0 r 0 kept")
unfolding says trace_text expansion_line born_line digits
chain_trace = refl

chain_tally : says Tally chain ≡ line (codes "; tally events 2 born 2 kept 2 pruned 0 repeats 1")
unfolding says tally_text digits
chain_tally = refl

chain_fronts : says Fronts chain ≡ line (codes "; front g 1 at 0")
unfolding says fronts_text front_line digits
chain_fronts = refl

chain_silent : says Silent chain ≡ []
unfolding says
chain_silent = refl

-- nothing was told
none_tally : says Tally [] ≡ line (codes "; tally events 0 born 0 kept 0 pruned 0 repeats 0")
unfolding says tally_text digits
none_tally = refl

none_trace : says Trace [] ≡ []
unfolding says trace_text
none_trace = refl

-- a node that was pruned
pruned_trace : says Trace (event 3 2 4 0 12 (pruned 10 7 3 4 0 ∷ []) ∷ []) ≡
    line (codes "; expand 3 w 2 g 4 r 0 repeats 12") ++ line (codes "; born 10 act 7 w 3 g 4 r 0 pruned")
unfolding says trace_text expansion_line born_line digits
pruned_trace = refl

pruned_tally : says Tally (event 3 2 4 0 12 (pruned 10 7 3 4 0 ∷ born 11 8 1 4 1 ∷ pruned 12 9 3 4 0 ∷ []) ∷ []) ≡
    line (codes "; tally events 1 born 3 kept 1 pruned 2 repeats 12")
unfolding says tally_text digits
pruned_tally = refl

-- counters 2 2 3 1 1 0: of equal ones the first counts, and one that rises does not
abbrev falling : List Event
falling =
    event 0 1 2 0 0 [] ∷ event 2 1 2 0 0 [] ∷ event 3 1 3 0 0 [] ∷ event 5 1 1 0 0 [] ∷ event 9 1 1 0 0 [] ∷ event 7 1 0 0 0 []
    ∷ []

falling_fronts : says Fronts falling ≡
    line (codes "; front g 2 at 0") ++ line (codes "; front g 1 at 5") ++ line (codes "; front g 0 at 7")
unfolding says fronts_text front_line digits
falling_fronts = refl

-- a watcher that wants one event, and one that wants all
chain_texts : texts_after ((Trace, Some 1) ∷ (Silent, None) ∷ []) chain ≡
    (line (codes "; expand 0 w 1 g 1 r 0 repeats 0") ++ line (codes "; born 1 act 0 w 1 g 1 r 1 kept")) ∷ [] ∷ []
unfolding says trace_text expansion_line born_line digits
chain_texts = refl

chain_done : place_after Tally (Some 1) chain ≡ done (line (codes "; tally events 1 born 1 kept 1 pruned 0 repeats 0"))
unfolding says tally_text digits
chain_done = refl

chain_live : place_after Tally (Some 3) chain ≡ live Tally (Some 3) chain
chain_live = refl

chain_last : told_place (event 1 1 1 1 1 []) (live Silent (Some 2) (event 0 1 1 0 0 [] ∷ [])) ≡ done []
unfolding says
chain_last = refl
