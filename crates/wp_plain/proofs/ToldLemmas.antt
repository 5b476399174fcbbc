-- Watchers are told one event more for each expansion.
use Rattle.std.proofs.Common.{◌≡◌, ◌+◌, ◌≤◌, ◌<◌, ◌^◌, Bool, false, List, [], ◌∷◌, ◌++◌, Option, Some, None, IfSome, MatchOption, length, map, sym, ap, ◌∙◌, subst, arith}
use Rattle.std.specs.List.{All}
use Rattle.std.proofs.lemmas.List.{length_push}
use Rattle.std.proofs.lemmas.List.Sums.{sum_by_push}
use Rattle.wp_watch.specs.declared.event.Event.{Event}
use Rattle.wp_watch.specs.Sums.{born_in, repeats_in}
use Rattle.wp_watch.specs.Places.{Place, CanTellPlace, told_place, AreAfter}
use Rattle.wp_watch.specs.Laws.{OneMoreIsTold, OneMoreCanBeTold}
use Rattle.wp_plain.specs.Nodes.{Node}
use Rattle.wp_plain.specs.Run.{Moment}
use Rattle.wp_plain.specs.Numbers.{next_of}
use Rattle.wp_plain.specs.Steps.{Asked, IsBounded, event_for, AreAfterFor, AreTold}

-- what is told of an expansion can be told
pub can-be-told : OneMoreCanBeTold → (asked : Asked) (m : Moment) (node : Node) (places : List Place) →
    asked.settings.budget ≤ 100000000 → IsBounded asked.settings (next_of asked.task asked.settings m node) → AreAfterFor m.events places →
    All (CanTellPlace (event_for asked m node)) places
can-be-told law asked m node places budget later after =
    let event = event_for asked m node in
    let told : length (m.events ++ event ∷ []) ≡ length m.events + 1 = length_push m.events event in
    let sum : repeats_in (m.events ++ event ∷ []) ≡ repeats_in m.events + event.repeats = sum_by_push (λ (x : Event). x.repeats) m.events event in
    let births : born_in (m.events ++ event ∷ []) ≡ born_in m.events + length event.born = sum_by_push (λ (x : Event). length x.born) m.events event in
    let few = later.few in
    let nodes = later.nodes in
    let born = later.born in
    let repeats = later.repeats in
    law after.0 m.events places event after.1 (omega (arith, told, sum, few, repeats, budget)) (omega (arith, told, births, few, nodes, born, budget))

pub can-tell-some : (event : Event) (places : List Place) (W : Type 0) (told : Option Event) →
    MatchOption told W (λ x. x ≡ event) → All (CanTellPlace event) places → IfSome told (λ x. All (CanTellPlace x) places)
can-tell-some event places W None is can = tt
can-tell-some event places W (Some x) is can = subst (λ (y : Event). All (CanTellPlace y) places) (sym is) can

-- watchers that were told it, or of whom there are none, are after it
pub told-one : OneMoreIsTold → (events : List Event) (event : Event) (places later : List Place) (wanted : Bool) (told : Option Event) →
    (wanted ≡ false → places ≡ []) → MatchOption told (wanted ≡ false) (λ x. x ≡ event) →
    MatchOption told (later ≡ places) (λ x. later ≡ map (told_place x) places) → AreTold events (events ++ event ∷ []) places later
told-one law events event places later wanted None none is same list after =
    let empty = none is in
    subst (AreAfter list (events ++ event ∷ [])) (ap (map (told_place event)) empty ∙ (sym empty ∙ sym same)) (law list events places event after)
told-one law events event places later wanted (Some x) none is same list after =
    subst (AreAfter list (events ++ event ∷ [])) (ap (λ (y : Event). map (told_place y) places) (sym is) ∙ sym same) (law list events places event after)
