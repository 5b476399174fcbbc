-- The fronts so far, beside the least counter so far.
use Rattle.std.proofs.Common.{◌≡◌, ℕ, ◌+◌, ◌<◌, ◌≤◌, ◌^◌, Bool, true, false, ltb, List, [], ◌∷◌, ◌++◌, length, get_or, take, drop, min, refl, sym, ap, ◌∙◌, arith}
use Rattle.std.specs.Prelude.{◌&&◌, if◌then◌else◌}
use Rattle.std.proofs.lemmas.Bool.{ltb-true, ltb-false, lt-ltb, le-ltb}
use Rattle.std.proofs.lemmas.List.{append_assoc, append-nil, take_more, drop_more, drop_all}
use Rattle.wp_watch.specs.declared.event.Event.{Event}
use Rattle.wp_watch.specs.Texts.{is_front, front_line, fronts_after}

-- the lines of the events below the index are put, and `least` is the least counter among these
pub record HasPut (events : List Event) (index least : ℕ) (out : List ℕ) : Type 0 where
  pub text : out ++ fronts_after (take index events) (drop index events) ≡ fronts_after [] events
  pub front : (g : ℕ) → g < 2 ^ 32 → is_front (take index events) g ≡ ltb g least

pub has_put_none : (events : List Event) → HasPut events 0 (2 ^ 32) []
has_put_none events = record {
  text = refl;
  front = λ g h. sym (lt-ltb g (2 ^ 32) h);
}

and_true : (b : Bool) → (b && true) ≡ b
and_true true = refl
and_true false = refl

and_assoc : (a b c : Bool) → (a && (b && c)) ≡ ((a && b) && c)
and_assoc true b c = refl
and_assoc false b c = refl

-- the counter is less than those of all events where it is less than the least of them
is_front-push : (earlier : List Event) (event : Event) (g : ℕ) → is_front (earlier ++ event ∷ []) g ≡ (is_front earlier g && ltb g event.g)
is_front-push [] event g = and_true (ltb g event.g)
is_front-push (first ∷ rest) event g =
    ap (λ b. ltb g first.g && b) (is_front-push rest event g) ∙ and_assoc (ltb g first.g) (is_front rest g) (ltb g event.g)

below_least : (g least next : ℕ) (b d : Bool) → ltb g least ≡ b → ltb g next ≡ d → (b && d) ≡ ltb g (min least next)
below_least g least next true true e f = sym (lt-ltb g (min least next) (omega (arith, ltb-true g least e, ltb-true g next f)))
below_least g least next true false e f = sym (le-ltb g (min least next) (omega (arith, ltb-false g next f)))
below_least g least next false d e f = sym (le-ltb g (min least next) (omega (arith, ltb-false g least e)))

after_drop : (events : List Event) (index : ℕ) (event : Event) → index < length events → event ≡ get_or events index event
    → fronts_after (take index events) (drop index events)
    ≡ (if is_front (take index events) event.g then front_line event else []) ++ fronts_after (take (index + 1) events) (drop (index + 1) events)
after_drop events index event h e =
    let first : drop index events ≡ event ∷ drop (index + 1) events = drop_more events index event h ∙ ap (λ (x : Event). x ∷ drop (index + 1) events) (sym e) in
    let front : take (index + 1) events ≡ take index events ++ event ∷ [] = take_more events index event h ∙ ap (λ (x : Event). take index events ++ x ∷ []) (sym e) in
    ap (fronts_after (take index events)) first
    ∙ ap (λ (earlier : List Event). (if is_front (take index events) event.g then front_line event else []) ++ fronts_after earlier (drop (index + 1) events)) (sym front)

pub has_put_more : (events : List Event) (index least next : ℕ) (out more : List ℕ) (event : Event)
    → HasPut events index least out → index < length events → event ≡ get_or events index event → event.g < 2 ^ 32
    → more ≡ out ++ (if ltb event.g least then front_line event else []) → next ≡ min least event.g
    → HasPut events (index + 1) next more
has_put_more events index least next out more event put h e small text is = record {
  text =
      let line : List ℕ = if ltb event.g least then front_line event else [] in
      let rest : List ℕ = fronts_after (take (index + 1) events) (drop (index + 1) events) in
      ap (λ (m : List ℕ). m ++ rest) text
      ∙ append_assoc out line rest
      ∙ ap (λ (b : Bool). out ++ ((if b then front_line event else []) ++ rest)) (sym (put.front event.g small))
      ∙ ap (λ (m : List ℕ). out ++ m) (sym (after_drop events index event h e))
      ∙ put.text;
  front = λ g fits.
      ap (λ (earlier : List Event). is_front earlier g) (take_more events index event h ∙ ap (λ (x : Event). take index events ++ x ∷ []) (sym e))
      ∙ is_front-push (take index events) event g
      ∙ ap (λ (b : Bool). b && ltb g event.g) (put.front g fits)
      ∙ below_least g least event.g (ltb g least) (ltb g event.g) refl refl
      ∙ ap (ltb g) (sym is);
}

pub has_put_all : (events : List Event) (index least : ℕ) (out : List ℕ) → HasPut events index least out → length events ≤ index
    → out ≡ fronts_after [] events
has_put_all events index least out put h =
    sym (append-nil out) ∙ ap (λ (left : List Event). out ++ fronts_after (take index events) left) (sym (drop_all index events h)) ∙ put.text
