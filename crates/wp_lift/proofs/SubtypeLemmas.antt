-- Rows of flags, grown as often as there are types, hold exactly the types above: each round adds a flag or is the last.
use Rattle.std.proofs.Common.{◌≡◌, ◌↔◌, ℕ, zero, suc, ◌+◌, ◌<◌, ◌≤◌, ◌==◌, ◌&&◌, ◌||◌, ◌⊎◌, inl, inr, Bool, true, false, eqb, List, [], ◌∷◌, ◌++◌, length, map, get_or, Option, Some, None, unwrap_or, IfSome, refl, sym, ◌∙◌, ap, subst, arith}
use Rattle.std.specs.List.{list_any, Contains}
use Rattle.std.proofs.lemmas.List.FromFn.{get_or-map-range_with_len, length-map-range_with_len}
use Rattle.std.proofs.lemmas.Bool.Decides.{Decides-eqb}
use Rattle.wp_syntax.specs.declared.records.Name.{Name}
use Rattle.wp_syntax.specs.declared.records.Typed.{Typed}
use Rattle.wp_lift.specs.Worlds.{is_same_args}
use Rattle.wp_lift.specs.Names.{number_of}
use Rattle.wp_lift.specs.Typing.{IsSubtype, itself, top, step, is_flagged, flags_of, grown, grown_by, type_number, pairs_of, subtypes_of}
use Rattle.wp_lift.specs.Laws.{RowsAreSubtypes}
use Rattle.wp_lift.proofs.PlaceLemmas.{position-in}
use Rattle.wp_lift.proofs.ClosureLemmas.{settled}

pub or_true : (b : Bool) → (b || true) ≡ true
or_true true = refl
or_true false = refl

both : (p q : Bool) → (p && q) ≡ true → (p ≡ true) × (q ≡ true)
both true q h = (refl, h)
both false q h = cc

pub in_range : (flags : List Bool) (k : ℕ) → get_or flags k false ≡ true → k < length flags
in_range [] k h = cc
in_range (flag ∷ flags) zero h = omega arith
in_range (flag ∷ flags) (suc k) h = let here = in_range flags k h in omega arith

-- a pair that leads to a type
leads : List Bool → ℕ → ℕ × ℕ → Bool
leads flags b pair = is_flagged flags pair.0 && (pair.1 == b)

pub any_at : {X : Type 0} (p : X → Bool) (xs : List X) (k : ℕ) (x : X) → k < length xs → get_or xs k x ≡ x → p x ≡ true → list_any p xs ≡ true
any_at p [] k x h e t = absurd (omega arith)
any_at p (y ∷ ys) zero x h e t = ap (λ b. b || list_any p ys) (ap p e ∙ t)
any_at p (y ∷ ys) (suc k) x h e t = ap (λ b. p y || b) (any_at p ys k x (omega arith) e t) ∙ or_true (p y)

pub any_found : {X : Type 0} (p : X → Bool) (xs : List X) → list_any p xs ≡ true → (x : X) × Contains xs x × (p x ≡ true)
any_found p [] h = cc
any_found p (y ∷ ys) h =
    elim (p y) as (λ b. p y ≡ b → (b || list_any p ys) ≡ true → (x : _) × Contains (y ∷ ys) x × (p x ≡ true)) [
      | true ↦ λ e _. (y, (0, omega arith, refl), e)
      | false ↦ λ e h. let found = any_found p ys h in (found.0, (suc found.1.0, (let lt = found.1.1 in omega arith), found.1.2), found.2)
    ] refl h

grown_length : (pairs : List (ℕ × ℕ)) (flags : List Bool) → length (grown pairs flags) ≡ length flags
grown_length pairs flags =
    length-map-range_with_len (λ (b : ℕ). is_flagged flags b || list_any (λ (pair : ℕ × ℕ). is_flagged flags pair.0 && (pair.1 == b)) pairs) 0 (length flags)

grown_at : (pairs : List (ℕ × ℕ)) (flags : List Bool) (b : ℕ) → b < length flags
    → get_or (grown pairs flags) b false ≡ (is_flagged flags b || list_any (λ (pair : ℕ × ℕ). is_flagged flags pair.0 && (pair.1 == b)) pairs)
grown_at pairs flags b h =
    get_or-map-range_with_len (λ (b : ℕ). is_flagged flags b || list_any (λ (pair : ℕ × ℕ). is_flagged flags pair.0 && (pair.1 == b)) pairs) 0 (length flags) b b false h (omega arith)

-- one more pair behind what is above
behind_step : (pairs : List (ℕ × ℕ)) (b c : ℕ) → Contains pairs (b, c) → {a : ℕ} → IsSubtype pairs a b → IsSubtype pairs a c
behind_step pairs b c h (itself a) = step a c c h (itself c)
behind_step pairs b c h (top a _ above) = top a c (behind_step pairs b c h above)
behind_step pairs b c h (step a m _ first above) = step a m c first (behind_step pairs b c h above)

unfoldable pub Above : List (ℕ × ℕ) → ℕ → List Bool → Type 0
Above pairs a flags = (c : ℕ) → get_or flags c false ≡ true → IsSubtype pairs a c

grown_above : (pairs : List (ℕ × ℕ)) (a : ℕ) (flags : List Bool) → Above pairs a flags → Above pairs a (grown pairs flags)
unfolding Above
grown_above pairs a flags above c h =
    let within : c < length flags = let lt = in_range (grown pairs flags) c h in omega (arith, grown_length pairs flags) in
    let any = list_any (λ (pair : ℕ × ℕ). is_flagged flags pair.0 && (pair.1 == c)) pairs in
    elim (is_flagged flags c) as (λ t. is_flagged flags c ≡ t → (t || any) ≡ true → IsSubtype pairs a c) [
      | true ↦ λ e _. above c e
      | false ↦ λ e h.
          let found = any_found (λ (pair : ℕ × ℕ). is_flagged flags pair.0 && (pair.1 == c)) pairs h in
          let parts = both (is_flagged flags found.0.0) (found.0.1 == c) found.2 in
          let same : found.0.1 ≡ c = (Decides-eqb found.0.1 c).0 parts.1 in
          subst (λ (c : ℕ). IsSubtype pairs a c) same (behind_step pairs found.0.0 found.0.1 found.1 (above found.0.0 parts.0))
    ] refl (sym (grown_at pairs flags c within) ∙ h)

rounds_above : (k : ℕ) (pairs : List (ℕ × ℕ)) (a : ℕ) (flags : List Bool) → Above pairs a flags → Above pairs a (grown_by k pairs flags)
rounds_above zero pairs a flags above = above
rounds_above (suc k) pairs a flags above = rounds_above k pairs a (grown pairs flags) (grown_above pairs a flags above)

-- each round adds a flag or is the last
pub count_true : List Bool → ℕ
count_true [] = 0
count_true (true ∷ flags) = suc (count_true flags)
count_true (false ∷ flags) = count_true flags

pub count_le : (flags : List Bool) → count_true flags ≤ length flags
unfolding count_true
count_le [] = omega arith
count_le (true ∷ flags) = let rest = count_le flags in omega arith
count_le (false ∷ flags) = let rest = count_le flags in omega arith

pub same_or_more : (xs ys : List Bool) → length xs ≡ length ys → ((k : ℕ) → get_or xs k false ≡ true → get_or ys k false ≡ true)
    → (xs ≡ ys) ⊎ (count_true xs < count_true ys)
unfolding count_true
same_or_more [] [] e h = inl refl
same_or_more [] (y ∷ ys) e h = absurd (omega arith)
same_or_more (x ∷ xs) [] e h = absurd (omega arith)
same_or_more (true ∷ xs) (true ∷ ys) e h =
    elim (same_or_more xs ys (omega arith) (λ k. h (suc k))) [ inl same ↦ inl (ap (λ zs. true ∷ zs) same) | inr more ↦ inr (omega arith) ]
same_or_more (true ∷ xs) (false ∷ ys) e h = absurd (let no = h 0 refl in cc)
same_or_more (false ∷ xs) (true ∷ ys) e h =
    elim (same_or_more xs ys (omega arith) (λ k. h (suc k))) [ inl same ↦ inr (omega (arith, ap count_true same)) | inr more ↦ inr (omega arith) ]
same_or_more (false ∷ xs) (false ∷ ys) e h =
    elim (same_or_more xs ys (omega arith) (λ k. h (suc k))) [ inl same ↦ inl (ap (λ zs. false ∷ zs) same) | inr more ↦ inr more ]

grown_keeps : (pairs : List (ℕ × ℕ)) (flags : List Bool) (k : ℕ) → get_or flags k false ≡ true → get_or (grown pairs flags) k false ≡ true
grown_keeps pairs flags k h =
    grown_at pairs flags k (in_range flags k h) ∙ ap (λ t. t || list_any (λ (pair : ℕ × ℕ). is_flagged flags pair.0 && (pair.1 == k)) pairs) h

last_round : (k : ℕ) (pairs : List (ℕ × ℕ)) (flags : List Bool) → length flags ≤ k + count_true flags → grown pairs (grown_by k pairs flags) ≡ grown_by k pairs flags
last_round zero pairs flags h =
    elim (same_or_more flags (grown pairs flags) (sym (grown_length pairs flags)) (grown_keeps pairs flags)) [
      | inl same ↦ sym same
      | inr more ↦ absurd (omega (arith, count_le (grown pairs flags), grown_length pairs flags))
    ]
last_round (suc k) pairs flags h =
    elim (same_or_more flags (grown pairs flags) (sym (grown_length pairs flags)) (grown_keeps pairs flags)) [
      | inl same ↦ let still = settled (suc k) pairs flags (sym same) in ap (grown pairs) still ∙ sym same ∙ sym still
      | inr more ↦ last_round k pairs (grown pairs flags) (omega (arith, grown_length pairs flags))
    ]

pub rounds_length : (k : ℕ) (pairs : List (ℕ × ℕ)) (flags : List Bool) → length (grown_by k pairs flags) ≡ length flags
rounds_length zero pairs flags = refl
rounds_length (suc k) pairs flags = rounds_length k pairs (grown pairs flags) ∙ grown_length pairs flags

rounds_keep : (k : ℕ) (pairs : List (ℕ × ℕ)) (flags : List Bool) (b : ℕ) → get_or flags b false ≡ true → get_or (grown_by k pairs flags) b false ≡ true
rounds_keep zero pairs flags b h = h
rounds_keep (suc k) pairs flags b h = rounds_keep k pairs (grown pairs flags) b (grown_keeps pairs flags b h)

-- what is above is flagged, where a round adds nothing
unfoldable pub Bounded : ℕ → List (ℕ × ℕ) → Type 0
Bounded n pairs = (x m : ℕ) → Contains pairs (x, m) → m < n

closed : (pairs : List (ℕ × ℕ)) (flags : List Bool) → grown pairs flags ≡ flags → Bounded (length flags) pairs
    → (x m : ℕ) → Contains pairs (x, m) → get_or flags x false ≡ true → get_or flags m false ≡ true
unfolding Bounded
closed pairs flags e bounded x m found h =
    let here : (is_flagged flags x && (m == m)) ≡ true = ap (λ t. t && (m == m)) h ∙ (Decides-eqb m m).1 refl in
    let any = any_at (λ (pair : ℕ × ℕ). is_flagged flags pair.0 && (pair.1 == m)) pairs found.0 (x, m) found.1 found.2 here in
    sym (ap (λ flags. get_or flags m false) e) ∙ grown_at pairs flags m (bounded x m found)
    ∙ ap (λ t. is_flagged flags m || t) any ∙ or_true (is_flagged flags m)

all_flagged : (pairs : List (ℕ × ℕ)) (flags : List Bool) → grown pairs flags ≡ flags → Bounded (length flags) pairs → get_or flags 0 false ≡ true
    → {x b : ℕ} → IsSubtype pairs x b → get_or flags x false ≡ true → get_or flags b false ≡ true
all_flagged pairs flags e bounded object (itself a) h = h
all_flagged pairs flags e bounded object (top a c above) h = all_flagged pairs flags e bounded object above object
all_flagged pairs flags e bounded object (step a m c first above) h =
    all_flagged pairs flags e bounded object above (closed pairs flags e bounded a m first h)

-- the numbers of the declared pairs are those of types
number_below : (found : Option ℕ) (n : ℕ) → 0 < n → IfSome found (λ i. i < n) → unwrap_or found 0 < n
number_below None n h i = h
number_below (Some k) n h i = i

pub type_below : (types : List (List ℕ)) (name : List ℕ) → 0 < length types → type_number types name < length types
type_below types name h = number_below (number_of name types) (length types) h (position-in (is_same_args name) types)

Second : ℕ → List (ℕ × ℕ) → Type 0
Second n [] = Unit {0}
Second n (pair ∷ pairs) = (pair.1 < n) × Second n pairs

second_append : (n : ℕ) (xs ys : List (ℕ × ℕ)) → Second n xs → Second n ys → Second n (xs ++ ys)
unfolding Second
second_append n [] ys h k = k
second_append n (x ∷ xs) ys h k = (h.0, second_append n xs ys h.1 k)

second_kinds : (types : List (List ℕ)) (below : ℕ) (kinds : List Name) → 0 < length types
    → Second (length types) (map (λ (kind : Name). (below, type_number types kind.text)) kinds)
unfolding Second
second_kinds types below [] h = tt
second_kinds types below (kind ∷ kinds) h = (type_below types kind.text h, second_kinds types below kinds h)

second_pairs : (types : List (List ℕ)) (declared : List Typed) → 0 < length types → Second (length types) (pairs_of types declared)
unfolding Second
second_pairs types [] h = tt
second_pairs types (typed ∷ declared) h =
    second_append (length types) (map (λ (kind : Name). (type_number types typed.name.text, type_number types kind.text)) typed.kinds) (pairs_of types declared)
    (second_kinds types (type_number types typed.name.text) typed.kinds h) (second_pairs types declared h)

second_at : (n : ℕ) (pairs : List (ℕ × ℕ)) → Second n pairs → (k : ℕ) (pair : ℕ × ℕ) → k < length pairs → get_or pairs k pair ≡ pair → pair.1 < n
unfolding Second
second_at n [] s k pair h e = absurd (omega arith)
second_at n (first ∷ pairs) s zero pair h e = subst (λ (p : ℕ × ℕ). p.1 < n) e s.0
second_at n (first ∷ pairs) s (suc k) pair h e = second_at n pairs s.1 k pair (omega arith) e

pub pairs_bounded : (types : List (List ℕ)) (declared : List Typed) → 0 < length types → Bounded (length types) (pairs_of types declared)
unfolding Bounded
pairs_bounded types declared h x m found = second_at (length types) (pairs_of types declared) (second_pairs types declared h) found.0 (x, m) found.1 found.2

-- the flags at the start
pub flags_length : (n a : ℕ) → length (flags_of n a) ≡ n
flags_length n a = length-map-range_with_len (λ (b : ℕ). (b == a) || (b == 0)) 0 n

pub flags_at : (n a b : ℕ) → b < n → get_or (flags_of n a) b false ≡ ((b == a) || (b == 0))
flags_at n a b h = get_or-map-range_with_len (λ (b : ℕ). (b == a) || (b == 0)) 0 n b b false h (omega arith)

pub first_above : (pairs : List (ℕ × ℕ)) (n a : ℕ) → Above pairs a (flags_of n a)
unfolding Above
first_above pairs n a c h =
    let within : c < n = let lt = in_range (flags_of n a) c h in omega (arith, flags_length n a) in
    elim (eqb c a) as (λ t. eqb c a ≡ t → (t || (c == 0)) ≡ true → IsSubtype pairs a c) [
      | true ↦ λ e _. subst (λ (c : ℕ). IsSubtype pairs a c) (sym ((Decides-eqb c a).0 e)) (itself a)
      | false ↦ λ e h. let zero_is = (Decides-eqb c 0).0 h in subst (λ (c : ℕ). IsSubtype pairs a c) (sym zero_is) (top a 0 (itself 0))
    ] refl (sym (flags_at n a c within) ∙ h)

row : (pairs : List (ℕ × ℕ)) (n a b : ℕ) → a < n → Bounded n pairs
    → (get_or (grown_by n pairs (flags_of n a)) b false ≡ true) ↔ IsSubtype pairs a b
unfolding Above
row pairs n a b h bounded =
    let flags = grown_by n pairs (flags_of n a) in
    let len : length flags ≡ n = rounds_length n pairs (flags_of n a) ∙ flags_length n a in
    let still : grown pairs flags ≡ flags = last_round n pairs (flags_of n a) (omega (arith, flags_length n a)) in
    let own : get_or flags a false ≡ true =
    rounds_keep n pairs (flags_of n a) a (flags_at n a a h ∙ ap (λ t. t || (a == 0)) ((Decides-eqb a a).1 refl)) in
    let object : get_or flags 0 false ≡ true =
    rounds_keep n pairs (flags_of n a) 0 (flags_at n a 0 (omega arith) ∙ ap (λ t. (0 == a) || t) ((Decides-eqb 0 0).1 refl) ∙ or_true (0 == a)) in (
      rounds_above n pairs a (flags_of n a) (first_above pairs n a) b,
      λ above. all_flagged pairs flags still (subst (λ (m : ℕ). Bounded m pairs) (sym len) bounded) object above own,
    )

pub subtypes_length : (types : List (List ℕ)) (declared : List Typed) → length (subtypes_of types declared) ≡ length types
unfolding subtypes_of
subtypes_length types declared =
    length-map-range_with_len (λ (a : ℕ). grown_by (length types) (pairs_of types declared) (flags_of (length types) a)) 0 (length types)

pub rows-subtypes : RowsAreSubtypes
unfolding subtypes_of
rows-subtypes types declared a b ha hb =
    let n = length types in
    let pairs = pairs_of types declared in
    let at : get_or (subtypes_of types declared) a [] ≡ grown_by n pairs (flags_of n a) =
    get_or-map-range_with_len (λ (a : ℕ). grown_by n pairs (flags_of n a)) 0 n a a [] ha (omega arith) in
    subst (λ (flags : List Bool). (get_or flags b false ≡ true) ↔ IsSubtype pairs a b) (sym at)
    (row pairs n a b ha (pairs_bounded types declared (omega arith)))
