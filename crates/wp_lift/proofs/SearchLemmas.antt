-- A search from a type, by rows of flags, finds exactly all to which the rows lead; and rows that have it lead to the same as before.
use Rattle.std.proofs.Common.{◌≡◌, ◌≢◌, ℕ, zero, suc, ◌+◌, ◌-◌, ◌<◌, ◌≤◌, ◌==◌, ◌||◌, ◌⊎◌, inl, inr, ⊎_elim, Bool, true, false, cond, List, [], length, map, get_or, slice_set, replicate, refl, sym, ◌∙◌, ap, subst, arith, get_or-set_same, get_or-set_other}
use Rattle.std.specs.List.{range_with_len, Contains}
use Rattle.std.proofs.lemmas.Bool.{cases_eq, cases_lt, eq-eqb}
use Rattle.std.proofs.lemmas.List.{get_or_default, get_or-replicate, get_or_past, length-replicate}
use Rattle.std.proofs.lemmas.List.FromFn.{get_or-map-range_with_len, length-map-range_with_len}
use Rattle.std.proofs.Math.ListN.{length-set}
use Rattle.wp_lift.specs.Typing.{is_flagged}
use Rattle.wp_lift.specs.Rows.{AreClosed, IsClosure, IsOrder, IsReached, IsSquare, Leads, once, by_way, either, is_marked, seen_with}
use Rattle.wp_lift.proofs.SubtypeLemmas.{count_true, count_le, in_range, or_true, same_or_more}

or_cases : (p q : Bool) → (p || q) ≡ true → (p ≡ true) ⊎ (q ≡ true)
or_cases true q h = inl refl
or_cases false q h = inr h

-- the flags of two rows
either_at : (row other : List Bool) (b : ℕ) → length row ≡ length other → b < length row
    → get_or (either row other) b false ≡ (get_or row b false || get_or other b false)
either_at row other b e h =
    let both = map (λ (b : ℕ). is_flagged row b || is_flagged other b) (range_with_len 0 (length row)) in
    ap (λ (t : Bool). get_or (cond t both row) b false) (eq-eqb (length row) (length other) e)
    ∙ get_or-map-range_with_len (λ (b : ℕ). is_flagged row b || is_flagged other b) 0 (length row) b b false h (omega arith)

either_length : (row other : List Bool) → length (either row other) ≡ length row
either_length row other =
    let both = map (λ (b : ℕ). is_flagged row b || is_flagged other b) (range_with_len 0 (length row)) in
    elim (length row == length other) as (λ (t : Bool). length (cond t both row) ≡ length row) [
      | true ↦ length-map-range_with_len (λ (b : ℕ). is_flagged row b || is_flagged other b) 0 (length row)
      | false ↦ refl
    ]

either_split : (row other : List Bool) (b : ℕ) → length row ≡ length other → is_flagged (either row other) b ≡ true
    → (is_flagged row b ≡ true) ⊎ (is_flagged other b ≡ true)
either_split row other b e h =
    let within : b < length row = (let lt = in_range (either row other) b h in omega (arith, either_length row other)) in
    or_cases (get_or row b false) (get_or other b false) (sym (either_at row other b e within) ∙ h)

either_left : (row other : List Bool) (b : ℕ) → length row ≡ length other → is_flagged row b ≡ true → is_flagged (either row other) b ≡ true
either_left row other b e h = either_at row other b e (in_range row b h) ∙ ap (λ (t : Bool). t || get_or other b false) h

either_right : (row other : List Bool) (b : ℕ) → length row ≡ length other → is_flagged other b ≡ true → is_flagged (either row other) b ≡ true
either_right row other b e h =
    either_at row other b e (let lt = in_range other b h in omega (arith, e)) ∙ ap (λ (t : Bool). get_or row b false || t) h
    ∙ or_true (get_or row b false)

-- one flag more
set_split : (flags : List Bool) (b x : ℕ) → is_flagged (slice_set flags b true) x ≡ true → (x ≡ b) ⊎ (is_flagged flags x ≡ true)
set_split flags b x h = ⊎_elim
    (λ (same : x ≡ b). inl same)
    (λ (other : x ≢ b). inr (sym (get_or-set_other flags b x true false other) ∙ h))
    (cases_eq x b)

set_own : (flags : List Bool) (b : ℕ) → b < length flags → is_flagged (slice_set flags b true) b ≡ true
set_own flags b h = get_or-set_same flags b true false h

set_kept : (flags : List Bool) (b x : ℕ) → is_flagged flags x ≡ true → is_flagged (slice_set flags b true) x ≡ true
set_kept flags b x h = ⊎_elim
    (λ (same : x ≡ b).
    let within : b < length flags = subst (λ k. k < length flags) same (in_range flags x h) in
    subst (λ k. is_flagged (slice_set flags b true) k ≡ true) (sym same) (set_own flags b within))
    (λ (other : x ≢ b). get_or-set_other flags b x true false other ∙ h)
    (cases_eq x b)

-- what is seen with one type more
seen_width : (k : Bool) (seen : List Bool) (b : ℕ) (row : List Bool) → length (seen_with k seen b row) ≡ length seen
seen_width true seen b row = either_length (slice_set seen b true) row ∙ length-set seen b true
seen_width false seen b row = length-set seen b true

seen_split : (k : Bool) (seen : List Bool) (b : ℕ) (row : List Bool) (x : ℕ) → length seen ≡ length row
    → is_flagged (seen_with k seen b row) x ≡ true
    → ((x ≡ b) ⊎ (is_flagged seen x ≡ true)) ⊎ ((k ≡ true) × (is_flagged row x ≡ true))
seen_split true seen b row x e h =
    elim (either_split (slice_set seen b true) row x (length-set seen b true ∙ e) h) [
      | inl here ↦ inl (set_split seen b x here)
      | inr way ↦ inr (refl, way)
    ]
seen_split false seen b row x e h = inl (set_split seen b x h)

seen_more : (k : Bool) (seen : List Bool) (b : ℕ) (row : List Bool) (x : ℕ) → length seen ≡ length row
    → is_flagged (slice_set seen b true) x ≡ true → is_flagged (seen_with k seen b row) x ≡ true
seen_more true seen b row x e h = either_left (slice_set seen b true) row x (length-set seen b true ∙ e) h
seen_more false seen b row x e h = h

-- fewer types are not seen
pub unseen : List Bool → ℕ
unseen seen = length seen - count_true seen

pub unseen_less : (k : Bool) (seen : List Bool) (b : ℕ) (row : List Bool) → length seen ≡ length row → b < length seen
    → is_flagged seen b ≡ false → unseen (seen_with k seen b row) < unseen seen
unfolding unseen
unseen_less k seen b row e below not_yet =
    let now = seen_with k seen b row in
    let own : is_flagged now b ≡ true = seen_more k seen b row b e (set_own seen b below) in
    elim (same_or_more seen now (sym (seen_width k seen b row)) (λ x h. seen_more k seen b row x e (set_kept seen b x h))) [
      | inl same ↦ absurd (let no : false ≡ true = sym not_yet ∙ ap (λ flags. is_flagged flags b) same ∙ own in cc)
      | inr more ↦ omega (arith, count_le now, seen_width k seen b row)
    ]

-- one way after another
pub led_on : {rows : List (List Bool)} {a b c : ℕ} → Leads rows a b → Leads rows b c → Leads rows a c
led_on (once a b h) next = by_way a b _ h next
led_on (by_way a m b h more) next = by_way a m _ h (led_on more next)

-- a search under way: what it has seen leads to nothing that is not found
pub record IsSearch (rows : List (List Bool)) (a : ℕ) (found seen : List Bool) : Type 0 where
  pub found_width : length found ≡ length rows
  pub seen_width : length seen ≡ length rows
  pub sound : (c : ℕ) → is_flagged found c ≡ true → Leads rows a c
  pub has : (c : ℕ) → is_marked rows a c ≡ true → is_flagged found c ≡ true
  pub sees : (b c : ℕ) → is_flagged seen b ≡ true → is_marked rows b c ≡ true → is_flagged found c ≡ true

not_flagged : (count a : ℕ) → is_flagged (replicate count false) a ≡ true → ⊥
not_flagged count a flagged =
    let within : a < count = (let lt = in_range (replicate count false) a flagged in omega (arith, length-replicate count false)) in
    let no : false ≡ true = sym (get_or-replicate count a false false within) ∙ flagged in cc

pub search-start : (rows : List (List Bool)) (a : ℕ) → IsSquare (length rows) rows → a < length rows
    → IsSearch rows a (get_or rows a []) (replicate (length rows) false)
search-start rows a square below = record {
  found_width = square.width a below;
  seen_width = length-replicate (length rows) false;
  sound = λ c h. once a c h;
  has = λ c h. h;
  sees = λ b c seen h. absurd (not_flagged (length rows) b seen);
}

pub search-step : (rows : List (List Bool)) (closed : List Bool) (a b : ℕ) (found seen : List Bool) → IsSquare (length rows) rows
    → AreClosed rows closed → b < length rows → is_flagged found b ≡ true → IsSearch rows a found seen
    → IsSearch rows a (either found (get_or rows b [])) (seen_with (is_flagged closed b) seen b (get_or rows b []))
search-step rows closed a b found seen square are below is search =
    let row = get_or rows b [] in
    let k = is_flagged closed b in
    let e : length found ≡ length row = search.found_width ∙ sym (square.width b below) in
    let s : length seen ≡ length row = search.seen_width ∙ sym (square.width b below) in record {
      found_width = either_length found row ∙ search.found_width;
      seen_width = seen_width k seen b row ∙ search.seen_width;
      sound = λ c h. elim (either_split found row c e h) [
        | inl here ↦ search.sound c here
        | inr way ↦ led_on (search.sound b is) (once b c way)
      ];
      has = λ c h. either_left found row c e (search.has c h);
      sees = λ x c h marked. elim (seen_split k seen b row x s h) [
        | inl old ↦ elim old [
          | inl same ↦ either_right found row c e (subst (λ (y : ℕ). is_marked rows y c ≡ true) same marked)
          | inr there ↦ either_left found row c e (search.sees x c there marked)
        ]
        | inr way ↦ either_right found row c e ((are b way.0 c).1 (by_way b x c way.1 (once x c marked)))
      ];
    }

found_from : {rows : List (List Bool)} {a : ℕ} {found seen : List Bool} {b c : ℕ} → IsSearch rows a found seen
    → ((b : ℕ) → is_flagged found b ≡ true → is_flagged seen b ≡ true) → is_flagged found b ≡ true → Leads rows b c
    → is_flagged found c ≡ true
found_from search all is (once b c h) = search.sees b c (all b is) h
found_from search all is (by_way b m c h more) = found_from search all (search.sees b m (all b is) h) more

found_by : {rows : List (List Bool)} {a : ℕ} {found seen : List Bool} {c : ℕ} → IsSearch rows a found seen
    → ((b : ℕ) → is_flagged found b ≡ true → is_flagged seen b ≡ true) → Leads rows a c → is_flagged found c ≡ true
found_by search all (once a c h) = search.has c h
found_by search all (by_way a m c h more) = found_from search all (search.has m h) more

pub search-end : (rows : List (List Bool)) (a : ℕ) (found seen : List Bool) → IsSearch rows a found seen
    → ((b : ℕ) → is_flagged found b ≡ true → is_flagged seen b ≡ true) → IsReached rows a found
search-end rows a found seen search all c = (search.sound c, λ leads. found_by search all leads)

-- a row that has all to which it led
record Gains (rows : List (List Bool)) (a : ℕ) (row : List Bool) : Type 0 where
  below : a < length rows
  reached : IsReached rows a row

gained_old : {rows : List (List Bool)} {a : ℕ} {row : List Bool} (x b : ℕ) → Gains rows a row → is_marked (slice_set rows a row) x b ≡ true
    → Leads rows x b
gained_old {rows = rows} {a = a} {row = row} x b gains h = ⊎_elim
    (λ (same : x ≡ a).
    let here : is_flagged row b ≡ true =
    ap (λ (one : List Bool). is_flagged one b) (sym (get_or-set_same rows a row [] gains.below))
    ∙ subst (λ (k : ℕ). is_marked (slice_set rows a row) k b ≡ true) same h in
    subst (λ (k : ℕ). Leads rows k b) (sym same) ((gains.reached b).0 here))
    (λ (other : x ≢ a). once x b (ap (λ (one : List Bool). is_flagged one b) (sym (get_or-set_other rows a x row [] other)) ∙ h))
    (cases_eq x a)

gained_own : {rows : List (List Bool)} {a : ℕ} {row : List Bool} (b : ℕ) → Gains rows a row → Leads rows a b
    → is_marked (slice_set rows a row) a b ≡ true
gained_own {rows = rows} {a = a} {row = row} b gains leads =
    ap (λ (one : List Bool). is_flagged one b) (get_or-set_same rows a row [] gains.below) ∙ (gains.reached b).1 leads

gained_new : {rows : List (List Bool)} {a : ℕ} {row : List Bool} (x b : ℕ) → Gains rows a row → is_marked rows x b ≡ true
    → is_marked (slice_set rows a row) x b ≡ true
gained_new {rows = rows} {a = a} {row = row} x b gains h = ⊎_elim
    (λ (same : x ≡ a).
    subst (λ (k : ℕ). is_marked (slice_set rows a row) k b ≡ true) (sym same)
    (gained_own b gains (once a b (subst (λ (k : ℕ). is_marked rows k b ≡ true) same h))))
    (λ (other : x ≢ a). ap (λ (one : List Bool). is_flagged one b) (get_or-set_other rows a x row [] other) ∙ h)
    (cases_eq x a)

led_before : {rows : List (List Bool)} {a : ℕ} {row : List Bool} {x c : ℕ} → Gains rows a row → Leads (slice_set rows a row) x c → Leads rows x c
led_before gains (once x c h) = gained_old x c gains h
led_before gains (by_way x m c h more) = led_on (gained_old x m gains h) (led_before gains more)

led_after : {rows : List (List Bool)} {a : ℕ} {row : List Bool} {x c : ℕ} → Gains rows a row → Leads rows x c → Leads (slice_set rows a row) x c
led_after gains (once x c h) = once x c (gained_new x c gains h)
led_after gains (by_way x m c h more) = by_way x m c (gained_new x m gains h) (led_after gains more)

-- rows of which some are closed lead to what they led to at the start
pub record IsClosing (n : ℕ) (start rows : List (List Bool)) (closed : List Bool) : Type 0 where
  pub square : IsSquare n rows
  pub width : length closed ≡ n
  pub before : (a c : ℕ) → Leads rows a c → Leads start a c
  pub after : (a c : ℕ) → Leads start a c → Leads rows a c
  pub are : AreClosed rows closed

pub closing-start : (n : ℕ) (rows : List (List Bool)) → IsSquare n rows → IsClosing n rows rows (replicate n false)
closing-start n rows square = record {
  square = square;
  width = length-replicate n false;
  before = λ a c h. h;
  after = λ a c h. h;
  are = λ b flagged. absurd (not_flagged n b flagged);
}

pub closing-step : (n : ℕ) (start rows : List (List Bool)) (closed : List Bool) (a : ℕ) (row : List Bool) → a < n → length row ≡ length rows
    → IsReached rows a row → IsClosing n start rows closed → IsClosing n start (slice_set rows a row) (slice_set closed a true)
closing-step n start rows closed a row below wide reached closing =
    let gains : Gains rows a row = record { below = omega (arith, closing.square.count); reached = reached } in record {
      square = record {
        count = length-set rows a row ∙ closing.square.count;
        width = λ x h. ⊎_elim
            (λ (same : x ≡ a).
            ap (λ (k : ℕ). length (get_or (slice_set rows a row) k [])) same ∙ ap length (get_or-set_same rows a row [] gains.below)
            ∙ wide ∙ closing.square.count)
            (λ (other : x ≢ a). ap length (get_or-set_other rows a x row [] other) ∙ closing.square.width x h)
            (cases_eq x a);
      };
      width = length-set closed a true ∙ closing.width;
      before = λ x c h. closing.before x c (led_before gains h);
      after = λ x c h. led_after gains (closing.after x c h);
      are = λ b flagged c. (
        λ here. once b c here,
        λ leads. elim (set_split closed a b flagged) [
          | inl same ↦ subst (λ (k : ℕ). is_marked (slice_set rows a row) k c ≡ true) (sym same)
              (gained_own c gains (subst (λ (k : ℕ). Leads rows k c) same (led_before gains leads)))
          | inr there ↦ gained_new b c gains ((closing.are b there c).1 (led_before gains leads))
        ],
      );
    }

pub order-below : (n : ℕ) (order : List ℕ) (i : ℕ) → IsOrder n order → i < length order → get_or order i 0 < n
order-below n order i is h = is.below (get_or order i 0) (i, h, get_or_default order i (get_or order i 0) 0 h)

-- the types that were taken so far are closed
pub taken-more : (closed : List Bool) (order : List ℕ) (i a : ℕ) → a < length closed → a ≡ get_or order i 0
    → ((k : ℕ) → k < i → is_flagged closed (get_or order k 0) ≡ true)
    → (k : ℕ) → k < i + 1 → is_flagged (slice_set closed a true) (get_or order k 0) ≡ true
taken-more closed order i a below is before k h = ⊎_elim
    (λ (earlier : k < i). set_kept closed a (get_or order k 0) (before k earlier))
    (λ (last : i ≤ k).
    let same : k ≡ i = omega arith in
    subst (λ (x : ℕ). is_flagged (slice_set closed a true) x ≡ true) (is ∙ ap (λ (k : ℕ). get_or order k 0) (sym same)) (set_own closed a below))
    (cases_lt k i)

pub closing-end : (n : ℕ) (order : List ℕ) (start rows : List (List Bool)) (closed : List Bool) → IsOrder n order
    → IsClosing n start rows closed → ((k : ℕ) → k < length order → is_flagged closed (get_or order k 0) ≡ true) → IsClosure n start rows
closing-end n order start rows closed is closing taken = record {
  square = closing.square;
  reached = λ a below c.
      let place = is.each a below in
      let flagged : is_flagged closed a ≡ true =
      subst (λ (x : ℕ). is_flagged closed x ≡ true) (get_or_default order place.0 0 a place.1 ∙ place.2) (taken place.0 place.1) in (
        λ here. closing.before a c ((closing.are a flagged c).0 here),
        λ leads. (closing.are a flagged c).1 (closing.after a c leads),
      );
}
