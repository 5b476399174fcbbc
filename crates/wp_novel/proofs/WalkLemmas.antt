-- Walks over the tuples of some old and some new atoms, one atom after another.
use Rattle.std.proofs.Common.{◌≡◌, ◌==◌, ◌||◌, ℕ, zero, suc, ◌+◌, ◌-◌, ◌<◌, ◌≤◌, cond, not, Bool, true, false, List, [], ◌∷◌, ◌++◌, length, get_or, take, drop, map, refl, sym, ap, ◌∙◌, subst, append_assoc, append-nil, arith}
use Rattle.std.specs.List.{All, list_any}
use Rattle.std.proofs.lemmas.Bool.{eqb-true, lt-ltb, le-ltb}
use Rattle.std.proofs.lemmas.List.{get_or-map, length-map, map-append, map_push, take_more, take_all}
use Rattle.std.proofs.lemmas.List.Elements.{All-head}
use Rattle.std.proofs.lemmas.List.Folds.{list_any-append}
use Rattle.wp_task.proofs.Members.{In, In-at, In-map, In-append_left, In-append_right, list_any-from, list_any-at}
use Rattle.wp_tuples.specs.Placing.{Placing, place_in}
use Rattle.wp_arrive.specs.declared.view.Arrival.{Arrival}
use Rattle.wp_arrive.specs.FirstArrival.{mark, first}
use Rattle.wp_novel.specs.MarkedTuples.{pair_of, pairs_after, tuples_with_new}
use Rattle.wp_novel.specs.Marks.{marks_at, is_late}
use Rattle.wp_novel.proofs.JobLemmas.{All-left, All-right}

abbrev pub single : ℕ → List ℕ
single p = p ∷ []

abbrev pub with_atom : ℕ → ℕ → List ℕ
with_atom q p = pair_of p q

-- ---- what holds of all tuples
pub All-unmap : {X Y : Type 0} (P : Y → Type 0) (f : X → Y) (xs : List X) → All P (map f xs) → All (λ x. P (f x)) xs
All-unmap P f xs all k d within =
    subst P (get_or-map f xs k d (f d) within) (all k (f d) (let e : k < length (map f xs) = omega (arith, length-map xs f) in e))

module _ (P : List ℕ → Type 0) where
  pub of_singles : (width : ℕ) (old new : List ℕ) → All P (tuples_with_new width old new) → All P (map single new)
  of_singles width old new all = All-left P (map single new) (cond (width == 2) (pairs_after old new) []) all

  pub of_pairs : (width : ℕ) (old new : List ℕ) → (width == 2) ≡ true → All P (tuples_with_new width old new) → All P (pairs_after old new)
  of_pairs width old new two all =
      All-right P (map single new) (pairs_after old new) (subst (λ (b : Bool). All P (map single new ++ cond b (pairs_after old new) [])) two all)

  -- of the first atom, of the later ones, and of each
  pub of_first : (new : List ℕ) → 0 < length new → All P (map single new) → P (get_or new 0 0 ∷ [])
  of_first [] some all = absurd (omega arith)
  of_first (x ∷ new) some all = All-head P (x ∷ []) (map single new) all

  pub of_rest : (new : List ℕ) → All P (map single new) → All P (map single (drop 1 new))
  of_rest [] all = all
  of_rest (x ∷ new) all = All-right P ((x ∷ []) ∷ []) (map single new) all

  pub of_each : (f : ℕ → List ℕ) (atoms : List ℕ) (i : ℕ) → i < length atoms → All P (map f atoms) → P (f (get_or atoms i 0))
  of_each f atoms i within all = All-unmap P f atoms all i 0 within

  -- of the pairs of one new atom
  at_place : (before new : List ℕ) (k : ℕ) → k < length new → All P (pairs_after before new) → All P (map (with_atom (get_or new k 0)) (before ++ take k new))
  at_place before [] k within all = absurd (omega arith)
  at_place before (x ∷ new) zero within all =
      subst (λ (l : List ℕ). All P (map (with_atom x) l)) (sym (append-nil before)) (All-left P (map (with_atom x) before) (pairs_after (before ++ x ∷ []) new) all)
  at_place before (x ∷ new) (suc k) within all =
      subst (λ (l : List ℕ). All P (map (with_atom (get_or new k 0)) l)) (append_assoc before (x ∷ []) (take k new))
      (at_place (before ++ x ∷ []) new k (omega arith) (All-right P (map (with_atom x) before) (pairs_after (before ++ x ∷ []) new) all))

  pub at_old : (old new : List ℕ) (k : ℕ) → k < length new → All P (pairs_after old new) → All P (map (with_atom (get_or new k 0)) old)
  at_old old new k within all =
      All-left P (map (with_atom (get_or new k 0)) old) (map (with_atom (get_or new k 0)) (take k new))
      (subst (All P) (map-append (with_atom (get_or new k 0)) old (take k new)) (at_place old new k within all))

  pub at_new : (old new : List ℕ) (k : ℕ) → k < length new → All P (pairs_after old new) → All P (map (with_atom (get_or new k 0)) (take k new))
  at_new old new k within all =
      All-right P (map (with_atom (get_or new k 0)) old) (map (with_atom (get_or new k 0)) (take k new))
      (subst (All P) (map-append (with_atom (get_or new k 0)) old (take k new)) (at_place old new k within all))

-- ---- the pairs of one atom more
push : (before new : List ℕ) (q : ℕ) → pairs_after before (new ++ q ∷ []) ≡ pairs_after before new ++ map (with_atom q) (before ++ new)
push before [] q = append-nil (map (with_atom q) before) ∙ ap (λ l. map (with_atom q) l) (sym (append-nil before))
push before (x ∷ new) q =
    ap (λ l. map (with_atom x) before ++ l) (push (before ++ x ∷ []) new q ∙ ap (λ l. pairs_after (before ++ x ∷ []) new ++ map (with_atom q) l) (append_assoc before (x ∷ []) new))
    ∙ sym (append_assoc (map (with_atom x) before) (pairs_after (before ++ x ∷ []) new) (map (with_atom q) (before ++ x ∷ new)))

pub pairs_more : (old new : List ℕ) (k : ℕ) → k < length new →
    pairs_after old (take (k + 1) new) ≡ pairs_after old (take k new) ++ (map (with_atom (get_or new k 0)) old ++ map (with_atom (get_or new k 0)) (take k new))
pairs_more old new k within =
    ap (pairs_after old) (take_more new k 0 within)
    ∙ (push old (take k new) (get_or new k 0) ∙ ap (λ l. pairs_after old (take k new) ++ l) (map-append (with_atom (get_or new k 0)) old (take k new)))

-- ---- marks
module _ (places : Placing) (number : ℕ) where
  abbrev at : List (List ℕ) → List Arrival
  at tuples = marks_at places number tuples

  marks-append : (xs ys : List (List ℕ)) → at (xs ++ ys) ≡ at xs ++ at ys
  marks-append xs ys = map-append (λ (u : List ℕ). mark (place_in places u) number) xs ys

  -- a mark more in a row of tuples
  pub marks_more : (f : ℕ → List ℕ) (marks : List Arrival) (atoms : List ℕ) (i place : ℕ) → i < length atoms → place ≡ place_in places (f (get_or atoms i 0)) →
      (marks ++ at (map f (take i atoms))) ++ mark place number ∷ [] ≡ marks ++ at (map f (take (i + 1) atoms))
  marks_more f marks atoms i place within is =
      append_assoc marks (at (map f (take i atoms))) (mark place number ∷ [])
      ∙ ap (λ l. marks ++ l)
      (ap (λ (p : ℕ). at (map f (take i atoms)) ++ mark p number ∷ []) is
      ∙ (sym (marks-append (map f (take i atoms)) (f (get_or atoms i 0) ∷ []))
      ∙ ap (λ (l : List (List ℕ)). at l) (sym (map_push f (take i atoms) (get_or atoms i 0)) ∙ sym (ap (λ l. map f l) (take_more atoms i 0 within)))))

  -- the marks of the pairs of one new atom more
  pub marks_of_atom : (marks : List Arrival) (old new : List ℕ) (k : ℕ) → k < length new →
      ((marks ++ at (pairs_after old (take k new))) ++ at (map (with_atom (get_or new k 0)) old)) ++ at (map (with_atom (get_or new k 0)) (take k new))
      ≡ marks ++ at (pairs_after old (take (k + 1) new))
  marks_of_atom marks old new k within =
      let a = map (with_atom (get_or new k 0)) old in
      let b = map (with_atom (get_or new k 0)) (take k new) in
      let before = pairs_after old (take k new) in
      append_assoc (marks ++ at before) (at a) (at b)
      ∙ (ap (λ l. (marks ++ at before) ++ l) (sym (marks-append a b))
      ∙ (append_assoc marks (at before) (at (a ++ b))
      ∙ ap (λ l. marks ++ l) (sym (marks-append before (a ++ b)) ∙ ap (λ (l : List (List ℕ)). at l) (sym (pairs_more old new k within)))))

  -- the first new atom, the later ones, and the pairs if any
  pub marks_of_singles : (marks : List Arrival) (new : List ℕ) (place : ℕ) → 0 < length new → place ≡ place_in places (get_or new 0 0 ∷ []) →
      (marks ++ mark place number ∷ []) ++ at (map single (drop 1 new)) ≡ marks ++ at (map single new)
  marks_of_singles marks [] place some is = absurd (omega arith)
  marks_of_singles marks (x ∷ new) place some is =
      append_assoc marks (mark place number ∷ []) (at (map single new)) ∙ ap (λ (p : ℕ). marks ++ mark p number ∷ at (map single new)) is

  pub marks_of_all : (width : ℕ) (marks : List Arrival) (old new : List ℕ) (b : Bool) → (width == 2) ≡ b →
      (marks ++ at (map single new)) ++ at (cond b (pairs_after old new) []) ≡ marks ++ at (tuples_with_new width old new)
  marks_of_all width marks old new b is =
      append_assoc marks (at (map single new)) (at (cond b (pairs_after old new) []))
      ∙ ap (λ l. marks ++ l) (sym (marks-append (map single new) (cond b (pairs_after old new) []))
      ∙ ap (λ (c : Bool). at (map single new ++ cond c (pairs_after old new) [])) (sym is))

-- all but the first
pub rest_is : (xs : List ℕ) → take (length xs - 1) (drop 1 xs) ≡ drop 1 xs
rest_is [] = refl
rest_is (x ∷ xs) = take_all (length (x ∷ xs) - 1) xs (omega arith)

pub no_tuples : (width : ℕ) (old new : List ℕ) → (length new == 0) ≡ true → tuples_with_new width old new ≡ []
no_tuples width old [] none = by (width == 2) where
  by : (b : Bool) → cond b (pairs_after old []) [] ≡ []
  by true = refl
  by false = refl
no_tuples width old (x ∷ new) none = absurd (let wrong : length (x ∷ new) ≡ 0 = eqb-true (length (x ∷ new)) 0 none in omega arith)

-- ---- looks
pub late_from : (places : Placing) (marks : List Arrival) (number found : ℕ) (tuple : List ℕ) → found ≡ first marks (place_in places tuple) → number ≤ found →
    is_late places marks number tuple ≡ true
late_from places marks number found tuple is late = ap not (le-ltb (first marks (place_in places tuple)) number (omega arith))

pub early_from : (places : Placing) (marks : List Arrival) (number found : ℕ) (tuple : List ℕ) → found ≡ first marks (place_in places tuple) → found < number →
    is_late places marks number tuple ≡ false
early_from places marks number found tuple is early = ap not (lt-ltb (first marks (place_in places tuple)) number (omega arith))

module _ (t : List ℕ → Bool) where
  pub any_at : (f : ℕ → List ℕ) (atoms : List ℕ) (i : ℕ) → i < length atoms → t (f (get_or atoms i 0)) ≡ true → list_any t (map f atoms) ≡ true
  any_at f atoms i within passes = list_any-from t (map f atoms) (f (get_or atoms i 0)) (In-map f atoms (get_or atoms i 0) (In-at (get_or atoms i 0) atoms i within (same atoms i within))) passes
    where
      same : (xs : List ℕ) (k : ℕ) → k < length xs → get_or xs k (get_or xs k 0) ≡ get_or xs k 0
      same [] k h = absurd (omega arith)
      same (x ∷ xs) zero h = refl
      same (x ∷ xs) (suc k) h = same xs k (omega arith)

  pub none_more : (f : ℕ → List ℕ) (atoms : List ℕ) (i : ℕ) → i < length atoms → list_any t (map f (take i atoms)) ≡ false → t (f (get_or atoms i 0)) ≡ false →
      list_any t (map f (take (i + 1) atoms)) ≡ false
  none_more f atoms i within none fails =
      ap (λ l. list_any t (map f l)) (take_more atoms i 0 within)
      ∙ (ap (list_any t) (map_push f (take i atoms) (get_or atoms i 0))
      ∙ (list_any-append t (map f (take i atoms)) (f (get_or atoms i 0) ∷ []) ∙ (λ j. none j || (fails j || false))))

  -- a pair of one new atom is among all pairs
  in_pairs : (before new : List ℕ) (k : ℕ) → k < length new → (u : List ℕ) → In u (map (with_atom (get_or new k 0)) (before ++ take k new)) → In u (pairs_after before new)
  in_pairs before [] k within u there = absurd (omega arith)
  in_pairs before (x ∷ new) zero within u there =
      In-append_left (map (with_atom x) before) (pairs_after (before ++ x ∷ []) new) u (subst (λ (l : List ℕ). In u (map (with_atom x) l)) (append-nil before) there)
  in_pairs before (x ∷ new) (suc k) within u there =
      In-append_right (map (with_atom x) before) (pairs_after (before ++ x ∷ []) new) u
      (in_pairs (before ++ x ∷ []) new k (omega arith) u
      (subst (λ (l : List ℕ). In u (map (with_atom (get_or new k 0)) l)) (sym (append_assoc before (x ∷ []) (take k new))) there))

  pub any_old : (old new : List ℕ) (k : ℕ) → k < length new → list_any t (map (with_atom (get_or new k 0)) old) ≡ true → list_any t (pairs_after old new) ≡ true
  any_old old new k within some =
      let f = with_atom (get_or new k 0) in
      let found = list_any-at t (map f old) some in
      list_any-from t (pairs_after old new) found.0 (in_pairs old new k within found.0
      (subst (In found.0) (sym (map-append f old (take k new))) (In-append_left (map f old) (map f (take k new)) found.0 found.1))) found.2

  pub any_new : (old new : List ℕ) (k : ℕ) → k < length new → list_any t (map (with_atom (get_or new k 0)) (take k new)) ≡ true → list_any t (pairs_after old new) ≡ true
  any_new old new k within some =
      let f = with_atom (get_or new k 0) in
      let found = list_any-at t (map f (take k new)) some in
      list_any-from t (pairs_after old new) found.0 (in_pairs old new k within found.0
      (subst (In found.0) (sym (map-append f old (take k new))) (In-append_right (map f old) (map f (take k new)) found.0 found.1))) found.2

  pub none_of_atom : (old new : List ℕ) (k : ℕ) → k < length new → list_any t (pairs_after old (take k new)) ≡ false →
      list_any t (map (with_atom (get_or new k 0)) old) ≡ false → list_any t (map (with_atom (get_or new k 0)) (take k new)) ≡ false →
      list_any t (pairs_after old (take (k + 1) new)) ≡ false
  none_of_atom old new k within none one other =
      let a = map (with_atom (get_or new k 0)) old in
      let b = map (with_atom (get_or new k 0)) (take k new) in
      ap (list_any t) (pairs_more old new k within)
      ∙ (list_any-append t (pairs_after old (take k new)) (a ++ b)
      ∙ ((λ j. none j || list_any-append t a b j) ∙ (λ j. one j || other j)))
