-- Tables as pairs are opened, and what they stand for.
use Rattle.std.proofs.Common.{◌≡◌, ◌&&◌, ◌||◌, ℕ, suc, ◌+◌, ◌-◌, ◌*◌, ◌^◌, ◌<◌, ◌≤◌, min, cond, true, false, List, [], ◌∷◌, ◌++◌, length, get_or, map, Option, Some, refl, sym, ap, ◌∙◌, subst, ⊎_elim, arith, append-nil, length-append}
use Rattle.std.specs.Prelude.{slice_get, option_map}
use Rattle.std.specs.List.{All, AllPairs, list_all, list_any}
use Rattle.std.specs.Map.{keys_of}
use Rattle.std.specs.Option.{option_or}
use Rattle.std.proofs.lemmas.Bool.{cases_lt, both_ways, false_from_ne_true}
use Rattle.std.proofs.lemmas.List.{get_or_append_left, get_or-append-add, length_push, map_push}
use Rattle.std.proofs.lemmas.List.Elements.{All-head, All-tail, All-weaker}
use Rattle.std.proofs.lemmas.List.Folds.{list_any-append}
use Rattle.std.proofs.lemmas.Option.{slice_get-get_or}
use Rattle.std.proofs.Math.Nat.{suc-mul}
use Rattle.wp_task.specs.Set.{has}
use Rattle.wp_task.specs.Novelty.{Generated}
use Rattle.wp_tuples.specs.Placing.{Placing}
use Rattle.wp_arrive.specs.declared.view.Arrival.{Arrival}
use Rattle.wp_novel.specs.declared.birth.Pair.{Pair}
use Rattle.wp_novel.specs.NoveltyTables.{HomeView, NoveltyTables, AreFilled, IsFilled, IsAtHome, counters_of, is_same, is_among, pairs_of, is_open, IsOpen, is_pair, home_of}
use Rattle.wp_novel.specs.StandsFor.{first_number, last_number, last_after, StandsFor}
use Rattle.wp_novel.proofs.PairLemmas.{Homes, same_pair, same_counters, opened_cases}
use Rattle.wp_novel.proofs.GrowLemmas.{unmarked_first}

-- ---- a pair more
abbrev pub with_homes : Placing → ℕ → Option ℕ → List ℕ → Homes → NoveltyTables
with_homes places limit last out homes = record { index = places; limit = limit; homes = homes; last = last; out = out }

abbrev pub opened : NoveltyTables → Pair → HomeView → NoveltyTables
opened t pair home = record t { homes = t.homes ++ (pair, home) ∷ [] }

pub pairs_more : (homes : Homes) (pair : Pair) (home : HomeView) → pairs_of (homes ++ (pair, home) ∷ []) ≡ pairs_of homes ++ counters_of pair ∷ []
pairs_more homes pair home =
    ap (λ (ks : List Pair). map counters_of ks) (map_push (λ (e : Pair × HomeView). e.0) homes (pair, home)) ∙ map_push counters_of (keys_of homes) pair

pub filled_more : (t : NoveltyTables) (pair : Pair) (home : HomeView) → AreFilled t → IsFilled t.index.width t.index.atoms home →
    length t.homes * t.index.len + t.index.len ≤ t.limit → AreFilled (opened t pair home)
filled_more t pair home filled words fits = record {
  apart = filled.apart;
  homes = λ q found e. ⊎_elim
      (λ (was : home_of t.homes q ≡ Some found). filled.homes q found was)
      (λ (new : (is_pair q pair ≡ true) × (home ≡ found)). subst (IsFilled t.index.width t.index.atoms) new.1 words)
      (opened_cases t.homes pair home q found e);
  within =
      let n : ℕ = t.index.len in
      let more : length (t.homes ++ (pair, home) ∷ []) ≡ suc (length t.homes) = length_push t.homes (pair, home) ∙ (let e : length t.homes + 1 ≡ suc (length t.homes) = omega arith in e) in
      let product : length (t.homes ++ (pair, home) ∷ []) * n ≡ length t.homes * n + n = ap (λ k. k * n) more ∙ suc-mul (length t.homes) n in
      omega arith;
  limited = filled.limited;
  rising = filled.rising;
  later = filled.later;
}

pub home_more : (t : NoveltyTables) (pair : Pair) (home : HomeView) → home.parts ≡ 2 ^ 32 → IsAtHome t → IsAtHome (opened t pair home)
home_more t pair home whole at = record {
  none_out = at.none_out;
  whole = λ q found e. ⊎_elim
      (λ (was : home_of t.homes q ≡ Some found). at.whole q found was)
      (λ (new : (is_pair q pair ≡ true) × (home ≡ found)). sym (ap (λ (h : HomeView). h.parts) new.1) ∙ whole)
      (opened_cases t.homes pair home q found e);
}

-- no birth has counters that are not open
none_first : (pairs : List (ℕ × ℕ)) (counters : ℕ × ℕ) (tuple : List ℕ) (births : List Generated) → is_among pairs counters ≡ false →
    All (λ b. is_among pairs b.counters ≡ true) births → first_number births counters tuple ≡ 2 ^ 64 - 1
none_first pairs counters tuple [] none are = refl
none_first pairs counters tuple (b ∷ births) none are =
    let other : is_same b.counters counters ≡ false = false_from_ne_true (is_same b.counters counters) (λ same.
    both_ways (is_among pairs counters) none (ap (is_among pairs) (sym (same_counters b.counters counters same)) ∙ All-head (λ (x : Generated). is_among pairs x.counters ≡ true) b births are)) in
    ap (λ s. cond (s && list_all (has b.state) tuple) (min b.number (first_number births counters tuple)) (first_number births counters tuple)) other
    ∙ none_first pairs counters tuple births none (All-tail (λ (x : Generated). is_among pairs x.counters ≡ true) b births are)

pub stands_more : (t : NoveltyTables) (pair : Pair) (home : HomeView) (births : List Generated) → home.marks ≡ [] → is_open t (counters_of pair) ≡ false →
    StandsFor t births → StandsFor (opened t pair home) births
stands_more t pair home births unmarked closed stands = record {
  rising = stands.rising;
  pairs = All-weaker (λ (b : Generated). IsOpen t b.counters) (λ (b : Generated). IsOpen (opened t pair home) b.counters)
      (λ b h. ap (λ ps. is_among ps b.counters) (pairs_more t.homes pair home)
      ∙ (list_any-append (λ y. is_same y b.counters) (pairs_of t.homes) (counters_of pair ∷ []) ∙ ap (λ x. x || list_any (λ y. is_same y b.counters) (counters_of pair ∷ [])) h)) births stands.pairs;
  last = stands.last;
  firsts = λ q found e tuple h. ⊎_elim
      (λ (was : home_of t.homes q ≡ Some found). stands.firsts q found was tuple h)
      (λ (new : (is_pair q pair ≡ true) × (home ≡ found)).
      let none : found.marks ≡ [] = ap (λ (x : HomeView). x.marks) (sym new.1) ∙ unmarked in
      unmarked_first found tuple none
      ∙ sym (none_first (pairs_of t.homes) (counters_of q) tuple births (ap (λ p. is_among (pairs_of t.homes) (counters_of p)) (same_pair q pair new.0) ∙ closed) stands.pairs))
      (opened_cases t.homes pair home q found e);
}

-- ---- births that come after births
pub pairs_append : (xs ys : List Generated) → AllPairs (λ x y. x.number < y.number) xs → AllPairs (λ x y. x.number < y.number) ys →
    ((i j : ℕ) (d : Generated) → i < length xs → j < length ys → (get_or xs i d).number < (get_or ys j d).number) → AllPairs (λ x y. x.number < y.number) (xs ++ ys)
pairs_append xs ys one other between i j d less within =
    let size : length (xs ++ ys) ≡ length xs + length ys = length-append xs ys in
    ⊎_elim
    (λ (both : j < length xs).
    let at_i : get_or (xs ++ ys) i d ≡ get_or xs i d = get_or_append_left xs ys d i (omega arith) in
    let at_j : get_or (xs ++ ys) j d ≡ get_or xs j d = get_or_append_left xs ys d j both in
    let h : (get_or xs i d).number < (get_or xs j d).number = one i j d less both in
    subst (λ (x : Generated). x.number < (get_or (xs ++ ys) j d).number) (sym at_i) (subst (λ (y : Generated). (get_or xs i d).number < y.number) (sym at_j) h))
    (λ (past : length xs ≤ j).
    let m : ℕ = j - length xs in
    let place : length xs + m ≡ j = omega arith in
    let at_j : get_or (xs ++ ys) j d ≡ get_or ys m d = ap (λ k. get_or (xs ++ ys) k d) (sym place) ∙ get_or-append-add xs ys m d in
    ⊎_elim
    (λ (first : i < length xs).
    let at_i : get_or (xs ++ ys) i d ≡ get_or xs i d = get_or_append_left xs ys d i first in
    let h : (get_or xs i d).number < (get_or ys m d).number = between i m d first (omega arith) in
    subst (λ (x : Generated). x.number < (get_or (xs ++ ys) j d).number) (sym at_i) (subst (λ (y : Generated). (get_or xs i d).number < y.number) (sym at_j) h))
    (λ (later : length xs ≤ i).
    let n : ℕ = i - length xs in
    let place_i : length xs + n ≡ i = omega arith in
    let at_i : get_or (xs ++ ys) i d ≡ get_or ys n d = ap (λ k. get_or (xs ++ ys) k d) (sym place_i) ∙ get_or-append-add xs ys n d in
    let h : (get_or ys n d).number < (get_or ys m d).number = other n m d (omega arith) (omega arith) in
    subst (λ (x : Generated). x.number < (get_or (xs ++ ys) j d).number) (sym at_i) (subst (λ (y : Generated). (get_or ys n d).number < y.number) (sym at_j) h))
    (cases_lt i (length xs)))
    (cases_lt j (length xs))

-- the last number is the greatest
pub last_is_greatest : (births : List Generated) (i : ℕ) (d : Generated) → AllPairs (λ x y. x.number < y.number) births → i < length births →
    (n : ℕ) × (last_number births ≡ Some n) × ((get_or births i d).number ≤ n)
last_is_greatest births i d rising within =
    let end : ℕ = length births - 1 in
    let n : ℕ = (get_or births end d).number in
    let last : last_number births ≡ Some n = ap (option_map (λ (b : Generated). b.number)) (slice_get-get_or births end d (omega arith)) in
    let most : (get_or births i d).number ≤ n = ⊎_elim
    (λ (less : i < end). let h : (get_or births i d).number < (get_or births end d).number = rising i end d less (omega arith) in omega arith)
    (λ (here : end ≤ i). let same : i ≡ end = omega arith in let e : (get_or births i d).number ≡ n = ap (λ k. (get_or births k d).number) same in omega arith)
    (cases_lt i end) in
    let found : (n : ℕ) × (last_number births ≡ Some n) × ((get_or births i d).number ≤ n) = (n, last, most) in found

pub last_number-append : (before : List Generated) (births : List Generated) → last_number (before ++ births) ≡ last_after births (last_number before)
last_number-append before [] = ap last_number (append-nil before)
last_number-append before (b ∷ births) =
    let size : length (before ++ b ∷ births) ≡ length before + suc (length births) = length-append before (b ∷ births) in
    let end : length (before ++ b ∷ births) - 1 ≡ length before + length births = omega arith in
    let last : last_number (b ∷ births) ≡ Some (get_or (b ∷ births) (length births) b).number =
    ap (λ k. option_map (λ (x : Generated). x.number) (slice_get (b ∷ births) k)) (let e : length (b ∷ births) - 1 ≡ length births = omega arith in e)
    ∙ ap (option_map (λ (x : Generated). x.number)) (slice_get-get_or (b ∷ births) (length births) b (omega arith)) in
    ap (option_map (λ (x : Generated). x.number))
    (slice_get-get_or (before ++ b ∷ births) (length (before ++ b ∷ births) - 1) b (omega arith)
    ∙ ap Some (ap (λ k. get_or (before ++ b ∷ births) k b) end ∙ get_or-append-add before (b ∷ births) (length births) b))
    ∙ sym (ap (λ o. option_or o (last_number before)) last)
