-- Ranks of atoms make an index.
use Rattle.std.proofs.Common.{◌≡◌, ◌⊎◌, ◌&&◌, ◌≢◌, ℕ, ◌+◌, ◌-◌, ◌^◌, ◌<◌, ◌≤◌, min, max, Bool, true, false, List, [], ◌∷◌, length, get_or, set, refl, sym, ap, ◌∙◌, subst, inl, inr, ⊎_elim, arith, length-set, get_or-set_other, get_or-set_same}
use Rattle.std.specs.Prelude.{◌==◌, nat_lt, replicate}
use Rattle.std.specs.List.{list_all}
use Rattle.std.proofs.lemmas.Bool.{cases_lt, cases_order, cases_Bool, cases_eq, ltb-true, ltb-false, lt-ltb, eq-eqb, cond-true, cond-false, and_parts, and_from}
use Rattle.std.proofs.lemmas.List.{get_or-replicate, get_or_past, length-replicate}
use Rattle.wp_tuples.specs.Placing.{HasPlace, place_in, AreApart}
use Rattle.wp_tuples.specs.Ranking.{Ranking, rank_of, is_ranked, is_held, pairs_below, ranked, IsRanking, unranked, Extends, HoldsAtoms}
use Rattle.wp_tuples.proofs.Triangles.{triangle, triangle_le, triangle_more, within_row, same_row}

abbrev NoRank : ℕ
NoRank = 2 ^ 32 - 1

-- ---- two numbers, the lesser and the greater
same_two : (a b c d : ℕ) → max a b ≡ max c d → min a b ≡ min c d → ((a ≡ c) × (b ≡ d)) ⊎ ((a ≡ d) × (b ≡ c))
same_two a b c d greater lesser = ⊎_elim
    (λ (up : a < b). ⊎_elim
    (λ (other : c < d). let one : a ≡ c = omega arith in let two : b ≡ d = omega arith in inl (one, two))
    (λ (other : d ≤ c). let one : a ≡ d = omega arith in let two : b ≡ c = omega arith in inr (one, two))
    (cases_lt c d))
    (λ (down : b ≤ a). ⊎_elim
    (λ (other : c < d). let one : a ≡ d = omega arith in let two : b ≡ c = omega arith in inr (one, two))
    (λ (other : d ≤ c). let one : a ≡ c = omega arith in let two : b ≡ d = omega arith in inl (one, two))
    (cases_lt c d))
    (cases_lt a b)

two_within : (a b u : ℕ) → a < u → b < u → a ≢ b → triangle (max a b) + min a b < triangle u
two_within a b u one two apart = ⊎_elim
    (λ (even : a ≡ b). absurd (apart even))
    (λ (differ : (a < b) ⊎ (b < a)). ⊎_elim
    (λ (less : a < b). within_row (min a b) (max a b) u (omega arith) (omega arith))
    (λ (more : b < a). within_row (min a b) (max a b) u (omega arith) (omega arith))
    differ)
    (cases_order a b)

lesser_first : (a b : ℕ) → a ≢ b → min a b < max a b
lesser_first a b apart = ⊎_elim
    (λ (even : a ≡ b). absurd (apart even))
    (λ (differ : (a < b) ⊎ (b < a)). ⊎_elim (λ (less : a < b). omega arith) (λ (more : b < a). omega arith) differ)
    (cases_order a b)

-- ---- what is held
pub held_at_two : (r : Ranking) (p : ℕ) → r.width ≡ 2 → is_held r p ≡ is_ranked r p
held_at_two r p wide = cond-true (r.width == 2) (is_ranked r p) (nat_lt p (length r.ranks)) (eq-eqb r.width 2 wide)

held_ranked : (r : Ranking) (p : ℕ) → r.width ≡ 2 → is_held r p ≡ true → is_ranked r p ≡ true
held_ranked r p wide h = sym (held_at_two r p wide) ∙ h

ranked_within : (r : Ranking) (p : ℕ) → r.used ≤ 65536 → is_ranked r p ≡ true → p < length r.ranks
ranked_within r p few h = ⊎_elim
    (λ (there : p < length r.ranks). there)
    (λ (past : length r.ranks ≤ p).
    let none : rank_of r p ≡ NoRank = get_or_past r.ranks p NoRank past in
    let low : rank_of r p < r.used = ltb-true (rank_of r p) r.used h in absurd (omega arith))
    (cases_lt p (length r.ranks))

pub held_within : (r : Ranking) → IsRanking r → HoldsAtoms r
held_within r is p h = ⊎_elim
    (λ (wide : (r.width == 2) ≡ true).
    ranked_within r p is.few (sym (cond-true (r.width == 2) (is_ranked r p) (nat_lt p (length r.ranks)) wide) ∙ h))
    (λ (narrow : (r.width == 2) ≡ false).
    ltb-true p (length r.ranks) (sym (cond-false (r.width == 2) (is_ranked r p) (nat_lt p (length r.ranks)) narrow) ∙ h))
    (cases_Bool (r.width == 2))

-- ---- places
module _ (r : Ranking) (is : IsRanking r) where
  abbrev n : ℕ
  n = length r.ranks

  abbrev rank : ℕ → ℕ
  rank p = rank_of r p

  ranked_below : (p : ℕ) → is_ranked r p ≡ true → rank p < r.used
  ranked_below p h = ltb-true (rank p) r.used h

  -- two atoms of a pair that is counted have different ranks
  record Two (p q : ℕ) : Type 0 where
    one : rank p < r.used
    two : rank q < r.used
    differ : rank p ≢ rank q

  two_of : (p q : ℕ) → r.width ≡ 2 → p < q → (is_held r p && is_held r q) ≡ true → Two p q
  two_of p q wide order h =
      let parts = and_parts (is_held r p) (is_held r q) h in
      let first : rank p < r.used = ranked_below p (held_ranked r p wide parts.0) in
      record {
        one = first;
        two = ranked_below q (held_ranked r q wide parts.1);
        differ = λ e. let same : p ≡ q = is.apart p q first e in omega arith;
      }

  pair_below : (p q : ℕ) → Two p q → (ranked r).pair_place p q < (ranked r).len
  pair_below p q t = let row : triangle (max (rank p) (rank q)) + min (rank p) (rank q) < triangle r.used = two_within (rank p) (rank q) r.used t.one t.two t.differ in omega arith

  below : (tuple : List ℕ) → HasPlace (ranked r) tuple → place_in (ranked r) tuple < (ranked r).len
  below [] h = absurd h
  below (p ∷ []) h = let low : p < n = h in omega arith
  below (p ∷ q ∷ []) h = pair_below p q (two_of p q h.0 h.1.0 h.1.2)
  below (p ∷ q ∷ other ∷ rest) h = absurd h

  pairs_apart : (p q s t : ℕ) → p < q → s < t → Two p q → Two s t → (ranked r).pair_place p q ≡ (ranked r).pair_place s t → p ∷ q ∷ [] ≡ s ∷ t ∷ []
  pairs_apart p q s t first second one other same =
      let rows = same_row (min (rank p) (rank q)) (max (rank p) (rank q)) (min (rank s) (rank t)) (max (rank s) (rank t))
      (lesser_first (rank p) (rank q) one.differ) (lesser_first (rank s) (rank t) other.differ) (omega arith) in
      ⊎_elim
      (λ (straight : (rank p ≡ rank s) × (rank q ≡ rank t)).
      let low : p ≡ s = is.apart p s one.one straight.0 in
      let high : q ≡ t = is.apart q t one.two straight.1 in
      (λ j. low j ∷ high j ∷ []))
      (λ (crossed : (rank p ≡ rank t) × (rank q ≡ rank s)).
      let low : p ≡ t = is.apart p t one.one crossed.0 in
      let high : q ≡ s = is.apart q s one.two crossed.1 in
      absurd (omega arith))
      (same_two (rank p) (rank q) (rank s) (rank t) rows.0 rows.1)

  apart : (one other : List ℕ) → HasPlace (ranked r) one → HasPlace (ranked r) other → place_in (ranked r) one ≡ place_in (ranked r) other → one ≡ other
  apart [] other h k same = absurd h
  apart (p ∷ []) [] h k same = absurd k
  apart (p ∷ []) (s ∷ []) h k same = ap (λ x. x ∷ []) same
  apart (p ∷ []) (s ∷ t ∷ []) h k same = let low : p < n = h in absurd (omega arith)
  apart (p ∷ []) (s ∷ t ∷ x ∷ rest) h k same = absurd k
  apart (p ∷ q ∷ []) [] h k same = absurd k
  apart (p ∷ q ∷ []) (s ∷ []) h k same = let low : s < n = k in absurd (omega arith)
  apart (p ∷ q ∷ []) (s ∷ t ∷ []) h k same = pairs_apart p q s t h.1.0 k.1.0 (two_of p q h.0 h.1.0 h.1.2) (two_of s t k.0 k.1.0 k.1.2) same
  apart (p ∷ q ∷ []) (s ∷ t ∷ x ∷ rest) h k same = absurd k
  apart (p ∷ q ∷ x ∷ rest) other h k same = absurd h

  pub ranked_apart : AreApart (ranked r)
  ranked_apart = record {
    width = is.width;
    few = let most : triangle r.used ≤ triangle 65536 = triangle_le r.used 65536 is.few in omega (arith, is.atoms);
    below = below;
    apart = apart;
  }

-- ---- no ranks
pub no_ranks : (width atoms : ℕ) → 1 ≤ width → width ≤ 2 → atoms ≤ 2 ^ 31 → IsRanking (unranked width atoms)
no_ranks width atoms low high most = record {
  width = (low, high);
  atoms = let count : length (replicate atoms NoRank) ≡ atoms = length-replicate atoms NoRank in omega arith;
  few = omega arith;
  given = λ p. inr (all_none atoms p);
  apart = λ p q none same. absurd (omega arith);
} where
  all_none : (count p : ℕ) → get_or (replicate count NoRank) p NoRank ≡ NoRank
  all_none count p = ⊎_elim
      (λ (there : p < count). get_or-replicate count p NoRank NoRank there)
      (λ (past : count ≤ p). get_or_past (replicate count NoRank) p NoRank (let size : length (replicate count NoRank) ≡ count = length-replicate count NoRank in omega arith))
      (cases_lt p count)

-- ---- a rank more
module _ (r : Ranking) (is : IsRanking r) (p : ℕ) (atom : p < length r.ranks) (room : r.used < 65536) (wide : r.width ≡ 2) (none : is_ranked r p ≡ false) where
  abbrev after : Ranking
  after = record { width = r.width; ranks = set r.ranks p r.used; used = r.used + 1 }

  here : rank_of after p ≡ r.used
  here = get_or-set_same r.ranks p r.used NoRank atom

  elsewhere : (q : ℕ) → q ≢ p → rank_of after q ≡ rank_of r q
  elsewhere q ne = get_or-set_other r.ranks p q r.used NoRank ne

  count : length after.ranks ≡ length r.ranks
  count = length-set r.ranks p r.used

  not_below : r.used ≤ rank_of r p
  not_below = ltb-false (rank_of r p) r.used none

  given_after : (q : ℕ) → (rank_of after q < after.used) ⊎ (rank_of after q ≡ NoRank)
  given_after q = ⊎_elim
      (λ (same : q ≡ p). let rank : rank_of after q ≡ r.used = ap (rank_of after) same ∙ here in inl (omega arith))
      (λ (ne : q ≢ p). ⊎_elim
      (λ (low : rank_of r q < r.used). inl (omega (arith, elsewhere q ne)))
      (λ (no : rank_of r q ≡ NoRank). inr (elsewhere q ne ∙ no))
      (is.given q))
      (cases_eq q p)

  apart_after : (q s : ℕ) → rank_of after q < after.used → rank_of after q ≡ rank_of after s → q ≡ s
  apart_after q s low same = ⊎_elim
      (λ (qp : q ≡ p). ⊎_elim
      (λ (sp : s ≡ p). qp ∙ sym sp)
      (λ (ns : s ≢ p).
      let rank : rank_of after q ≡ r.used = ap (rank_of after) qp ∙ here in
      ⊎_elim
      (λ (less : rank_of r s < r.used). absurd (omega (arith, elsewhere s ns)))
      (λ (no : rank_of r s ≡ NoRank). absurd (omega (arith, elsewhere s ns)))
      (is.given s))
      (cases_eq s p))
      (λ (nq : q ≢ p). ⊎_elim
      (λ (sp : s ≡ p).
      let rank : rank_of after s ≡ r.used = ap (rank_of after) sp ∙ here in
      ⊎_elim
      (λ (less : rank_of r q < r.used). absurd (omega (arith, elsewhere q nq)))
      (λ (no : rank_of r q ≡ NoRank). absurd (omega (arith, elsewhere q nq)))
      (is.given q))
      (λ (ns : s ≢ p). ⊎_elim
      (λ (less : rank_of r q < r.used). is.apart q s less (sym (elsewhere q nq) ∙ (same ∙ elsewhere s ns)))
      (λ (no : rank_of r q ≡ NoRank). absurd (omega (arith, elsewhere q nq)))
      (is.given q))
      (cases_eq s p))
      (cases_eq q p)

  pub after_is : IsRanking after
  after_is = record {
    width = is.width;
    atoms = omega (arith, count, is.atoms);
    few = omega arith;
    given = given_after;
    apart = apart_after;
  }

  pub given_here : is_ranked after p ≡ true
  given_here = lt-ltb (rank_of after p) after.used (omega (arith, here))

  differs : (q : ℕ) → is_ranked r q ≡ true → q ≢ p
  differs q h e = let mine : is_ranked r p ≡ true = ap (is_ranked r) (sym e) ∙ h in cc

  stays : (q : ℕ) → is_ranked r q ≡ true → rank_of after q ≡ rank_of r q
  stays q h = elsewhere q (differs q h)

  still_ranked : (q : ℕ) → is_ranked r q ≡ true → is_ranked after q ≡ true
  still_ranked q h = let low : rank_of r q < r.used = ltb-true (rank_of r q) r.used h in lt-ltb (rank_of after q) after.used (omega (arith, stays q h))

  held : (q : ℕ) → is_held r q ≡ true → is_held after q ≡ true
  held q h = held_at_two after q wide ∙ still_ranked q (held_ranked r q wide h)

  pub held_here : is_held after p ≡ true
  held_here = held_at_two after p wide ∙ given_here

  same : (tuple : List ℕ) → list_all (is_held r) tuple ≡ true → place_in (ranked after) tuple ≡ place_in (ranked r) tuple
  same [] h = refl
  same (q ∷ []) h = refl
  same (q ∷ s ∷ rest) h =
      let one = and_parts (is_held r q) (list_all (is_held r) (s ∷ rest)) h in
      let two = and_parts (is_held r s) (list_all (is_held r) rest) one.1 in
      let first : rank_of after q ≡ rank_of r q = stays q (held_ranked r q wide one.0) in
      let second : rank_of after s ≡ rank_of r s = stays s (held_ranked r s wide two.0) in
      (λ j. count j + pairs_below (max (first j) (second j)) + min (first j) (second j))

  pub extends : Extends r after
  extends = record { width = refl; held = held; same = same }

-- ---- many ranks more
pub extends_itself : (r : Ranking) → Extends r r
extends_itself r = record { width = refl; held = λ p h. h; same = λ tuple h. refl }

all_held : (old new : Ranking) → ((p : ℕ) → is_held old p ≡ true → is_held new p ≡ true) → (tuple : List ℕ) → list_all (is_held old) tuple ≡ true →
    list_all (is_held new) tuple ≡ true
all_held old new step [] h = h
all_held old new step (p ∷ tuple) h =
    let parts = and_parts (is_held old p) (list_all (is_held old) tuple) h in
    and_from (is_held new p) (list_all (is_held new) tuple) (step p parts.0) (all_held old new step tuple parts.1)

pub extends_then : (a b c : Ranking) → Extends a b → Extends b c → Extends a c
extends_then a b c first second = record {
  width = second.width ∙ first.width;
  held = λ p h. second.held p (first.held p h);
  same = λ tuple h. second.same tuple (all_held a b first.held tuple h) ∙ first.same tuple h;
}
