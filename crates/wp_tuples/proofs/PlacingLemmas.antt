-- The index of all tuples keeps what is asked of an index.
use Rattle.std.proofs.Common.{◌≡◌, ℕ, ◌+◌, ◌^◌, ◌<◌, ◌≤◌, List, [], ◌∷◌, length, refl, sym, ap, ◌∙◌, subst, ⊎_elim, arith}
use Rattle.std.specs.List.{Contains}
use Rattle.wp_task.specs.Novelty.{tuples_in}
use Rattle.wp_tuples.specs.TuplePlaces.{Indexed, place_of, tuples_of}
use Rattle.wp_tuples.specs.Placing.{HasPlace, place_in, AreApart, all_placed, TuplesHavePlaces}
use Rattle.wp_tuples.proofs.Triangles.{triangle, triangle_le}
use Rattle.wp_tuples.proofs.CountLemmas.{length-tuples_one, length-tuples_two}
use Rattle.wp_tuples.proofs.PlaceLemmas.{IsSingle, IsPair, one_tuple, two_tuple, one_or_two, are_numbered, single_contained, single_contained_two, pair_contained}

-- a tuple that has a place is a tuple of the index, at the same place
there : (index : Indexed) (tuple : List ℕ) → 1 ≤ index.width → index.width ≤ 2 → HasPlace (all_placed index) tuple → Contains (tuples_of index) tuple
there index [] low high h = absurd h
there index (p ∷ []) low high h = ⊎_elim
    (λ (one : index.width ≡ 1). subst (λ (w : ℕ). Contains (tuples_in w index.atoms) (p ∷ [])) (sym one) (single_contained index.atoms p h))
    (λ (two : index.width ≡ 2). subst (λ (w : ℕ). Contains (tuples_in w index.atoms) (p ∷ [])) (sym two) (single_contained_two index.atoms p h))
    (one_or_two index.width low high)
there index (p ∷ q ∷ []) low high h =
    subst (λ (w : ℕ). Contains (tuples_in w index.atoms) (p ∷ q ∷ [])) (sym h.0) (pair_contained index.atoms p q h.1.0 h.1.1)
there index (p ∷ q ∷ r ∷ rest) low high h = absurd h

-- and the other way round
single_has : (index : Indexed) (tuple : List ℕ) → IsSingle 0 index.atoms tuple → HasPlace (all_placed index) tuple
single_has index tuple s = subst (λ (t : List ℕ). HasPlace (all_placed index) t) (sym s.3) (let below : s.0 < index.atoms = omega (arith, s.2) in below)

has_place : (index : Indexed) (tuple : List ℕ) → 1 ≤ index.width → index.width ≤ 2 → Contains (tuples_of index) tuple → HasPlace (all_placed index) tuple
has_place index tuple low high h = ⊎_elim
    (λ (one : index.width ≡ 1). single_has index tuple (one_tuple index.atoms tuple (subst (λ (w : ℕ). Contains (tuples_in w index.atoms) tuple) one h)))
    (λ (two : index.width ≡ 2). ⊎_elim
    (λ (s : IsSingle 0 index.atoms tuple). single_has index tuple s)
    (λ (s : IsPair 0 index.atoms tuple).
    let below : s.1 < index.atoms = omega (arith, s.4) in
    subst (λ (t : List ℕ). HasPlace (all_placed index) t) (sym s.5) (two, (s.3, below, refl)))
    (two_tuple index.atoms tuple (subst (λ (w : ℕ). Contains (tuples_in w index.atoms) tuple) two h)))
    (one_or_two index.width low high)

pub tuples_placed : TuplesHavePlaces
tuples_placed index tuple low high = (has_place index tuple low high, there index tuple low high)

same_place : (index : Indexed) (tuple : List ℕ) → HasPlace (all_placed index) tuple → place_in (all_placed index) tuple ≡ place_of index.atoms tuple
same_place index [] h = absurd h
same_place index (p ∷ []) h = refl
same_place index (p ∷ q ∷ []) h = refl
same_place index (p ∷ q ∷ r ∷ rest) h = absurd h

few : (index : Indexed) → index.atoms ≤ 65536 → 1 ≤ index.width → index.width ≤ 2 → length (tuples_of index) ≤ 2 ^ 32
few index small low high = ⊎_elim
    (λ (one : index.width ≡ 1).
    let count : length (tuples_of index) ≡ index.atoms = ap (λ w. length (tuples_in w index.atoms)) one ∙ length-tuples_one index.atoms in omega arith)
    (λ (two : index.width ≡ 2).
    let count : length (tuples_of index) ≡ index.atoms + triangle index.atoms = ap (λ w. length (tuples_in w index.atoms)) two ∙ length-tuples_two index.atoms in
    let most : triangle index.atoms ≤ triangle 65536 = triangle_le index.atoms 65536 small in
    omega arith)
    (one_or_two index.width low high)

pub all_apart : (index : Indexed) → index.atoms ≤ 65536 → 1 ≤ index.width → index.width ≤ 2 → AreApart (all_placed index)
all_apart index small low high = record {
  width = (low, high);
  few = few index small low high;
  below = λ tuple h.
      subst (λ (k : ℕ). k < length (tuples_of index)) (sym (same_place index tuple h))
      ((are_numbered index.atoms index.width low high).below tuple (there index tuple low high h));
  apart = λ one other h k same.
      (are_numbered index.atoms index.width low high).apart one other (there index one low high h) (there index other low high k)
      (sym (same_place index one h) ∙ (same ∙ same_place index other k));
}
