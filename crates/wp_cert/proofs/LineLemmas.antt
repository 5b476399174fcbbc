-- Lines of a certificate, one after another.
use Rattle.std.proofs.Common.{rules, ◌≡◌, ◌==◌, ◌&&◌, not, ℕ, zero, suc, ◌+◌, ◌-◌, ◌<◌, ◌≤◌, Bool, true, false, cond, nat_lt, List, [], ◌∷◌, ◌++◌, length, get_or, Option, Some, None, Result, Ok, Err, refl, sym, ap, ◌∙◌, subst, ⊎_elim, arith, append_assoc, length-append}
use Rattle.std.specs.Prelude.{MatchOption}
use Rattle.std.specs.List.{All}
use Rattle.std.specs.List.Sorted.{IsStrictlyIncreasing}
use Rattle.std.proofs.lemmas.Bool.{both_ways, cases_lt}
use Rattle.std.proofs.lemmas.List.{append-nil, get_or_append_left}
use Rattle.std.proofs.lemmas.List.Elements.{All-push, All-weaker}
use Rattle.std.proofs.Math.Seq.{get_or-append_seam}
use Rattle.wp_task.specs.Set.{AreAtoms}
use Rattle.wp_cert.specs.Format.{longer, pieces, pieces_in, put_first, after_number, number_in, atoms_from, is_comment, one_number, count_in, added_by, with_states, is_done, finished, states_from, header_from}

-- ---- a text has a first piece
pub record HasFirst (tail : List (List ℕ)) : Type 0 where
  pub first : List ℕ
  pub rest : List (List ℕ)
  pub is : tail ≡ first ∷ rest

pub some_piece : (mark : ℕ) (text : List ℕ) → HasFirst (pieces mark text)
some_piece mark [] = record { first = []; rest = []; is = refl }
some_piece mark (byte ∷ text) = by (byte == mark) (some_piece mark text) where
  by : (t : Bool) → HasFirst (pieces mark text) → HasFirst (cond t ([] ∷ pieces mark text) (longer byte (pieces mark text)))
  by true some = record { first = []; rest = pieces mark text; is = refl }
  by false some = record { first = byte ∷ some.first; rest = some.rest; is = ap (longer byte) some.is }

pub one_number_more : (first text : List ℕ) → one_number (first ∷ pieces 32 text) ≡ None
one_number_more first text = let some = some_piece 32 text in ap (λ ps. one_number (first ∷ ps)) some.is

-- ---- a header behind comments
module _ (number : ℕ) (line : List ℕ) (tail : List (List ℕ)) (some : HasFirst tail) where
  abbrev after_count : Option ℕ → Result (List (List ℕ)) ℕ
  after_count o = elim o as (λ _. Result (List (List ℕ)) ℕ) [
    | None ↦ Err number
    | Some count ↦ states_from (number + 1) count (some.first ∷ some.rest)
  ]

  abbrev after_comment : Bool → Result (List (List ℕ)) ℕ
  after_comment t = elim t as (λ _. Result (List (List ℕ)) ℕ) [
    | true ↦ header_from (number + 1) (some.first ∷ some.rest)
    | false ↦ after_count (count_in line)
  ]

  pub header_comment : is_comment line ≡ true → header_from number (line ∷ tail) ≡ header_from (number + 1) tail
  header_comment is = ap (λ ps. header_from number (line ∷ ps)) some.is ∙ ap after_comment is ∙ ap (header_from (number + 1)) (sym some.is)

  pub header_none : is_comment line ≡ false → count_in line ≡ None → header_from number (line ∷ tail) ≡ Err number
  header_none is none = ap (λ ps. header_from number (line ∷ ps)) some.is ∙ ap after_comment is ∙ ap after_count none

  pub header_some : (count : ℕ) → is_comment line ≡ false → count_in line ≡ Some count →
      header_from number (line ∷ tail) ≡ states_from (number + 1) count tail
  header_some count is told =
      ap (λ ps. header_from number (line ∷ ps)) some.is ∙ ap after_comment is ∙ ap after_count told ∙ ap (states_from (number + 1) count) (sym some.is)

  -- ---- states
  abbrev after_added : ℕ → Option (List (List ℕ)) → Result (List (List ℕ)) ℕ
  after_added left o = elim o as (λ _. Result (List (List ℕ)) ℕ) [
    | None ↦ Err number
    | Some states ↦ with_states states (states_from (number + 1) (left - length states) (some.first ∷ some.rest))
  ]

  pub states_none : (left : ℕ) → added_by left line ≡ None → states_from number left (line ∷ tail) ≡ Err number
  states_none left none = ap (λ ps. states_from number left (line ∷ ps)) some.is ∙ ap (after_added left) none

  pub states_some : (left : ℕ) (added : List (List ℕ)) → added_by left line ≡ Some added →
      states_from number left (line ∷ tail) ≡ with_states added (states_from (number + 1) (left - length added) tail)
  states_some left added is =
      ap (λ ps. states_from number left (line ∷ ps)) some.is
      ∙ ap (after_added left) is
      ∙ ap (λ ps. with_states added (states_from (number + 1) (left - length added) ps)) (sym some.is)

pub with_states-twice : (front back : List (List ℕ)) (r : Result (List (List ℕ)) ℕ) →
    with_states front (with_states back r) ≡ with_states (front ++ back) r
with_states-twice front back (Err number) = refl
with_states-twice front back (Ok states) = ap Ok (sym (append_assoc front back states))

-- one line of states on
pub line_taken : (number count : ℕ) (old new added : List (List ℕ)) (line behind : List ℕ) → new ≡ old ++ added → length new ≤ count →
    added_by (count - length old) line ≡ Some added →
    with_states new (states_from (number + 1) (count - length new) (pieces 10 behind))
    ≡ with_states old (states_from number (count - length old) (line ∷ pieces 10 behind))
line_taken number count old new added line behind are few told =
    let sizes : length new ≡ length old + length added = ap length are ∙ length-append old added in
    let less : count - length new ≡ count - length old - length added = omega (arith, sizes, few) in
    ap (λ k. with_states new (states_from (number + 1) k (pieces 10 behind))) less
    ∙ ap (λ l. with_states l (states_from (number + 1) (count - length old - length added) (pieces 10 behind))) are
    ∙ sym (with_states-twice old added (states_from (number + 1) (count - length old - length added) (pieces 10 behind)))
    ∙ ap (with_states old) (sym (states_some number line (pieces 10 behind) (some_piece 10 behind) (count - length old) added told))

-- what is left when the lines are over
pub lines_over : (number left : ℕ) (states : List (List ℕ)) (last : List ℕ) →
    finished number left states last ≡ with_states states (states_from number left (last ∷ []))
lines_over number left states last = by (is_done last left) where
  by : (t : Bool) → cond t (Ok states) (Err number) ≡ with_states states (cond t (Ok []) (Err number))
  by true = ap Ok (sym (append-nil states))
  by false = refl

-- whether a line is of its form
pub refused_line : (o : Option (List (List ℕ))) (ok : Bool) (old new : List (List ℕ)) →
    MatchOption o (ok ≡ false) (λ added. (ok ≡ true) × (new ≡ old ++ added)) → ok ≡ false → o ≡ None
refused_line None ok old new told is = refl
refused_line (Some added) ok old new told is = absurd (both_ways ok is told.0)

pub taken_line : (o : Option (List (List ℕ))) (ok : Bool) (old new : List (List ℕ)) →
    MatchOption o (ok ≡ false) (λ added. (ok ≡ true) × (new ≡ old ++ added)) → ok ≡ true →
    (added : List (List ℕ)) × (o ≡ Some added) × (new ≡ old ++ added)
taken_line None ok old new told is = absurd (both_ways ok told is)
taken_line (Some added) ok old new told is =
    let found : (more : List (List ℕ)) × (Some added ≡ Some more) × (new ≡ old ++ more) = (added, refl, told.1) in found

-- ---- atoms
-- all atoms, where the rest are there
abbrev pub put_all : List ℕ → Option (List ℕ) → Option (List ℕ)
put_all front None = None
put_all front (Some rest) = Some (front ++ rest)

put_one : (front : List ℕ) (n : ℕ) (rest : Option (List ℕ)) → put_all (front ++ n ∷ []) rest ≡ put_all front (put_first (Some n) rest)
put_one front n None = refl
put_one front n (Some rest) = ap Some (append_assoc front (n ∷ []) rest)

pub atoms-none : (low : ℕ) (front word : List ℕ) (words : List (List ℕ)) → number_in low 65535 word ≡ None →
    put_all front (atoms_from low (word ∷ words)) ≡ None
atoms-none low front word words none =
    ap (λ o. put_all front (put_first o (atoms_from (after_number o) words))) none

pub atoms-some : (low n : ℕ) (front word : List ℕ) (words : List (List ℕ)) → number_in low 65535 word ≡ Some n →
    put_all (front ++ n ∷ []) (atoms_from (n + 1) words) ≡ put_all front (atoms_from low (word ∷ words))
atoms-some low n front word words is =
    put_one front n (atoms_from (n + 1) words)
    ∙ ap (λ o. put_all front (put_first o (atoms_from (after_number o) words))) (sym is)

pub put_nothing : (atoms : Option (List ℕ)) → put_all [] atoms ≡ atoms
put_nothing None = refl
put_nothing (Some atoms) = refl

-- increasing atoms, all below a number
pub record AreBelow (low : ℕ) (atoms : List ℕ) : Type 0 where
  pub fit : AreAtoms 65536 atoms
  pub below : All (λ p. p < low) atoms

rising_push : (xs : List ℕ) (p : ℕ) → IsStrictlyIncreasing xs → All (λ q. q < p) xs → IsStrictlyIncreasing (xs ++ p ∷ [])
rising_push xs p rising below k within = ⊎_elim
    (λ (inside : k + 1 < length xs).
    let here : get_or (xs ++ p ∷ []) k 0 ≡ get_or xs k 0 = get_or_append_left xs (p ∷ []) 0 k (omega arith) in
    let next : get_or (xs ++ p ∷ []) (k + 1) 0 ≡ get_or xs (k + 1) 0 = get_or_append_left xs (p ∷ []) 0 (k + 1) inside in
    omega (arith, rising k inside, here, next))
    (λ (last : length xs ≤ k + 1).
    let at : k + 1 ≡ length xs = omega (arith, length-append xs (p ∷ [])) in
    let here : get_or (xs ++ p ∷ []) k 0 ≡ get_or xs k 0 = get_or_append_left xs (p ∷ []) 0 k (omega arith) in
    let next : get_or (xs ++ p ∷ []) (k + 1) 0 ≡ p = ap (λ i. get_or (xs ++ p ∷ []) i 0) at ∙ get_or-append_seam xs p [] 0 in
    let less : get_or xs k 0 < p = below k 0 (omega arith) in
    omega (arith, here, next, less))
    (cases_lt (k + 1) (length xs))

pub below_push : (low p : ℕ) (atoms : List ℕ) → AreBelow low atoms → low ≤ p → p ≤ 65535 → AreBelow (p + 1) (atoms ++ p ∷ [])
below_push low p atoms are above small = record {
  fit = record {
    below = All-push (λ q. q < 65536) atoms p are.fit.below (omega arith);
    rising = rising_push atoms p are.fit.rising (λ k d within. omega (arith, are.below k d within));
  };
  below = All-push (λ q. q < p + 1) atoms p (λ k d within. omega (arith, are.below k d within)) (omega arith);
}
