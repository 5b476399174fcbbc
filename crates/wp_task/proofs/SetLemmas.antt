-- Sets of atoms by their flags.
use Rattle.std.proofs.Common.{◌≡◌, ◌⊎◌, ◌==◌, ◌||◌, ◌&&◌, not, ℕ, zero, suc, ◌+◌, ◌<◌, ◌≤◌, Bool, true, false, cond, List, length, map, replicate, refl, ap, sym, ◌∙◌, ⊎_elim, arith}
use Rattle.std.specs.List.{count_by, range_with_len}
use Rattle.std.proofs.Math.Bool.{and-false, or-false, or-true}
use Rattle.std.proofs.lemmas.Bool.{cases_eq, cases_lt, eq-eqb, ne_eqb, or_left}
use Rattle.std.proofs.lemmas.List.{get_or_past, get_or-replicate, length-replicate}
use Rattle.std.proofs.lemmas.List.FromFn.{fill_by_all, length-range_with_len}
use Rattle.std.proofs.lemmas.List.Sums.{count_by-le-length, length-filter}
use Rattle.std.proofs.lemmas.Map.Keys.{sorted_from_strictly_increasing}
use Rattle.std.proofs.lemmas.Map.Views.{length-le_from_below}
use Rattle.wp_task.specs.declared.acts.Act.{Act}
use Rattle.wp_task.specs.Set.{has, lists, atoms_in, set_of, AreAtoms}
use Rattle.wp_task.specs.Task.{result_of}
use Rattle.wp_task.proofs.WordLemmas.{sum_by-range_more, sums_agree}

-- the empty set
pub has-replicate : (n q : ℕ) → has (replicate n false) q ≡ false
has-replicate n q = ⊎_elim
    (λ (within : q < n). get_or-replicate n q false false within)
    (λ (past : n ≤ q). get_or_past (replicate n false) q false (omega (arith, length-replicate {A = Bool})))
    (cases_lt q n)

-- a set is known by its flags
pub set_by_flags : (f : ℕ → Bool) (set : List Bool) (n : ℕ) → length set ≡ n → ((q : ℕ) → has set q ≡ f q) →
    set ≡ map f (range_with_len 0 n)
set_by_flags f set n len flags = fill_by_all f set n false len (λ k within. flags k)

-- the listed atoms, put into the empty set
pub set_of-filled : (atoms : List ℕ) (set : List Bool) (n : ℕ) → length set ≡ length (replicate n false) →
    ((q : ℕ) → has set q ≡ (has (replicate n false) q || lists atoms q)) → set ≡ set_of atoms n
set_of-filled atoms set n len flags = set_by_flags (lists atoms) set n (len ∙ length-replicate n false)
    (λ q. flags q ∙ ap (λ b. b || lists atoms q) (has-replicate n q))

-- the result of an action, by its flags
pub result_of-flags : (act : Act) (state next : List Bool) → length next ≡ length state →
    ((q : ℕ) → has next q ≡ ((has state q && not (lists act.del q)) || lists act.add q)) → next ≡ result_of act state
result_of-flags act state next len flags =
    set_by_flags (λ p. (has state p && not (lists act.del p)) || lists act.add p) next (length state) len flags

-- rising numbers below a bound are not more than it
pub few_atoms : (size : ℕ) (atoms : List ℕ) → AreAtoms size atoms → length atoms ≤ size
few_atoms size atoms are = length-le_from_below size atoms (sorted_from_strictly_increasing atoms are.rising) are.below

-- ---- how many atoms a set has
abbrev worth : Bool → ℕ
worth b = cond b 1 0

-- two tests that differ at p alone, which one of them passes
module _ (now before : ℕ → Bool) (p : ℕ) (is : now p ≡ true) (was : before p ≡ false) (others : (q : ℕ) → (q ≡ p → ⊥) → now q ≡ before q) where
  count_up_to : (n : ℕ) → n ≤ p → count_by now (range_with_len 0 n) ≡ count_by before (range_with_len 0 n)
  count_up_to n early =
      sums_agree (λ q. worth (now q)) (λ q. worth (before q)) n (λ i below. ap worth (others i (λ same. omega arith)))

  count_past : (n : ℕ) → p < n → count_by now (range_with_len 0 n) ≡ count_by before (range_with_len 0 n) + 1
  count_past zero within = absurd (omega arith)
  count_past (suc n) within =
      let more : count_by now (range_with_len 0 (n + 1)) ≡ count_by now (range_with_len 0 n) + worth (now n) =
      sum_by-range_more (λ q. worth (now q)) n in
      let more_before : count_by before (range_with_len 0 (n + 1)) ≡ count_by before (range_with_len 0 n) + worth (before n) =
      sum_by-range_more (λ q. worth (before q)) n in
      let one : n + 1 ≡ suc n = omega arith in
      let next : count_by now (range_with_len 0 (n + 1)) ≡ count_by before (range_with_len 0 (n + 1)) + 1 =
      ⊎_elim
      (λ (same : n ≡ p).
      let yes_now : worth (now n) ≡ 1 = ap (λ k. worth (now k)) same ∙ ap worth is in
      let no_before : worth (before n) ≡ 0 = ap (λ k. worth (before k)) same ∙ ap worth was in
      omega (arith, more, more_before, yes_now, no_before, count_up_to n (omega arith)))
      (λ (other : n ≡ p → ⊥).
      let alike : worth (now n) ≡ worth (before n) = ap worth (others n other) in
      omega (arith, more, more_before, alike, count_past n (omega arith)))
      (cases_eq n p) in
      ap (λ k. count_by now (range_with_len 0 k)) (sym one) ∙ (next ∙ ap (λ k. count_by before (range_with_len 0 k) + 1) one)

-- an atom that is not there raises the number by one
pub atoms_in-inserted : (set next : List Bool) (p : ℕ) → length next ≡ length set → p < length set → has set p ≡ false →
    ((q : ℕ) → has next q ≡ (has set q || (p == q))) → length (atoms_in next) ≡ length (atoms_in set) + 1
atoms_in-inserted set next p size within lacks flags =
    let is : has next p ≡ true = flags p ∙ (ap (λ b. has set p || b) (eq-eqb p p refl) ∙ or-true (has set p)) in
    let others : (q : ℕ) → (q ≡ p → ⊥) → has next q ≡ has set q =
    λ q other. flags q ∙ (ap (λ b. has set q || b) (ne_eqb p q (λ same. other (sym same))) ∙ or-false (has set q)) in
    length-filter (has next) (range_with_len 0 (length next))
    ∙ (ap (λ n. count_by (has next) (range_with_len 0 n)) size
    ∙ (count_past (has next) (has set) p is lacks others (length set) within
    ∙ ap (λ n. n + 1) (sym (length-filter (has set) (range_with_len 0 (length set))))))

-- a set has no more atoms than it is chosen from
pub atoms_in-few : (set : List Bool) → length (atoms_in set) ≤ length set
atoms_in-few set =
    let all = range_with_len 0 (length set) in
    omega (arith, length-filter (has set) all, count_by-le-length (has set) all, length-range_with_len 0 (length set))

put_in : (was before there : Bool) → ((was || (before && there)) || (true && there)) ≡ (was || ((before || true) && there))
put_in true before there = refl
put_in false true true = refl
put_in false true false = refl
put_in false false there = refl

left_out : (was before there : Bool) → ((was || (before && there)) || (false && there)) ≡ (was || ((before || false) && there))
left_out true before there = refl
left_out false true true = refl
left_out false true false = refl
left_out false false there = refl

-- nothing changes where the atom is there already or is not wished
pub unchanged_by : (set : List Bool) (p : ℕ) (wished : Bool) → (has set p ≡ true) ⊎ (wished ≡ false) →
    (q : ℕ) → has set q ≡ (has set q || ((p == q) && wished))
unchanged_by set p wished either q = ⊎_elim
    (λ (there : has set p ≡ true). ⊎_elim
    (λ (same : p ≡ q).
    let here : has set q ≡ true = ap (has set) (sym same) ∙ there in here ∙ sym (or_left (has set q) ((p == q) && wished) here))
    (λ (differ : p ≡ q → ⊥). sym (ap (λ b. has set q || (b && wished)) (ne_eqb p q differ) ∙ or-false (has set q)))
    (cases_eq p q))
    (λ (no : wished ≡ false).
    sym (ap (λ b. has set q || ((p == q) && b)) no ∙ (ap (λ b. has set q || b) (and-false (p == q)) ∙ or-false (has set q))))
    either

-- a further atom of a list, put in where the other set has it
pub common_next : (was now next : Bool) (other : ℕ → Bool) (before : Bool) (p q : ℕ) → now ≡ (was || (before && other q)) →
    next ≡ (now || ((p == q) && other p)) → next ≡ (was || ((before || (p == q)) && other q))
common_next was now next other before p q is step = ⊎_elim
    (λ (same : p ≡ q).
    let one : (p == q) ≡ true = eq-eqb p q same in
    step ∙ ((λ j. is j || (one j && other (same j))) ∙ (put_in was before (other q) ∙ ap (λ b. was || ((before || b) && other q)) (sym one))))
    (λ (differ : p ≡ q → ⊥).
    let none : (p == q) ≡ false = ne_eqb p q differ in
    step ∙ ((λ j. is j || (none j && other p)) ∙ (left_out was before (other q) ∙ ap (λ b. was || ((before || b) && other q)) (sym none))))
    (cases_eq p q)
