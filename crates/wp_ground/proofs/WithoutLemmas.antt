-- One walk along two rising lists keeps the numbers of the one that are not in the other.
use Rattle.std.proofs.Common.{◌≡◌, ◌≢◌, ◌∙◌, ℕ, ◌+◌, ◌<◌, ◌≤◌, ◌==◌, not, Bool, true, false, cond, List, [], ◌∷◌, ◌++◌, length, filter, take, get_or, refl, sym, ap, subst, ⊎_elim, arith}
use Rattle.std.specs.List.Sorted.{IsStrictlyIncreasing}
use Rattle.std.proofs.lemmas.Bool.{cases_lt, eq-eqb, ne_eqb}
use Rattle.std.proofs.lemmas.List.{take_all, get_or_default}
use Rattle.std.proofs.lemmas.List.Elements.{filter_more}
use Rattle.std.proofs.lemmas.List.Folds.{list_any_none, list_any_at}
use Rattle.std.proofs.lemmas.List.Kept.{AllPairs-from_increasing}
use Rattle.wp_task.specs.Set.{lists}

-- so many of the numbers are done, and all others before a place are less than those that are left
pub record IsWalking (numbers others : List ℕ) (done : ℕ) (rest : List ℕ) (passed : ℕ) : Type 0 where
  pub kept : rest ≡ filter (λ (p : ℕ). not (lists others p)) (take done numbers)
  pub behind : (k j : ℕ) → k < passed → done ≤ j → j < length numbers → get_or others k 0 < get_or numbers j 0

rising-at : (numbers : List ℕ) → IsStrictlyIncreasing numbers → (i j : ℕ) → i < j → j < length numbers → get_or numbers i 0 < get_or numbers j 0
rising-at numbers rising i j before within = AllPairs-from_increasing numbers rising i j 0 before within

-- where the walk stops tells whether the number is in the other list
lists-there : (others : List ℕ) (place number : ℕ) → place < length others → get_or others place 0 ≡ number → lists others number ≡ true
lists-there others place number within is = list_any_at (λ (q : ℕ). q == number) others place 0 within (eq-eqb (get_or others place 0) number is)

lists-not : (others : List ℕ) (place number : ℕ) → IsStrictlyIncreasing others → ((k : ℕ) → k < place → get_or others k 0 < number)
    → (place < length others → number ≤ get_or others place 0) → (place < length others → get_or others place 0 ≢ number)
    → lists others number ≡ false
lists-not others place number rising less stop other =
    list_any_none (λ (q : ℕ). q == number) others (λ k d within.
    ne_eqb (get_or others k d) number (λ same.
    let is : get_or others k 0 ≡ number = get_or_default others k 0 d within ∙ same in
    ⊎_elim
    (λ (before : k < place). let lt = less k before in absurd (omega arith))
    (λ (from : place ≤ k).
    let here : place < length others = omega arith in
    let at = stop here in
    ⊎_elim
    (λ (later : place < k). let above = rising-at others rising place k later within in absurd (omega (arith, at)))
    (λ (back : k ≤ place). let e : k ≡ place = omega arith in absurd (other here (ap (λ (n : ℕ). get_or others n 0) (sym e) ∙ is)))
    (cases_lt place k))
    (cases_lt k place)))

cases-at : (b : Bool) (x : ℕ) → cond b [] (x ∷ []) ≡ cond (not b) (x ∷ []) []
cases-at true x = refl
cases-at false x = refl

pub walking-next : (numbers others : List ℕ) (done : ℕ) (rest : List ℕ) (passed number place : ℕ) (found : Bool) (after : List ℕ)
    → IsStrictlyIncreasing numbers → IsStrictlyIncreasing others → IsWalking numbers others done rest passed
    → done < length numbers → number ≡ get_or numbers done 0
    → ((k : ℕ) → passed ≤ k → k < place → get_or others k 0 < number)
    → (place < length others → number ≤ get_or others place 0)
    → (found ≡ true → (place < length others) × (get_or others place 0 ≡ number))
    → (found ≡ false → place < length others → get_or others place 0 ≢ number)
    → after ≡ rest ++ cond found [] (number ∷ [])
    → IsWalking numbers others (done + 1) after place
walking-next numbers others done rest passed number place found after rising others_rise walking within read less stop where_found where_not next =
    let below : (k : ℕ) → k < place → get_or others k 0 < number = λ k before. ⊎_elim
    (λ (early : k < passed). subst (λ (n : ℕ). get_or others k 0 < n) (sym read) (walking.behind k done early (omega arith) within))
    (λ (late : passed ≤ k). less k late before)
    (cases_lt k passed) in
    record {
      kept =
          next
          ∙ (λ i. walking.kept i ++ (ap (λ (b : Bool). cond b [] (number ∷ [])) (told found where_found where_not) ∙ cases-at (lists others number) number
          ∙ ap (λ (n : ℕ). cond (not (lists others n)) (n ∷ []) []) read) i)
          ∙ sym (filter_more (λ (p : ℕ). not (lists others p)) numbers done 0 within);
      behind = λ k j before from there.
          let lt = below k before in
          ⊎_elim
          (λ (later : done < j). let up = rising-at numbers rising done j later there in omega (arith, read))
          (λ (here : j ≤ done). absurd (omega arith))
          (cases_lt done j);
    }
  where
    told : (b : Bool) → (b ≡ true → (place < length others) × (get_or others place 0 ≡ number))
        → (b ≡ false → place < length others → get_or others place 0 ≢ number) → b ≡ lists others number
    told true is_there is_not = let at = is_there refl in sym (lists-there others place number at.0 at.1)
    told false is_there is_not = sym (lists-not others place number others_rise
        (λ k before. ⊎_elim
        (λ (early : k < passed). subst (λ (n : ℕ). get_or others k 0 < n) (sym read) (walking.behind k done early (omega arith) within))
        (λ (late : passed ≤ k). less k late before)
        (cases_lt k passed))
        stop (is_not refl))

pub walking-end : (numbers others : List ℕ) (done : ℕ) (rest : List ℕ) (passed : ℕ) → IsWalking numbers others done rest passed → length numbers ≤ done
    → rest ≡ filter (λ (p : ℕ). not (lists others p)) numbers
walking-end numbers others done rest passed walking all =
    walking.kept ∙ ap (filter (λ (p : ℕ). not (lists others p))) (take_all done numbers all)
