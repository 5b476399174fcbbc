-- Flags that are set one after another, and how many flags the wanted atoms have.
use Rattle.std.proofs.Common.{◌≡◌, ◌+◌, ◌&&◌, ◌||◌, ◌++◌, ◌∷◌, [], not, ℕ, zero, suc, Bool, Option, List, length, ap, ◌∙◌, arith}
use Rattle.std.specs.List.{list_any, range_with_len}
use Rattle.std.proofs.lemmas.List.{map-id}
use Rattle.std.proofs.lemmas.List.Folds.{list_any-append}
use Rattle.std.proofs.lemmas.List.FromFn.{map-range_with_len_more, length-map-range_with_len}
use Rattle.std.proofs.Math.Bool.{or-false}
use Rattle.wp_task.specs.declared.acts.Act.{Act}
use Rattle.wp_task.specs.Set.{has, lists}
use Rattle.wp_relax.specs.RelaxedPlan.{is_needed, wanted_after}

-- a test of numbers, one number on
pub list_any-range_more : (t : ℕ → Bool) (n : ℕ) → list_any t (range_with_len 0 (n + 1)) ≡ (list_any t (range_with_len 0 n) || t n)
list_any-range_more t n =
    let more : range_with_len 0 (n + 1) ≡ range_with_len 0 n ++ n ∷ [] = simp map-id at (map-range_with_len_more (λ (k : ℕ). k) 0 n n (omega arith)) in
    ap (list_any t) more ∙ (list_any-append t (range_with_len 0 n) (n ∷ []) ∙ ap (λ b. list_any t (range_with_len 0 n) || b) (or-false (t n)))

pub length-wanted_after : (acts : List Act) (goals : List ℕ) (state : List Bool) (supporters : List (Option ℕ)) (d : ℕ) →
    length (wanted_after acts goals state supporters d) ≡ length state
length-wanted_after acts goals state supporters zero =
    length-map-range_with_len (λ p. lists goals p && not (has state p)) 0 (length state)
length-wanted_after acts goals state supporters (suc d) =
    let wanted = wanted_after acts goals state supporters d in
    length-map-range_with_len (λ q. has wanted q || (is_needed acts supporters wanted q && not (has state q))) 0 (length wanted)
    ∙ length-wanted_after acts goals state supporters d
