-- First arrivals and parts of many views, where one view changes.
use Rattle.std.proofs.Common.{◌≡◌, ℕ, Bool, true, false, zero, suc, ◌+◌, ◌-◌, ◌^◌, ◌<◌, ◌≤◌, ◌≢◌, List, [], ◌∷◌, ◌++◌, set, sym, refl, ap, ◌∙◌, ⊎_elim, arith, cond, eqb, eq-eqb, ne_eqb, append-nil}
use Prim.Native.Nat.{min}
use mathlib.Core.Option.{some, some-injective, some-ne-none}
use lib.ListN.{get_elem?}
use Rattle.atomic_table.proofs.Lists.{at_set, at_snoc}
use Rattle.wp_arrive.specs.declared.view.Arrival.{Arrival}
use Rattle.wp_arrive.specs.declared.view.View.{View}
use Rattle.wp_arrive.specs.FirstArrival.{mark, first}
use Rattle.wp_arrive.specs.Rule.{marks_of, parts_of, IdleIsEmpty}

abbrev pub none_yet : ℕ
none_yet = 2 ^ 64 - 1

pick_le : (b : Bool) (n x : ℕ) → x ≤ none_yet → cond b (min n x) x ≤ none_yet
pick_le true n x h = omega (arith, h)
pick_le false n x h = h

pub first_le : (ms : List Arrival) (t : ℕ) → first ms t ≤ none_yet
first_le [] t = omega arith
first_le (m ∷ ms) t = pick_le (eqb m.place t) m.number (first ms t) (first_le ms t)

pick_min : (b : Bool) (n x y z : ℕ) → z ≡ min x y → cond b (min n z) z ≡ min (cond b (min n x) x) y
pick_min true n x y z e = omega (arith, e)
pick_min false n x y z e = e

pub first_append : (l r : List Arrival) (t : ℕ) → first (l ++ r) t ≡ min (first l t) (first r t)
first_append [] r t = omega (arith, first_le r t)
first_append (m ∷ l) r t = pick_min (eqb m.place t) m.number (first l t) (first r t) (first (l ++ r) t) (first_append l r t)

pub gained_here : (ms : List Arrival) (t n : ℕ) → n < none_yet → first (ms ++ mark t n ∷ []) t ≡ min (first ms t) n
gained_here ms t n h = let one : first (mark t n ∷ []) t ≡ min n none_yet = ap (λ b. cond b (min n none_yet) none_yet) (eq-eqb t t refl) in omega (arith, first_append ms (mark t n ∷ []) t, one)

pub gained_else : (ms : List Arrival) (t u n : ℕ) → u ≢ t → first (ms ++ mark t n ∷ []) u ≡ min (first ms u) none_yet
gained_else ms t u n ne = let one : first (mark t n ∷ []) u ≡ none_yet = ap (λ b. cond b (min n none_yet) none_yet) (ne_eqb t u (λ e. ne (sym e))) in omega (arith, first_append ms (mark t n ∷ []) u, one)

-- a mark of a number that may be none
pub gained_any : (ms : List Arrival) (t n : ℕ) → n ≤ none_yet → first (ms ++ mark t n ∷ []) t ≡ min (first ms t) n
gained_any ms t n h = let one : first (mark t n ∷ []) t ≡ min n none_yet = ap (λ b. cond b (min n none_yet) none_yet) (eq-eqb t t refl) in omega (arith, first_append ms (mark t n ∷ []) t, one)

-- one view gains marks of which x is the first: so do all views
pub first_set : (vs : List View) (j : ℕ) (v w : View) (x t : ℕ) → get_elem? vs j ≡ some v → first w.marks t ≡ min (first v.marks t) x → first (marks_of (set vs j w)) t ≡ min (first (marks_of vs) t) x
first_set [] j v w x t e h = absurd (some-ne-none v (sym e))
first_set (u ∷ vs) zero v w x t e h = omega (arith, first_append w.marks (marks_of vs) t, first_append u.marks (marks_of vs) t, h, ap (λ (y : View). first y.marks t) (some-injective u v e))
first_set (u ∷ vs) (suc j) v w x t e h = omega (arith, first_append u.marks (marks_of (set vs j w)) t, first_append u.marks (marks_of vs) t, first_set vs j v w x t e h)

-- a view is spent: the others' marks and its own were all
pub first_gone : (vs : List View) (j : ℕ) (v w : View) (t : ℕ) → get_elem? vs j ≡ some v → w.marks ≡ [] → first (marks_of vs) t ≡ min (first (marks_of (set vs j w)) t) (first v.marks t)
first_gone [] j v w t e h = absurd (some-ne-none v (sym e))
first_gone (u ∷ vs) zero v w t e h = omega (arith, first_append w.marks (marks_of vs) t, first_append u.marks (marks_of vs) t, first_le (marks_of vs) t, ap (λ l. first l t) h, ap (λ (y : View). first y.marks t) (some-injective u v e))
first_gone (u ∷ vs) (suc j) v w t e h = omega (arith, first_append u.marks (marks_of (set vs j w)) t, first_append u.marks (marks_of vs) t, first_gone vs j v w t e h)

pub first_below : (vs : List View) (j : ℕ) (v : View) (t : ℕ) → get_elem? vs j ≡ some v → first (marks_of vs) t ≤ first v.marks t
first_below [] j v t e = absurd (some-ne-none v (sym e))
first_below (u ∷ vs) zero v t e = omega (arith, first_append u.marks (marks_of vs) t, ap (λ (y : View). first y.marks t) (some-injective u v e))
first_below (u ∷ vs) (suc j) v t e = omega (arith, first_append u.marks (marks_of vs) t, first_below vs j v t e)

pub first_snoc : (vs : List View) (w : View) (t : ℕ) → w.marks ≡ [] → first (marks_of (vs ++ w ∷ [])) t ≡ first (marks_of vs) t
first_snoc [] w t h = omega (arith, first_append w.marks [] t, ap (λ l. first l t) h)
first_snoc (u ∷ vs) w t h = omega (arith, first_append u.marks (marks_of (vs ++ w ∷ [])) t, first_append u.marks (marks_of vs) t, first_snoc vs w t h)

pub parts_set : (vs : List View) (j : ℕ) (v w : View) → get_elem? vs j ≡ some v → parts_of (set vs j w) + v.parts ≡ parts_of vs + w.parts
parts_set [] j v w e = absurd (some-ne-none v (sym e))
parts_set (u ∷ vs) zero v w e = omega (arith, ap (λ (y : View). y.parts) (some-injective u v e))
parts_set (u ∷ vs) (suc j) v w e = omega (arith, parts_set vs j v w e)

pub parts_snoc : (vs : List View) (w : View) → parts_of (vs ++ w ∷ []) ≡ parts_of vs + w.parts
parts_snoc [] w = omega arith
parts_snoc (u ∷ vs) w = omega (arith, parts_snoc vs w)

part_le : (vs : List View) (j : ℕ) (v : View) → get_elem? vs j ≡ some v → v.parts ≤ parts_of vs
part_le [] j v e = absurd (some-ne-none v (sym e))
part_le (u ∷ vs) zero v e = omega (arith, ap (λ (y : View). y.parts) (some-injective u v e))
part_le (u ∷ vs) (suc j) v e = omega (arith, part_le vs j v e)

none_left : (vs : List View) (t : ℕ) → IdleIsEmpty vs → parts_of vs ≡ 0 → first (marks_of vs) t ≡ none_yet
none_left [] t idle z = refl
none_left (u ∷ vs) t idle z = omega (arith, first_append u.marks (marks_of vs) t, ap (λ l. first l t) (idle 0 u refl (omega arith)), none_left vs t (λ k. idle (suc k)) (omega arith))

-- a view with all parts leaves none to the others, so they have no marks
pub all_mine : (vs : List View) (j : ℕ) (v : View) (t : ℕ) → get_elem? vs j ≡ some v → IdleIsEmpty vs → parts_of vs ≡ v.parts → first (marks_of vs) t ≡ first v.marks t
all_mine [] j v t e idle all = absurd (some-ne-none v (sym e))
all_mine (u ∷ vs) zero v t e idle all = let mine : u.parts ≡ v.parts = ap (λ (y : View). y.parts) (some-injective u v e) in
    omega (arith, first_append u.marks (marks_of vs) t, none_left vs t (λ k. idle (suc k)) (omega arith), ap (λ (y : View). first y.marks t) (some-injective u v e), first_le v.marks t)
all_mine (u ∷ vs) (suc j) v t e idle all = let some_there = part_le vs j v e in
    omega (arith, first_append u.marks (marks_of vs) t, ap (λ l. first l t) (idle 0 u refl (omega arith)), all_mine vs j v t e (λ k. idle (suc k)) (omega arith), first_le v.marks t)

no_marks : (vs : List View) → IdleIsEmpty vs → parts_of vs ≡ 0 → marks_of vs ≡ []
no_marks [] idle z = refl
no_marks (u ∷ vs) idle z = ap (λ l. l ++ marks_of vs) (idle 0 u refl (omega arith)) ∙ no_marks vs (λ k. idle (suc k)) (omega arith)

pub all_marks : (vs : List View) (j : ℕ) (v : View) → get_elem? vs j ≡ some v → IdleIsEmpty vs → parts_of vs ≡ v.parts → marks_of vs ≡ v.marks
all_marks [] j v e idle all = absurd (some-ne-none v (sym e))
all_marks (u ∷ vs) zero v e idle all = let mine : u.parts ≡ v.parts = ap (λ (y : View). y.parts) (some-injective u v e) in
    ap (λ l. u.marks ++ l) (no_marks vs (λ k. idle (suc k)) (omega arith)) ∙ append-nil u.marks ∙ ap (λ (y : View). y.marks) (some-injective u v e)
all_marks (u ∷ vs) (suc j) v e idle all = let some_there = part_le vs j v e in
    ap (λ l. l ++ marks_of vs) (idle 0 u refl (omega arith)) ∙ all_marks vs j v e (λ k. idle (suc k)) (omega arith)

pub idle_set : (vs : List View) (j : ℕ) (w : View) → IdleIsEmpty vs → (w.parts ≡ 0 → w.marks ≡ []) → IdleIsEmpty (set vs j w)
idle_set vs j w idle h k u e z = ⊎_elim (λ t. ap (λ (y : View). y.marks) (sym t.1) ∙ h (ap (λ (y : View). y.parts) t.1 ∙ z)) (λ t. idle k u t.1 z) (at_set vs j k w u e)

pub idle_snoc : (vs : List View) (w : View) → IdleIsEmpty vs → w.marks ≡ [] → IdleIsEmpty (vs ++ w ∷ [])
idle_snoc vs w idle h k u e z = ⊎_elim (λ t. idle k u t z) (λ t. ap (λ (y : View). y.marks) (sym t) ∙ h) (at_snoc vs w u k e)
