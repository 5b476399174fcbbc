-- The first arrival is the least number, words end as it, and no order of the marks matters.
use Rattle.std.proofs.Common.{◌≡◌, ℕ, Bool, true, false, zero, suc, ◌<◌, ◌≤◌, ◌≢◌, List, [], ◌∷◌, length, get_or, set, sym, refl, ap, ◌∙◌, subst, arith, cond, eqb, eq-eqb, ne_eqb, length-set, get_or-set_other, get_or-set_same}
use Prim.Native.Nat.{min}
use mathlib.Core.Logic.{dite}
use native.Mathlib.Decide.{dec_le, ℕ_discrete}
use Rattle.std.specs.Prelude.{Contains, IsPermutation}
use Rattle.std.proofs.lemmas.List.{get_or-replicate, length-replicate, ext_get_or}
use Rattle.std.proofs.lemmas.List.Sorted.{Contains-permutation, IsPermutation-sym}
use Rattle.wp_arrive.specs.declared.view.Arrival.{Arrival}
use Rattle.wp_arrive.specs.FirstArrival.{mark, first}
use Rattle.wp_arrive.specs.Laws.{arrive, arrive_all, blank_words, FirstIsLeast, EndsAsFirst, AnyOrder}
use Rattle.wp_arrive.proofs.Firsts.{none_yet, first_le, first_append}

first_of_same : (m : Arrival) (ms : List Arrival) (t : ℕ) → m.place ≡ t → first (m ∷ ms) t ≡ min m.number (first ms t)
first_of_same m ms t e = ap (λ b. cond b (min m.number (first ms t)) (first ms t)) (eq-eqb m.place t e)

first_of_other : (m : Arrival) (ms : List Arrival) (t : ℕ) → m.place ≢ t → first (m ∷ ms) t ≡ first ms t
first_of_other m ms t ne = ap (λ b. cond b (min m.number (first ms t)) (first ms t)) (ne_eqb m.place t ne)

pick_below : (b : Bool) (n x k : ℕ) → x ≤ k → cond b (min n x) x ≤ k
pick_below true n x k h = omega (arith, h)
pick_below false n x k h = h

least_at : (ms : List Arrival) (t k i : ℕ) → i < length ms → get_or ms i (mark t k) ≡ mark t k → first ms t ≤ k
least_at [] t k i h e = absurd (omega arith)
least_at (m ∷ ms) t k zero h e = omega (arith, first_of_same m ms t (ap (λ (y : Arrival). y.place) e), ap (λ (y : Arrival). y.number) e)
least_at (m ∷ ms) t k (suc i) h e = pick_below (eqb m.place t) m.number (first ms t) k (least_at ms t k i (omega arith) e)

below : (ms : List Arrival) (t k : ℕ) → Contains ms (mark t k) → first ms t ≤ k
below ms t k c = least_at ms t k c.0 c.1 c.2

later : (m : Arrival) (ms : List Arrival) (x : Arrival) → Contains ms x → Contains (m ∷ ms) x
later m ms x c = (suc c.0, omega (arith, c.1), c.2)

among_more : (m : Arrival) (ms : List Arrival) (t : ℕ) → (first ms t < none_yet → Contains ms (mark t (first ms t))) → first (m ∷ ms) t < none_yet → Contains (m ∷ ms) (mark t (first (m ∷ ms) t))
among_more m ms t before h =
    let from_rest : first (m ∷ ms) t ≡ first ms t → Contains (m ∷ ms) (mark t (first (m ∷ ms) t)) =
    λ same. subst (λ (n : ℕ). Contains (m ∷ ms) (mark t n)) (sym same) (later m ms (mark t (first ms t)) (before (omega (arith, same, h)))) in
    dite (ℕ_discrete m.place t)
    (λ e. let is = first_of_same m ms t e in dite (dec_le m.number (first ms t))
    (λ least. let n : m.number ≡ first (m ∷ ms) t = omega (arith, is) in (zero, omega arith, λ i. mark (e i) (n i)))
    (λ no. from_rest (omega (arith, is))))
    (λ ne. from_rest (first_of_other m ms t ne))

among : (ms : List Arrival) (t : ℕ) → first ms t < none_yet → Contains ms (mark t (first ms t))
among [] t h = absurd (omega arith)
among (m ∷ ms) t h = among_more m ms t (among ms t) h

pub first_is_least : FirstIsLeast
first_is_least ms t = record { below = below ms t; among = among ms t; most = first_le ms t }

arrive_at : (ws : List ℕ) (m : Arrival) (t : ℕ) → t < length ws → get_or ws t 0 ≤ none_yet → get_or (arrive ws m) t 0 ≡ min (get_or ws t 0) (first (m ∷ []) t)
arrive_at ws m t h small = dite (ℕ_discrete t m.place)
    (λ e. let here : get_or (arrive ws m) t 0 ≡ min (get_or ws t 0) m.number =
    subst (λ (k : ℕ). get_or (set ws k (min (get_or ws k 0) m.number)) t 0 ≡ min (get_or ws t 0) m.number) e (get_or-set_same ws t (min (get_or ws t 0) m.number) 0 h) in
    omega (arith, here, first_of_same m [] t (sym e), small))
    (λ ne. omega (arith, get_or-set_other ws m.place t (min (get_or ws m.place 0) m.number) 0 ne, first_of_other m [] t (λ e. ne (sym e)), small))

ends : (ws : List ℕ) (ms : List Arrival) (t : ℕ) → t < length ws → get_or ws t 0 ≤ none_yet → get_or (arrive_all ws ms) t 0 ≡ min (get_or ws t 0) (first ms t)
ends ws [] t h small = omega (arith, small)
ends ws (m ∷ ms) t h small =
    let step = arrive_at ws m t h small in
    omega (arith, step, ends (arrive ws m) ms t (omega (arith, length-set ws m.place (min (get_or ws m.place 0) m.number), h)) (omega (arith, step, small)), first_append (m ∷ []) ms t)

lasting : (ws : List ℕ) (ms : List Arrival) → length (arrive_all ws ms) ≡ length ws
lasting ws [] = refl
lasting ws (m ∷ ms) = lasting (arrive ws m) ms ∙ length-set ws m.place (min (get_or ws m.place 0) m.number)

pub ends_as_first : EndsAsFirst
ends_as_first count ms t h =
    let blank : get_or (blank_words count) t 0 ≡ none_yet = get_or-replicate count t none_yet 0 h in
    omega (arith, blank, ends (blank_words count) ms t (omega (arith, length-replicate count none_yet, h)) (omega (arith, blank)), first_le ms t)

not_above : (ms ns : List Arrival) (t : ℕ) → IsPermutation ms ns → first ns t ≤ first ms t
not_above ms ns t same = dite (dec_le none_yet (first ms t)) (λ none. omega (arith, first_le ns t))
    (λ some. below ns t (first ms t) (Contains-permutation ms ns (mark t (first ms t)) same (among ms t (omega arith))))

pub any_order : AnyOrder
any_order count ms ns same =
    let long : (ks : List Arrival) → length (arrive_all (blank_words count) ks) ≡ count = λ ks. lasting (blank_words count) ks ∙ length-replicate count none_yet in
    ext_get_or 0 (arrive_all (blank_words count) ns) (arrive_all (blank_words count) ms) (long ns ∙ sym (long ms))
    (λ i h. let near : i < count = omega (arith, long ns, h) in
    omega (arith, ends_as_first count ns i near, ends_as_first count ms i near, not_above ms ns i same, not_above ns ms i (IsPermutation-sym ms ns same)))
