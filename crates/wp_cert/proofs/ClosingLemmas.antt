-- Reachable states that come one after another, and the atoms of a state in order.
use Rattle.std.proofs.Common.{◌≡◌, ◌&&◌, ◌||◌, not, ℕ, zero, suc, ◌+◌, ◌-◌, ◌<◌, ◌≤◌, Bool, true, false, cond, nat_lt, List, [], ◌∷◌, ◌++◌, length, map, get_or, take, drop, fold, filter, Option, Some, None, refl, sym, ap, ◌∙◌, ⊎_elim, arith}
use Rattle.std.specs.List.{All, range_with_len}
use Rattle.std.proofs.lemmas.Bool.{both_ways, cases_lt, lt-ltb, le-ltb}
use Rattle.std.proofs.lemmas.List.{get_or_past, take_more, map_push}
use Rattle.std.proofs.lemmas.List.Elements.{All-push}
use Rattle.std.proofs.lemmas.List.FromFn.{length-map-range_with_len}
use Rattle.std.proofs.lemmas.List.Sums.{fold-append}
use Rattle.wp_task.specs.declared.acts.Act.{Act}
use Rattle.wp_task.specs.Set.{has, lists}
use Rattle.wp_task.specs.Task.{act_at, applicable_in, result_of}
use Rattle.wp_cert.specs.Audits.{is_among}
use Rattle.wp_cert.specs.Closing.{with_state, results_of, widened, closing}

-- ---- sizes
with_sized : (n : ℕ) (states : List (List Bool)) (s : List Bool) → All (λ t. length t ≡ n) states → length s ≡ n → All (λ t. length t ≡ n) (with_state states s)
with_sized n states s sized size = by (is_among states s) where
  by : (t : Bool) → All (λ t. length t ≡ n) (cond t states (states ++ s ∷ []))
  by true = sized
  by false = All-push (λ t. length t ≡ n) states s sized size

length-result : (act : Act) (s : List Bool) → length (result_of act s) ≡ length s
length-result act s = length-map-range_with_len (λ p. (has s p && not (lists act.del p)) || lists act.add p) 0 (length s)

all_sized : (n : ℕ) (acts : List Act) (s : List Bool) (numbers : List ℕ) (states : List (List Bool)) → All (λ t. length t ≡ n) states → length s ≡ n →
    All (λ t. length t ≡ n) (fold with_state states (map (λ (a : ℕ). result_of (act_at acts a) s) numbers))
all_sized n acts s [] states sized size = sized
all_sized n acts s (a ∷ numbers) states sized size =
    all_sized n acts s numbers (with_state states (result_of (act_at acts a) s))
    (with_sized n states (result_of (act_at acts a) s) sized (length-result (act_at acts a) s ∙ size)) size

pub widened_sized : (n : ℕ) (acts : List Act) (states : List (List Bool)) (k : ℕ) → k < length states → All (λ t. length t ≡ n) states →
    All (λ t. length t ≡ n) (widened acts states k)
widened_sized n acts states k within sized =
    all_sized n acts (get_or states k []) (applicable_in acts (get_or states k [])) states sized (sized k [] within)

-- ---- one action more
pub results_more : (acts : List Act) (s : List Bool) (states : List (List Bool)) (numbers : List ℕ) (i : ℕ) → i < length numbers →
    fold with_state states (map (λ (a : ℕ). result_of (act_at acts a) s) (take (i + 1) numbers))
    ≡ with_state (fold with_state states (map (λ (a : ℕ). result_of (act_at acts a) s) (take i numbers))) (result_of (act_at acts (get_or numbers i 0)) s)
results_more acts s states numbers i within =
    ap (λ l. fold with_state states (map (λ (a : ℕ). result_of (act_at acts a) s) l)) (take_more numbers i 0 within)
    ∙ ap (fold with_state states) (map_push (λ (a : ℕ). result_of (act_at acts a) s) (take i numbers) (get_or numbers i 0))
    ∙ fold-append with_state states (map (λ (a : ℕ). result_of (act_at acts a) s) (take i numbers)) (result_of (act_at acts (get_or numbers i 0)) s ∷ [])

-- ---- one turn
pub closing_many : (acts : List Act) (limit steps k : ℕ) (states : List (List Bool)) → limit < length states → closing acts limit (suc steps) k states ≡ None
closing_many acts limit steps k states many =
    ap (λ t. cond t None (cond (nat_lt k (length states)) (closing acts limit steps (k + 1) (widened acts states k)) (Some states))) (lt-ltb limit (length states) many)

pub closing_next : (acts : List Act) (limit steps k : ℕ) (states : List (List Bool)) → length states ≤ limit → k < length states →
    closing acts limit (suc steps) k states ≡ closing acts limit steps (k + 1) (widened acts states k)
closing_next acts limit steps k states few within =
    ap (λ t. cond t None (cond (nat_lt k (length states)) (closing acts limit steps (k + 1) (widened acts states k)) (Some states))) (le-ltb limit (length states) few)
    ∙ ap (λ t. cond t (closing acts limit steps (k + 1) (widened acts states k)) (Some states)) (lt-ltb k (length states) within)

pub closing_done : (acts : List Act) (limit steps k : ℕ) (states : List (List Bool)) → length states ≤ limit → length states ≤ k →
    closing acts limit (suc steps) k states ≡ Some states
closing_done acts limit steps k states few past =
    ap (λ t. cond t None (cond (nat_lt k (length states)) (closing acts limit steps (k + 1) (widened acts states k)) (Some states))) (le-ltb limit (length states) few)
    ∙ ap (λ t. cond t (closing acts limit steps (k + 1) (widened acts states k)) (Some states)) (le-ltb k (length states) past)

-- the same, with as many steps as are left
left : (limit k : ℕ) → k ≤ limit → limit + 2 - k ≡ suc (limit + 1 - k)
left limit k few = omega arith

one_less : (limit k : ℕ) → k ≤ limit → limit + 1 - k ≡ limit + 2 - (k + 1)
one_less limit k few = omega arith

pub many_left : (acts : List Act) (limit k : ℕ) (states : List (List Bool)) → k ≤ limit → limit < length states → closing acts limit (limit + 2 - k) k states ≡ None
many_left acts limit k states few many = ap (λ n. closing acts limit n k states) (left limit k few) ∙ closing_many acts limit (limit + 1 - k) k states many

pub next_left : (acts : List Act) (limit k : ℕ) (states : List (List Bool)) → k ≤ limit → length states ≤ limit → k < length states →
    closing acts limit (limit + 2 - k) k states ≡ closing acts limit (limit + 2 - (k + 1)) (k + 1) (widened acts states k)
next_left acts limit k states few small within =
    ap (λ n. closing acts limit n k states) (left limit k few)
    ∙ closing_next acts limit (limit + 1 - k) k states small within
    ∙ ap (λ n. closing acts limit n (k + 1) (widened acts states k)) (one_less limit k few)

pub done_left : (acts : List Act) (limit k : ℕ) (states : List (List Bool)) → k ≤ limit → length states ≤ limit → length states ≤ k →
    closing acts limit (limit + 2 - k) k states ≡ Some states
done_left acts limit k states few small past = ap (λ n. closing acts limit n k states) (left limit k few) ∙ closing_done acts limit (limit + 1 - k) k states small past

-- ---- atoms of a state
pub inside_has : (s : List Bool) (p : ℕ) → has s p ≡ true → p < length s
inside_has s p is = ⊎_elim
    (λ (within : p < length s). within)
    (λ (past : length s ≤ p). absurd (both_ways (has s p) (get_or_past s p false past) is))
    (cases_lt p (length s))

no_atoms : (s : List Bool) (a m : ℕ) → ((q : ℕ) → a ≤ q → q < a + m → has s q ≡ false) → filter (has s) (range_with_len a m) ≡ []
no_atoms s a zero none = refl
no_atoms s a (suc m) none =
    ap (λ t. cond t (a ∷ filter (has s) (range_with_len (a + 1) m)) (filter (has s) (range_with_len (a + 1) m))) (none a (omega arith) (omega arith))
    ∙ no_atoms s (a + 1) m (λ q late before. none q (omega (arith, late)) (omega (arith, before)))

-- behind the first k numbers there is none
front_filtered : (s : List Bool) (a k n : ℕ) → k ≤ n → ((q : ℕ) → a + k ≤ q → q < a + n → has s q ≡ false) →
    filter (has s) (range_with_len a n) ≡ filter (has s) (range_with_len a k)
front_filtered s a zero n less none = no_atoms s a n (λ q late before. none q (omega (arith, late)) before)
front_filtered s a (suc k) zero less none = absurd (omega arith)
front_filtered s a (suc k) (suc n) less none =
    ap (λ l. cond (has s a) (a ∷ l) l)
    (front_filtered s (a + 1) k n (omega arith) (λ q late before. none q (omega (arith, late)) (omega (arith, before))))

-- no atom is between
pub gap_filtered : (s : List Bool) (from to : ℕ) → from ≤ to → ((q : ℕ) → from ≤ q → q < to → has s q ≡ false) →
    filter (has s) (range_with_len 0 to) ≡ filter (has s) (range_with_len 0 from)
gap_filtered s from to less none = front_filtered s 0 from to less (λ q late before. none q (omega (arith, late)) (omega (arith, before)))

both_sides : (t : Bool) (a p : ℕ) (xs ys : List ℕ) → ys ≡ xs ++ p ∷ [] → cond t (a ∷ ys) ys ≡ cond t (a ∷ xs) xs ++ p ∷ []
both_sides true a p xs ys is = ap (λ l. a ∷ l) is
both_sides false a p xs ys is = is

last_filtered : (s : List Bool) (a k p : ℕ) → p ≡ a + k → has s p ≡ true →
    filter (has s) (range_with_len a (suc k)) ≡ filter (has s) (range_with_len a k) ++ p ∷ []
last_filtered s a zero p at is =
    let here : a ≡ p = omega (arith, at) in
    ap (λ t. cond t (a ∷ []) []) (ap (has s) here ∙ is) ∙ ap (λ q. q ∷ []) here
last_filtered s a (suc k) p at is =
    both_sides (has s a) a p (filter (has s) (range_with_len (a + 1) k)) (filter (has s) (range_with_len (a + 1) (suc k)))
    (last_filtered s (a + 1) k p (omega (arith, at)) is)

-- one atom more
pub atom_filtered : (s : List Bool) (from p : ℕ) → from ≤ p → has s p ≡ true → ((q : ℕ) → from ≤ q → q < p → has s q ≡ false) →
    filter (has s) (range_with_len 0 (p + 1)) ≡ filter (has s) (range_with_len 0 from) ++ p ∷ []
atom_filtered s from p less is none =
    ap (λ n. filter (has s) (range_with_len 0 n)) (let e : p + 1 ≡ suc p = omega arith in e)
    ∙ last_filtered s 0 p p (omega arith) is
    ∙ ap (λ l. l ++ p ∷ []) (gap_filtered s from p less none)
