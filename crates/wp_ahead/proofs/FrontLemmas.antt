-- The front of the open list: a set of numbers, the broods under them, and jobs for the others.
use Rattle.std.proofs.Common.{◌≡◌, ◌==◌, ℕ, ◌+◌, ◌<◌, ◌≤◌, ◌||◌, Bool, true, false, cond, List, take, get_or, length, map, is_none, refl, sym, ap, ◌∙◌, ⊎_elim, arith}
use Rattle.std.specs.List.{All, filter}
use Rattle.std.specs.BTreeMap.{is_at}
use Rattle.std.specs.Ordering.{nat_cmp, is_eq}
use Rattle.std.specs.declared.cmp.Ordering.TheVariants.{Less, Equal, Greater}
use Rattle.std.proofs.lemmas.Bool.{cases_lt, lt-ltb, le-ltb, ne_eqb, eqb-true}
use Rattle.std.proofs.lemmas.List.Elements.{All-map, All-take}
use Rattle.std.proofs.lemmas.List.Folds.{list_any_more}
use Rattle.std.proofs.lemmas.List.Sums.{count_by-le-length, length-filter}
use Rattle.std.proofs.lemmas.List.{length-map, length-take}
use Rattle.std.proofs.lemmas.Map.Entries.{lookup-filter-keys}
use Rattle.wp_task.specs.Set.{lists}
use Rattle.wp_queue.specs.declared.queue.Waiting.{Waiting}
use Rattle.wp_nodes.specs.declared.kept.Kept.{Kept}
use Rattle.wp_nodes.specs.KeptNodes.{IsKept}
use Rattle.wp_ahead.specs.Jobs.{Job}
use Rattle.wp_ahead.specs.KeptBroods.{KeptBroods, brood_under, front, without_brood, KeepsOnly}

-- ---- numbers in their order
is_eq-nat_cmp : (x y : ℕ) → is_eq (nat_cmp x y) ≡ (x == y)
is_eq-nat_cmp x y = ⊎_elim
    (λ (less : x < y).
    ap (λ b. is_eq (cond b Less (cond (x == y) Equal Greater))) (lt-ltb x y less)
    ∙ sym (ne_eqb x y (λ (same : x ≡ y). omega arith)))
    (λ (rest : y ≤ x). ap (λ b. is_eq (cond b Less (cond (x == y) Equal Greater))) (le-ltb x y rest) ∙ by (x == y))
    (cases_lt x y) where
      by : (b : Bool) → is_eq (cond b Equal Greater) ≡ b
      by true = refl
      by false = refl

-- one number more in a set
pub set_next : (numbers : List ℕ) (i n : ℕ) (before after : Bool) → i < length numbers → before ≡ lists (take i numbers) n →
    after ≡ cond (is_eq (nat_cmp (get_or numbers i 0) n)) true before → after ≡ lists (take (i + 1) numbers) n
set_next numbers i n before after within held is =
    is
    ∙ (ap (λ b. cond b true before) (is_eq-nat_cmp (get_or numbers i 0) n)
    ∙ (by (get_or numbers i 0 == n)
    ∙ (ap (λ b. b || (get_or numbers i 0 == n)) held ∙ sym (list_any_more (λ (q : ℕ). q == n) numbers i 0 within)))) where
      by : (b : Bool) → cond b true before ≡ (before || b)
      by true = or_true before where
        or_true : (x : Bool) → true ≡ (x || true)
        or_true true = refl
        or_true false = refl
      by false = or_false before where
        or_false : (x : Bool) → x ≡ (x || false)
        or_false true = refl
        or_false false = refl

-- ---- what stays
-- what a test of the numbers leaves
pub keeps_filter : (numbers : List ℕ) (test : ℕ → Bool) (old new : KeptBroods) → ((n : ℕ) → test n ≡ lists numbers n) →
    new ≡ filter (λ e. test e.0) old → KeepsOnly numbers old new
keeps_filter numbers test old new same is number =
    ap (λ (broods : KeptBroods). brood_under broods number) is
    ∙ lookup-filter-keys (is_at (nat_cmp number)) test (lists numbers number)
    (λ (k : ℕ) (at : is_at (nat_cmp number) k ≡ true).
    same k ∙ ap (lists numbers) (sym (eqb-true number k (sym (is_eq-nat_cmp number k) ∙ at)))) old

-- ---- the first that wait
pub front_kept : (kept : List Kept) (queue : List Waiting) (ahead : ℕ) → All (λ x. IsKept kept x.number) queue → All (IsKept kept) (front queue ahead)
front_kept kept queue ahead all =
    All-map (IsKept kept) (λ (x : Waiting). x.number) (take ahead queue) (All-take (λ (x : Waiting). IsKept kept x.number) ahead queue all)

pub front_few : (queue : List Waiting) (ahead : ℕ) (broods : KeptBroods) (numbers : List ℕ) (jobs : List Job) → numbers ≡ front queue ahead →
    map (λ j. j.number) jobs ≡ without_brood broods numbers → length jobs ≤ ahead
front_few queue ahead broods numbers jobs are made =
    let none : ℕ → Bool = λ n. is_none (brood_under broods n) in
    omega (
      arith,
      length-map jobs (λ (j : Job). j.number),
      ap length made,
      length-filter none numbers,
      count_by-le-length none numbers,
      ap length are,
      length-map (take ahead queue) (λ (x : Waiting). x.number),
      length-take {A = Waiting},
    )
