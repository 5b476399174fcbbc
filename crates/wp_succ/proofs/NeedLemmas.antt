-- The preconditions of an action are the atoms without which it is not reached.
use Rattle.std.proofs.Common.{◌≡◌, ◌==◌, ◌&&◌, ◌||◌, not, ℕ, zero, suc, ◌+◌, ◌<◌, ◌≤◌, nat_lt, nat_eq, Bool, true, false, cond, List, [], ◌∷◌, length, map, get_or, refl, sym, ap, ◌∙◌, subst, arith}
use Rattle.std.specs.List.{All, filter, list_all, list_any, range_with_len}
use Rattle.std.specs.Cmp.Lexicographic.{pointwise}
use Rattle.std.proofs.Math.ListN.{get_or-map as get_or-map_all}
use Rattle.std.proofs.lemmas.Bool.{lt-ltb, ne_eqb}
use Rattle.std.proofs.lemmas.Bool.Decides.{Decides-eqb}
use Rattle.std.proofs.lemmas.List.{length-map}
use Rattle.std.proofs.lemmas.List.Elements.{All-filter, All-from_get_or, All-head, All-tail}
use Rattle.std.proofs.lemmas.List.FromFn.{fill_by_all, get_or-map-range_with_len, get_or-range_with_len, length-range_with_len, length-map-range_with_len}
use Rattle.std.proofs.lemmas.List.Sums.{sum_by-cons}
use Rattle.std.proofs.lemmas.Slice.Eq.{slice_eq-Decides}
use Rattle.wp_task.specs.declared.acts.Act.{Act}
use Rattle.wp_task.specs.Set.{has, lists, AreAtoms}
use Rattle.wp_task.specs.Task.{act_at, applicable_in, applies, IsAct}
use Rattle.wp_succ.specs.declared.tree.Tree.TheInside.{Inside}
use Rattle.wp_succ.specs.Tree.{times, all_but, reached_in, needs_in, needs_by_action, AreApplicable, IsTree}
use Rattle.wp_succ.proofs.CountLemmas.{once, filter-lists, times-filter, Rises-filter, Rises-range, Rises, same_times}

-- all atoms but one hold a list that does not have it
has-all_but : (size p q : ℕ) → q < size → has (all_but size p) q ≡ not (q == p)
has-all_but size p q within = get_or-map-range_with_len (λ k. not (k == p)) 0 size q q false within (omega arith)

not_or : (a b : Bool) → (not a && not b) ≡ not (a || b)
not_or true b = refl
not_or false b = refl

holds-all_but : (size p : ℕ) (atoms : List ℕ) → All (λ q. q < size) atoms → list_all (has (all_but size p)) atoms ≡ not (lists atoms p)
holds-all_but size p [] within = refl
holds-all_but size p (q ∷ atoms) within =
    let here = has-all_but size p q (All-head (λ (k : ℕ). k < size) q atoms within) in
    let rest = holds-all_but size p atoms (All-tail (λ (k : ℕ). k < size) q atoms within) in
    (λ j. here j && rest j) ∙ not_or (q == p) (lists atoms p)

once_or_never : (b : Bool) → (once (not b) == 0) ≡ b
once_or_never true = refl
once_or_never false = refl

-- two tests that agree below n
filter_range : (t u : ℕ → Bool) (n a : ℕ) → ((k : ℕ) → k < a + n → t k ≡ u k) → filter t (range_with_len a n) ≡ filter u (range_with_len a n)
filter_range t u zero a same = refl
filter_range t u (suc n) a same =
    let here = same a (omega arith) in
    let rest = filter_range t u n (a + 1) (λ k within. same k (omega arith)) in
    (λ j. cond (here j) (a ∷ rest j) (rest j))

needs_in-is : (tree : Inside) (needs : List (List ℕ)) (a : ℕ) → a < length needs → AreAtoms tree.atoms (get_or needs a []) →
    ((s : List Bool) → AreApplicable needs s (reached_in s tree)) → needs_in tree a ≡ get_or needs a []
needs_in-is tree needs a within are whole =
    let atoms = get_or needs a [] in
    filter_range (λ p. times (reached_in (all_but tree.atoms p) tree) a == 0) (lists atoms) tree.atoms 0
    (λ p below.
    ap (λ k. k == 0) (whole (all_but tree.atoms p) a)
    ∙ (ap (λ b. once (b && list_all (has (all_but tree.atoms p)) atoms) == 0) (lt-ltb a (length needs) within)
    ∙ (ap (λ b. once b == 0) (holds-all_but tree.atoms p atoms are.below) ∙ once_or_never (lists atoms p))))
    ∙ filter-lists atoms tree.atoms are

-- a tree that reaches what applies knows the preconditions
pub needs_by_action-is : (tree : Inside) (acts : List Act) → tree.count ≡ length acts → All (IsAct tree.atoms) acts →
    ((s : List Bool) → AreApplicable (map (λ (act : Act). act.pre) acts) s (reached_in s tree)) →
    needs_by_action tree ≡ map (λ (act : Act). act.pre) acts
needs_by_action-is tree acts count fit whole =
    let needs = map (λ (act : Act). act.pre) acts in
    let many : length needs ≡ length acts = length-map acts (λ (act : Act). act.pre) in
    sym (fill_by_all (needs_in tree) needs tree.count [] (many ∙ sym count)
    (λ a within.
    let there : a < length acts = omega arith in
    let nothing = act_at [] 0 in
    let is : get_or needs a [] ≡ (get_or acts a nothing).pre = get_or-map_all (λ (act : Act). act.pre) acts a nothing in
    sym (needs_in-is tree needs a (omega arith) (subst (AreAtoms tree.atoms) (sym is) (fit a nothing there).needs) whole)))

pub served-is : (needs : List (List ℕ)) (acts : List Act) → pointwise (pointwise nat_eq) needs (map (λ (act : Act). act.pre) acts) ≡ true →
    needs ≡ map (λ (act : Act). act.pre) acts
served-is needs acts serves =
    (slice_eq-Decides (λ xs ys. slice_eq-Decides Decides-eqb xs ys (pointwise nat_eq xs ys) refl) needs (map (λ (act : Act). act.pre) acts) (pointwise (pointwise nat_eq) needs (map (λ (act : Act). act.pre) acts)) refl).0 serves

pub serves-same : (needs : List (List ℕ)) (acts : List Act) → needs ≡ map (λ (act : Act). act.pre) acts →
    pointwise (pointwise nat_eq) needs (map (λ (act : Act). act.pre) acts) ≡ true
serves-same needs acts is =
    (slice_eq-Decides (λ xs ys. slice_eq-Decides Decides-eqb xs ys (pointwise nat_eq xs ys) refl) needs (map (λ (act : Act). act.pre) acts) (pointwise (pointwise nat_eq) needs (map (λ (act : Act). act.pre) acts)) refl).1 is

-- what rises and has each applicable action once is the list of them
pub applicable-is : (needs : List (List ℕ)) (acts : List Act) (s : List Bool) (found : List ℕ) → needs ≡ map (λ (act : Act). act.pre) acts →
    Rises found → AreApplicable needs s found → found ≡ applicable_in acts s
applicable-is needs acts s found is rises are =
    let nothing = act_at [] 0 in
    let test : ℕ → Bool = λ a. applies (act_at acts a) s in
    same_times found (applicable_in acts s) rises (Rises-filter test (range_with_len 0 (length acts)) (Rises-range (length acts)))
    (λ a.
    let pre_at : get_or needs a [] ≡ (act_at acts a).pre = ap (λ l. get_or l a []) is ∙ get_or-map_all (λ (act : Act). act.pre) acts a nothing in
    let many : length needs ≡ length acts = ap length is ∙ length-map acts (λ (act : Act). act.pre) in
    are a ∙ ((λ j. once (nat_lt a (many j) && list_all (has s) (pre_at j))) ∙ sym (times-filter test (length acts) a)))

pub applicable-below : (acts : List Act) (s : List Bool) → All (λ a. a < length acts) (applicable_in acts s)
applicable-below acts s =
    All-filter (λ a. applies (act_at acts a) s) (λ a. a < length acts) (range_with_len 0 (length acts))
    (All-from_get_or (λ k. k < length acts) (range_with_len 0 (length acts)) 0
    (λ i within. let short : i < length acts = omega (arith, length-range_with_len 0 (length acts)) in
    omega (arith, get_or-range_with_len 0 (length acts) i 0 short)))
