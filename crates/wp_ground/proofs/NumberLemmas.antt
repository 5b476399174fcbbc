-- Atoms in the order of their numbers: the enumeration rises, so what is sorted without repeats and has its members is the enumeration.
use Rattle.std.proofs.Common.{◌≡◌, ◌∙◌, ℕ, zero, suc, ◌+◌, ◌<◌, Bool, true, false, cond, eqb, Option, Some, None, IfSome, IfNone, List, [], ◌∷◌, ◌++◌, length, map, filter, get_or, replicate, take, refl, sym, ap, subst, inl, inr, ⊎_elim, arith, add-zero, zero-add}
use Rattle.std.specs.List.{cons_option, dedup, filter_map, flat_map, position_from, range_with_len}
use Rattle.std.specs.List.Sorted.{IsPermutation, IsSorted, IsStrictlySortedBy}
use Rattle.std.specs.List.Retain.{IsFiltered, DiffersFromLast}
use Rattle.std.specs.declared.cmp.Ordering.{Ordering}
use Rattle.std.specs.declared.cmp.Ordering.TheVariants.{Less, Equal}
use Rattle.std.specs.Ordering.{nat_cmp, ordering_then, eq_by_cmp}
use Rattle.std.specs.Cmp.{IsTotalOrder, nat_cmp_is, unsigned_ties}
use Rattle.std.specs.Cmp.Lexicographic.{slice_cmp, nat_list_cmp_total, texts_ties, on_texts_equal}
use Rattle.std.proofs.lemmas.Cmp.{on_total, nat_cmp_total, ranked}
use Rattle.std.proofs.lemmas.Bool.{cases_Bool, cond-true, cond-false, both_ways, false_from_ne_true}
use Rattle.std.proofs.lemmas.List.{take_more, get_or-replicate}
use Rattle.std.proofs.lemmas.List.Elements.{filter_map-append}
use Rattle.std.proofs.lemmas.List.Filters.{dedup_is}
use Rattle.std.proofs.lemmas.List.FromFn.{get_or-map-range_with_len}
use Rattle.std.proofs.lemmas.Iterator.Adapters.{position_from-zero}
use Rattle.std.proofs.lemmas.List.Quantifiers.{position-Some}
use Rattle.std.proofs.lemmas.List.Kept.{IsStrictlySortedBy-dedup, Contains-dedup, Contains-dedup_nat, Contains-from_dedup}
use Rattle.std.proofs.lemmas.List.Sorted.{Contains-permutation, IsPermutation-sym}
use Rattle.wp_task.proofs.Members.{In, list_any-from, In-from_Contains, Contains-from_In, In-filter, In-filter_cases, In-map_cases}
use Rattle.wp_lift.specs.declared.atoms.GroundAtom.{GroundAtom}
use Rattle.wp_lift.specs.Problem.{Lifting, pred_at, tuples_of}
use Rattle.wp_lift.specs.Worlds.{is_same_atom, among}
use Rattle.wp_lift.specs.Formed.{IsAtom}
use Rattle.wp_lift.proofs.SameLemmas.{same-atom}
use Rattle.wp_ground.specs.Tasks.{changes, atoms_with, atoms_of, atom_at, numbers_of}
use Rattle.wp_ground.specs.Numbering.{atom_cmp, number_in, has_flag}
use Rattle.wp_ground.proofs.SetLemmas.{In-flat_map_cases, among-from, among-in, same_atom-self}
use Rattle.wp_ground.proofs.EnumerationLemmas.{In-get}
use Rattle.wp_ground.proofs.InstanceLemmas.{In-atoms}
use Rattle.wp_ground.proofs.FollowLemmas.{number_there, number_cases}
use Rattle.wp_ground.proofs.OrderLemmas.{Rises, rises-filter, rises-map, rises-flat_map, rises-range, rises-same, all-in, in-all}

-- ---- orders
unfoldable pub ListBefore : List ℕ → List ℕ → Type 0
ListBefore a b = slice_cmp nat_cmp a b ≡ Less

abbrev pub AtomBefore : GroundAtom → GroundAtom → Type 0
AtomBefore a b = atom_cmp a b ≡ Less

pub less : (x y : ℕ) → x < y → nat_cmp x y ≡ Less
less x y lt = sym (nat_cmp_is x y Less lt)

pub equal : (x : ℕ) → nat_cmp x x ≡ Equal
equal x = sym (nat_cmp_is x x Equal refl)

-- an atom as the list of its numbers
key : GroundAtom → List ℕ
key a = a.pred ∷ a.args

pub atoms-total : IsTotalOrder atom_cmp
unfolding key
atoms-total = on_total key nat_list_cmp_total

pub atoms-ties : (a b : GroundAtom) → is_same_atom a b ≡ eq_by_cmp atom_cmp a b
unfolding key
atoms-ties a b = texts_ties (key a) (key b)

atoms-apart : (a b : GroundAtom) → AtomBefore a b → AtomBefore b a → ⊥
atoms-apart a b h k = let turned = atoms-total.antisymm a b in cc

-- ---- the enumeration rises
tuples-rise : (n count : ℕ) → Rises ListBefore (tuples_of (replicate count (range_with_len 0 n)))
unfolding ListBefore
tuples-rise n zero = (λ y none. absurd none, tt)
tuples-rise n (suc count) =
    let tails = tuples_of (replicate count (range_with_len 0 n)) in
    rises-flat_map (λ (x y : ℕ). x < y) ListBefore (λ (x : ℕ). map (λ (tail : List ℕ). x ∷ tail) tails)
    (λ x. rises-map ListBefore ListBefore (λ (tail : List ℕ). x ∷ tail) (λ a b h. ap (λ (o : Ordering). ordering_then o (slice_cmp nat_cmp a b)) (equal x) ∙ h) tails (tuples-rise n count))
    (λ a b y z lt left right.
    let first = In-map_cases (λ (tail : List ℕ). a ∷ tail) tails y left in
    let second = In-map_cases (λ (tail : List ℕ). b ∷ tail) tails z right in
    (λ i. slice_cmp nat_cmp (first.2 i) (second.2 i)) ∙ ap (λ (o : Ordering). ordering_then o (slice_cmp nat_cmp first.0 second.0)) (less a b lt))
    (range_with_len 0 n) (rises-range 0 n)

atoms_with-pred : (lifted : Lifting) (pred : ℕ) (a : GroundAtom) → In a (atoms_with lifted pred) → a.pred ≡ pred
atoms_with-pred lifted pred a there =
    let from = In-map_cases (λ (args : List ℕ). let atom : GroundAtom = record { pred = pred; args = args } in atom)
    (tuples_of (replicate (pred_at lifted pred).arity (range_with_len 0 (length lifted.objects)))) a there in
    ap (λ (a : GroundAtom). a.pred) from.2

pub atoms-rise : (lifted : Lifting) (is_reached : GroundAtom → Bool) → Rises AtomBefore (atoms_of lifted is_reached)
unfolding ListBefore
atoms-rise lifted is_reached =
    let preds = filter (changes lifted) (range_with_len 0 (length lifted.preds)) in
    rises-filter AtomBefore is_reached (flat_map (atoms_with lifted) preds)
    (rises-flat_map (λ (x y : ℕ). x < y) AtomBefore (atoms_with lifted)
    (λ pred. rises-map ListBefore AtomBefore (λ (args : List ℕ). let atom : GroundAtom = record { pred = pred; args = args } in atom)
    (λ a b h. ap (λ (o : Ordering). ordering_then o (slice_cmp nat_cmp a b)) (equal pred) ∙ h)
    (tuples_of (replicate (pred_at lifted pred).arity (range_with_len 0 (length lifted.objects)))) (tuples-rise (length lifted.objects) (pred_at lifted pred).arity))
    (λ p q a b lt left right.
    ap (λ (o : Ordering). ordering_then o (slice_cmp nat_cmp a.args b.args))
    ((λ i. nat_cmp (atoms_with-pred lifted p a left i) (atoms_with-pred lifted q b right i)) ∙ less p q lt))
    preds (rises-filter (λ (x y : ℕ). x < y) (changes lifted) (range_with_len 0 (length lifted.preds)) (rises-range 0 (length lifted.preds))))

-- ---- sorted without repeats
sorted-rises : (atoms : List GroundAtom) → IsStrictlySortedBy atom_cmp atoms → Rises AtomBefore atoms
unfolding IsStrictlySortedBy
sorted-rises [] h = tt
sorted-rises (a ∷ atoms) h = (λ b there. all-in (AtomBefore a) atoms h.0 b there, sorted-rises atoms h.1)

rises-sorted : (atoms : List GroundAtom) → Rises AtomBefore atoms → IsStrictlySortedBy atom_cmp atoms
unfolding IsStrictlySortedBy
rises-sorted [] h = tt
rises-sorted (a ∷ atoms) h = (in-all (AtomBefore a) atoms h.0, rises-sorted atoms h.1)

pub In-permutation : {X : Type 0} (xs ys : List X) → IsPermutation xs ys → (x : X) → In x xs → In x ys
In-permutation xs ys moved x there = In-from_Contains x ys (Contains-permutation xs ys x moved (Contains-from_In x xs there))

In-dedup_atoms : (atoms : List GroundAtom) (a : GroundAtom) → In a atoms → In a (dedup is_same_atom atoms)
unfolding key
In-dedup_atoms atoms a there =
    In-from_Contains a (dedup is_same_atom atoms) (Contains-dedup (on_texts_equal key) same-atom atoms a (Contains-from_In a atoms there))

-- the changing atoms of a world, sorted and without repeats, are the atoms of the task
pub atoms-are : (lifted : Lifting) (world sorted : List GroundAtom) → ((a : GroundAtom) → In a world → IsAtom lifted a)
    → IsPermutation (filter (λ (a : GroundAtom). changes lifted a.pred) world) sorted → IsSorted atom_cmp sorted
    → dedup is_same_atom sorted ≡ atoms_of lifted (among world)
atoms-are lifted world sorted fits moved rising =
    let changing = λ (a : GroundAtom). changes lifted a.pred in
    let preds = range_with_len 0 (length lifted.preds) in
    rises-same AtomBefore atoms-apart (dedup is_same_atom sorted) (atoms_of lifted (among world))
    (sorted-rises (dedup is_same_atom sorted) (IsStrictlySortedBy-dedup atoms-total atoms-ties sorted rising)) (atoms-rise lifted (among world))
    (λ a there.
    let kept = In-permutation sorted (filter changing world) (IsPermutation-sym (filter changing world) sorted moved) a
    (In-from_Contains a sorted (Contains-from_dedup is_same_atom sorted a (Contains-from_In a (dedup is_same_atom sorted) there))) in
    let from = In-filter_cases changing world a kept in
    In-atoms lifted (among world) a (fits a from.0) from.1 (among-from world a from.0))
    (λ a there.
    let reached = In-filter_cases (among world) (flat_map (atoms_with lifted) (filter (changes lifted) preds)) a there in
    let pred = In-flat_map_cases (atoms_with lifted) (filter (changes lifted) preds) a reached.0 in
    let changes_there = In-filter_cases (changes lifted) preds pred.0 pred.1 in
    let changing_there : changes lifted a.pred ≡ true = ap (changes lifted) (atoms_with-pred lifted pred.0 a pred.2) ∙ changes_there.1 in
    In-dedup_atoms sorted a
    (In-permutation (filter changing world) sorted moved a (In-filter changing world a (among-in world a reached.1) changing_there)))

-- ---- one number for each atom
not_same : (a b : GroundAtom) → AtomBefore a b → is_same_atom b a ≡ false
not_same a b h = ⊎_elim
    (λ (same : is_same_atom b a ≡ true).
    let itself : AtomBefore a a = subst (λ (c : GroundAtom). AtomBefore a c) (same-atom b a same) h in absurd (atoms-apart a a itself itself))
    (λ (other : is_same_atom b a ≡ false). other)
    (cases_Bool (is_same_atom b a))

from_at : (atoms : List GroundAtom) (i p : ℕ) (d : GroundAtom) → Rises AtomBefore atoms → p < length atoms
    → position_from (is_same_atom (get_or atoms p d)) i atoms ≡ Some (i + p)
from_at [] i p d rises within = absurd (omega arith)
from_at (a ∷ atoms) i zero d rises within =
    cond-true (is_same_atom a a) (Some i) (position_from (is_same_atom a) (i + 1) atoms) (same_atom-self a) ∙ ap Some (sym (add-zero i))
from_at (a ∷ atoms) i (suc p) d rises within =
    let b = get_or atoms p d in
    cond-false (is_same_atom b a) (Some i) (position_from (is_same_atom b) (i + 1) atoms) (not_same a b (rises.0 b (In-get d atoms p (omega arith))))
    ∙ from_at atoms (i + 1) p d rises.1 (omega arith)
    ∙ ap Some (let sum : i + 1 + p ≡ i + suc p = omega arith in sum)

number-at : (atoms : List GroundAtom) (p : ℕ) → Rises AtomBefore atoms → p < length atoms → number_in atoms (atom_at atoms p) ≡ Some p
number-at atoms p rises within =
    position_from-zero (is_same_atom (atom_at atoms p)) atoms ∙ from_at atoms 0 p _ rises within ∙ ap Some (zero-add p)

number-cases : (atoms : List GroundAtom) (a : GroundAtom) (p : ℕ) → number_in atoms a ≡ Some p → (p < length atoms) × (atom_at atoms p ≡ a)
number-cases atoms a p h =
    let found = position-Some (is_same_atom a) atoms p _ h in
    (found.0, sym (same-atom a (atom_at atoms p) found.1))

-- ---- what a look-up finds
from_none : (test : GroundAtom → Bool) (i : ℕ) (atoms : List GroundAtom) → ((a : GroundAtom) → In a atoms → test a ≡ false) → position_from test i atoms ≡ None
from_none test i [] h = refl
from_none test i (a ∷ atoms) h =
    cond-false (test a) (Some i) (position_from test (i + 1) atoms) (h a (inl refl)) ∙ from_none test (i + 1) atoms (λ b there. h b (inr there))

pub number-is : (atoms : List GroundAtom) (atom : GroundAtom) (found : Option ℕ) → IsStrictlySortedBy atom_cmp atoms
    → IfSome found (λ p. p < length atoms) → IfSome found (λ p. atom_at atoms p ≡ atom) → IfNone found (among atoms atom ≡ false)
    → found ≡ number_in atoms atom
number-is atoms atom None sorted within is none =
    sym (position_from-zero (is_same_atom atom) atoms ∙ from_none (is_same_atom atom) 0 atoms (λ b there.
    false_from_ne_true (is_same_atom atom b) (λ same. both_ways (among atoms atom) none (list_any-from (is_same_atom atom) atoms b there same))))
number-is atoms atom (Some p) sorted within is none =
    sym (ap (number_in atoms) (sym is) ∙ number-at atoms p (sorted-rises atoms sorted) within)

-- ---- the numbers of wanted atoms
In-filter_map : {X Y : Type 0} (h : X → Option Y) (xs : List X) (x : X) (y : Y) → In x xs → h x ≡ Some y → In y (filter_map h xs)
In-filter_map h [] x y there is = absurd there
In-filter_map {Y = Y} h (z ∷ zs) x y there is = ⊎_elim
    (λ (same : x ≡ z). subst (λ (o : Option Y). In y (cons_option o (filter_map h zs))) (sym (sym (ap h same) ∙ is)) (let found : In y (y ∷ filter_map h zs) = inl refl in found))
    (λ (later : In x zs). behind y (h z) (filter_map h zs) (In-filter_map h zs x y later is))
    there
  where
    behind : {Y : Type 0} (y : Y) (o : Option Y) (ys : List Y) → In y ys → In y (cons_option o ys)
    behind y None ys there = there
    behind y (Some z) ys there = inr there

In-filter_map_cases : {X Y : Type 0} (h : X → Option Y) (xs : List X) (y : Y) → In y (filter_map h xs) → (x : X) × In x xs × (h x ≡ Some y)
In-filter_map_cases h [] y there = absurd there
In-filter_map_cases {X = X} {Y = Y} h (z ∷ zs) y there =
    elim (h z) as (λ o. h z ≡ o → In y (cons_option o (filter_map h zs)) → (x : X) × In x (z ∷ zs) × (h x ≡ Some y)) [
      | None ↦ λ is there. let rest = In-filter_map_cases h zs y there in (rest.0, inr rest.1, rest.2)
      | Some w ↦ λ is there. ⊎_elim
          (λ (same : y ≡ w). let found : (x : X) × In x (z ∷ zs) × (h x ≡ Some y) = (z, inl refl, is ∙ ap Some (sym same)) in found)
          (λ (later : In y (filter_map h zs)). let rest = In-filter_map_cases h zs y later in
          let found : (x : X) × In x (z ∷ zs) × (h x ≡ Some y) = (rest.0, inr rest.1, rest.2) in found)
          there
    ] refl there

abbrev pub Below : ℕ → ℕ → Type 0
Below x y = x < y

numbers-sorted : (numbers : List ℕ) → IsStrictlySortedBy nat_cmp numbers → Rises Below numbers
unfolding IsStrictlySortedBy
numbers-sorted [] h = tt
numbers-sorted (p ∷ numbers) h = (λ q there. ranked p q Less (sym (all-in (λ q. nat_cmp p q ≡ Less) numbers h.0 q there)), numbers-sorted numbers h.1)

pub numbers-rise : (atoms : List GroundAtom) (test : GroundAtom → Bool) → Rises Below (numbers_of atoms test)
numbers-rise atoms test = rises-filter Below (λ (p : ℕ). test (atom_at atoms p)) (range_with_len 0 (length atoms)) (rises-range 0 (length atoms))

-- the numbers that are found, sorted and without repeats
pub numbers-are : (atoms wanted : List GroundAtom) (sorted : List ℕ) → IsStrictlySortedBy atom_cmp atoms
    → IsPermutation (filter_map (number_in atoms) wanted) sorted → IsSorted nat_cmp sorted → dedup eqb sorted ≡ numbers_of atoms (among wanted)
numbers-are atoms wanted sorted strictly moved rising =
    let found = filter_map (number_in atoms) wanted in
    rises-same Below (λ x y lt gt. omega arith) (dedup eqb sorted) (numbers_of atoms (among wanted))
    (numbers-sorted (dedup eqb sorted) (IsStrictlySortedBy-dedup nat_cmp_total unsigned_ties sorted rising)) (numbers-rise atoms (among wanted))
    (λ p there.
    let kept = In-permutation sorted found (IsPermutation-sym found sorted moved) p
    (In-from_Contains p sorted (Contains-from_dedup eqb sorted p (Contains-from_In p (dedup eqb sorted) there))) in
    let from = In-filter_map_cases (number_in atoms) wanted p kept in
    let number = number-cases atoms from.0 p from.2 in
    number_there atoms (among wanted) p number.0 (ap (among wanted) number.1 ∙ among-from wanted from.0 from.1))
    (λ p there.
    let number = number_cases atoms (among wanted) p there in
    In-from_Contains p (dedup eqb sorted) (Contains-dedup_nat sorted p (Contains-from_In p sorted
    (In-permutation found sorted moved p (In-filter_map (number_in atoms) wanted (atom_at atoms p) p
    (among-in wanted (atom_at atoms p) number.1) (number-at atoms p (sorted-rises atoms strictly) number.0))))))

-- ---- what the code makes of it
flag-at : (lifted : Lifting) (pred : ℕ) → pred < length lifted.preds
    → has_flag (map (changes lifted) (range_with_len 0 (length lifted.preds))) pred ≡ changes lifted pred
flag-at lifted pred within = get_or-map-range_with_len (changes lifted) 0 (length lifted.preds) pred pred false within (zero-add pred)

pub filter-same : {X : Type 0} (s t : X → Bool) (xs : List X) → ((x : X) → In x xs → s x ≡ t x) → filter s xs ≡ filter t xs
filter-same s t [] same = refl
filter-same s t (x ∷ xs) same =
    λ i. cond (same x (inl refl) i) (x ∷ filter-same s t xs (λ y there. same y (inr there)) i) (filter-same s t xs (λ y there. same y (inr there)) i)

pub in-order : (lifted : Lifting) (world made sorted unique : List GroundAtom) → ((a : GroundAtom) → among world a ≡ true → IsAtom lifted a)
    → made ≡ filter (λ (a : GroundAtom). has_flag (map (changes lifted) (range_with_len 0 (length lifted.preds))) a.pred) world
    → IsPermutation made sorted → IsSorted atom_cmp sorted → IsFiltered (DiffersFromLast is_same_atom) [] sorted unique
    → (unique ≡ atoms_of lifted (among world)) × IsStrictlySortedBy atom_cmp unique
in-order lifted world made sorted unique fits is moved rising once =
    let flags = map (changes lifted) (range_with_len 0 (length lifted.preds)) in
    let there : (a : GroundAtom) → In a world → IsAtom lifted a = λ a h. fits a (among-from world a h) in
    let changing = is ∙ filter-same (λ (a : GroundAtom). has_flag flags a.pred) (λ (a : GroundAtom). changes lifted a.pred) world
    (λ a h. flag-at lifted a.pred (there a h).pred_there) in
    let kept = dedup_is is_same_atom sorted unique once in (
      kept ∙ atoms-are lifted world sorted there (subst (λ (l : List GroundAtom). IsPermutation l sorted) changing moved) rising,
      subst (IsStrictlySortedBy atom_cmp) (sym kept) (IsStrictlySortedBy-dedup atoms-total atoms-ties sorted rising),
    )

pub numbers-more : (atoms wanted : List GroundAtom) (i : ℕ) (a : GroundAtom) (found more : List ℕ) → i < length wanted → a ≡ get_or wanted i a
    → found ≡ filter_map (number_in atoms) (take i wanted) → more ≡ found ++ cons_option (number_in atoms a) []
    → more ≡ filter_map (number_in atoms) (take (i + 1) wanted)
numbers-more atoms wanted i a found more within read is next =
    next ∙ ap (λ (l : List ℕ). l ++ cons_option (number_in atoms a) []) is
    ∙ sym (filter_map-append (number_in atoms) (take i wanted) (a ∷ []))
    ∙ ap (filter_map (number_in atoms)) (ap (λ (b : GroundAtom). take i wanted ++ b ∷ []) read ∙ sym (take_more wanted i a within))

pub in-order-numbers : (atoms wanted : List GroundAtom) (found sorted unique : List ℕ) → IsStrictlySortedBy atom_cmp atoms
    → found ≡ filter_map (number_in atoms) wanted → IsPermutation found sorted → IsSorted nat_cmp sorted
    → IsFiltered (DiffersFromLast eqb) [] sorted unique → unique ≡ numbers_of atoms (among wanted)
in-order-numbers atoms wanted found sorted unique strictly is moved rising once =
    dedup_is eqb sorted unique once
    ∙ numbers-are atoms wanted sorted strictly (subst (λ (l : List ℕ). IsPermutation l sorted) is moved) rising

-- ---- the predicates that change
pub flags-none : (count p : ℕ) → p < count → has_flag (replicate count false) p ≡ false
flags-none count p within = get_or-replicate {A = Bool} count p false false within
