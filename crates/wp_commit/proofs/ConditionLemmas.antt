-- The conditions under which the newborns of an expansion are entered, kept and queued.
use Rattle.std.proofs.Common.{◌≡◌, ◌≢◌, ℕ, suc, ◌+◌, ◌-◌, ◌<◌, ◌≤◌, Bool, true, false, cond, List, [], ◌∷◌, ◌++◌, Option, Some, None, length, map, refl, sym, ap, subst, inl, inr, arith}
use Rattle.std.specs.Prelude.{IfSome, option_map}
use Rattle.std.specs.List.{All, AllPairs, fold, slice_get}
use Rattle.std.proofs.lemmas.List.{length-map, length_push}
use Rattle.std.proofs.lemmas.List.Elements.{All-cons}
use Rattle.std.proofs.lemmas.List.Kept.{AllPairs-cons}
use Rattle.std.proofs.lemmas.Option.{get_or_from_slice_get, slice_get_within}
use Rattle.wp_task.specs.Novelty.{Generated, novelty_of}
use Rattle.wp_task.proofs.Members.{In, In-at, In-map, In-map_cases, In-append_right}
use Rattle.wp_count.specs.declared.brood.Child.{Child}
use Rattle.wp_novel.specs.NoveltyTables.{NoveltyTables, open_pairs}
use Rattle.wp_novel.specs.StandsFor.{last_number}
use Rattle.wp_nodes.specs.declared.kept.Kept.{Kept}
use Rattle.wp_plain.specs.Nodes.{Node, generated_in}
use Rattle.wp_plain.specs.Pairs.{has_pair, with_pair, pairs_in}
use Rattle.wp_plain.specs.Numbers.{CountUp}
use Rattle.wp_plain.specs.Explored.{numbered, all_numbered}
use Rattle.wp_plain.proofs.ListLemmas.{pairs_have, has_pair-from_there}
use Rattle.wp_plain.proofs.NumberLemmas.{number_below}
use Rattle.wp_plain.proofs.Pigeons.{AreApart}
use Rattle.wp_commit.specs.declared.newborn.Newborn.{Newborn}
use Rattle.wp_commit.specs.Newborns.{newborns_of, AreNew, HasOpenPair}

pub all-from : {X : Type 0} (P : X → Type 0) (xs : List X) → ((x : X) → In x xs → P x) → All P xs
all-from P [] each = λ k d within. absurd (omega (arith, within))
all-from P (x ∷ xs) each = All-cons P x xs (each x (inl refl)) (all-from P xs (λ y later. each y (inr later)))

-- ---- pairs
pairs-short : (seen xs : List (ℕ × ℕ)) → length (fold with_pair seen xs) ≤ length seen + length xs
pairs-short seen [] = omega arith
pairs-short seen (x ∷ xs) = by (has_pair seen x) (λ more. pairs-short more xs) where
  by : (b : Bool) → ((more : List (ℕ × ℕ)) → length (fold with_pair more xs) ≤ length more + length xs) →
      length (fold with_pair (cond b seen (seen ++ x ∷ [])) xs) ≤ length seen + suc (length xs)
  by true rest = omega (arith, rest seen)
  by false rest = omega (arith, rest (seen ++ x ∷ []), length_push seen x)

-- there are no more pairs than nodes
pub pairs-few : (xs : List Generated) → length (pairs_in xs) ≤ length xs
pairs-few xs = omega (arith, pairs-short [] (map (λ x. x.counters) xs), length-map xs (λ x. x.counters))

pub length-numbered : (n : ℕ) (cs : List Child) → length (all_numbered n cs) ≡ length cs
length-numbered n [] = refl
length-numbered n (c ∷ cs) = ap suc (length-numbered (n + 1) cs)

numbered-there : (n : ℕ) (cs : List Child) (c : Child) → In c cs → (x : Generated) × In x (all_numbered n cs) × (x.counters ≡ (c.g, c.r))
numbered-there n [] c there = absurd there
numbered-there n (d ∷ cs) c (inl same) = (numbered n d, inl refl, ap (λ (e : Child). (e.g, e.r)) (sym same))
numbered-there n (d ∷ cs) c (inr later) =
    let rest = numbered-there (n + 1) cs c later in
    (rest.0, inr rest.1, rest.2)

-- the pairs of the children are open where those of all nodes are
pub children-open : (t : NoveltyTables) (xs : List Generated) (n : ℕ) (cs : List Child) →
    open_pairs t ≡ pairs_in (xs ++ all_numbered n cs) → All (HasOpenPair t) cs
children-open t xs n cs same = all-from (HasOpenPair t) cs (λ c there.
    let found = numbered-there n cs c there in
    let among : In (c.g, c.r) (pairs_in (xs ++ all_numbered n cs)) =
    subst (λ p. In p (pairs_in (xs ++ all_numbered n cs))) found.2
    (pairs_have (xs ++ all_numbered n cs) found.0 (In-append_right xs (all_numbered n cs) found.0 found.1)) in
    has_pair-from_there (open_pairs t) (c.g, c.r) (subst (In (c.g, c.r)) (sym same) among))

-- ---- numbers
-- the last number is below the count
pub last-below : (nodes : List Node) → CountUp 0 nodes → IfSome (last_number (generated_in nodes)) (λ last. last < length nodes)
last-below nodes counts = by (slice_get births (length births - 1)) refl where
  births : List Generated
  births = generated_in nodes

  by : (o : Option Generated) → slice_get births (length births - 1) ≡ o → IfSome (option_map (λ b. b.number) o) (λ last. last < length nodes)
  by None is = tt
  by (Some b) is =
      let among : In b births = In-at b births (length births - 1) (slice_get_within births (length births - 1) b is) (get_or_from_slice_get births (length births - 1) b b is) in
      let from : (y : Node) × In y nodes × (b ≡ y.generated) = In-map_cases (λ (y : Node). y.generated) nodes b among in
      let below : from.0.generated.number < 0 + length nodes = number_below 0 nodes counts from.0 from.1 in
      let same : b.number ≡ from.0.generated.number = ap (λ (y : Generated). y.number) from.2 in
      omega arith

-- ---- newborns
number-from : (width : ℕ) (all : List Generated) (n : ℕ) (cs : List Child) (x : Newborn) → In x (newborns_of width all n cs) → n ≤ x.number
number-from width all n [] x there = absurd there
number-from width all n (c ∷ cs) x (inl same) = let is : x.number ≡ n = ap (λ y. y.number) same in omega arith
number-from width all n (c ∷ cs) x (inr later) = let rest : n + 1 ≤ x.number = number-from width all (n + 1) cs x later in omega arith

child-there : (width : ℕ) (all : List Generated) (n : ℕ) (cs : List Child) (x : Newborn) → In x (newborns_of width all n cs) → In x.child cs
child-there width all n [] x there = absurd there
child-there width all n (c ∷ cs) x (inl same) = inl (ap (λ y. y.child) same)
child-there width all n (c ∷ cs) x (inr later) = inr (child-there width all (n + 1) cs x later)

newborns-rise : (width : ℕ) (all : List Generated) (n : ℕ) (cs : List Child) → AllPairs (λ x y. x.number < y.number) (newborns_of width all n cs)
newborns-rise width all n [] = λ i j d before within. absurd (omega (arith, within))
newborns-rise width all n (c ∷ cs) =
    let rest = newborns_of width all (n + 1) cs in
    let x : Newborn = record { number = n; w = novelty_of width all (numbered n c); child = c } in
    AllPairs-cons (λ (x y : Newborn). x.number < y.number) x rest
    (all-from (λ (y : Newborn). n < y.number) rest (λ y there. let later : n + 1 ≤ y.number = number-from width all (n + 1) cs y there in omega arith))
    (newborns-rise width all (n + 1) cs)

newborns-apart : (width : ℕ) (all : List Generated) (n : ℕ) (cs : List Child) → AreApart (map (λ c. c.state) cs) →
    AllPairs (λ x y. x.child.state ≢ y.child.state) (newborns_of width all n cs)
newborns-apart width all n [] apart = λ i j d before within. absurd (omega (arith, within))
newborns-apart width all n (c ∷ cs) apart =
    let rest = newborns_of width all (n + 1) cs in
    let x : Newborn = record { number = n; w = novelty_of width all (numbered n c); child = c } in
    AllPairs-cons (λ (x y : Newborn). x.child.state ≢ y.child.state) x rest
    (all-from (λ (y : Newborn). c.state ≢ y.child.state) rest (λ y there same.
    apart.0 (subst (λ s. In s (map (λ (d : Child). d.state) cs)) (sym same) (In-map (λ (d : Child). d.state) cs y.child (child-there width all (n + 1) cs y there)))))
    (newborns-apart width all (n + 1) cs apart.1)

pub newborns-new : (width : ℕ) (all : List Generated) (n : ℕ) (cs : List Child) (kept : List Kept) → ((k : Kept) → In k kept → k.number < n) →
    AreApart (map (λ c. c.state) cs) → ((s : List Bool) → In s (map (λ c. c.state) cs) → In s (map (λ k. k.state) kept) → ⊥) →
    AreNew kept (newborns_of width all n cs)
newborns-new width all n cs kept below apart unseen =
    let xs = newborns_of width all n cs in
    record {
      rising = newborns-rise width all n cs;
      later = all-from (λ (x : Newborn). All (λ k. k.number < x.number) kept) xs (λ x there.
          all-from (λ (k : Kept). k.number < x.number) kept (λ k among.
          let small : k.number < n = below k among in
          let from : n ≤ x.number = number-from width all n cs x there in
          omega arith));
      apart = newborns-apart width all n cs apart;
      unseen = all-from (λ (x : Newborn). All (λ k. k.state ≢ x.child.state) kept) xs (λ x there.
          all-from (λ (k : Kept). k.state ≢ x.child.state) kept (λ k among same.
          unseen x.child.state (In-map (λ (c : Child). c.state) cs x.child (child-there width all n cs x there))
          (subst (λ s. In s (map (λ (d : Kept). d.state) kept)) same (In-map (λ (d : Kept). d.state) kept k among))));
    }
