-- The counter pairs of a run: each is listed once, and there are at most (goals + 1) * (atoms + 1) of them.
use Rattle.std.proofs.Common.{◌≡◌, ◌⊎◌, not, ℕ, ◌+◌, ◌*◌, ◌<◌, ◌≤◌, Bool, true, false, cond, List, [], ◌∷◌, ◌++◌, Contains, get_or, length, map, refl, sym, ◌∙◌, subst, inl, inr, arith, fold}
use Rattle.std.proofs.Math.Nat.{mul_comm}
use Rattle.std.proofs.lemmas.Bool.{both_ways}
use Rattle.std.proofs.lemmas.List.{get_or_default}
use Rattle.std.proofs.lemmas.List.Sums.{count_by-le-length}
use Rattle.std.proofs.lemmas.Nat.{mul-add-lt, same_from_place}
use Rattle.wp_task.specs.Set.{has}
use Rattle.wp_task.specs.Task.{PlanningTask, goal_counter}
use Rattle.wp_task.specs.Novelty.{Generated}
use Rattle.wp_task.proofs.Members.{In, In-from_Contains, Contains-from_In, In-map_cases, In-append_cases}
use Rattle.wp_plain.specs.Nodes.{Node, generated_in}
use Rattle.wp_plain.specs.Pairs.{has_pair, with_pair, pairs_in, ArePairsOf, PairsAreListed}
use Rattle.wp_plain.specs.Run.{Moment, run}
use Rattle.wp_plain.specs.Laws.{PairsAreFew}
use Rattle.wp_plain.proofs.Pigeons.{AreApart, AreApart-append, apart_pairs, pairs_apart, pigeons}
use Rattle.wp_plain.proofs.TraceLemmas.{AreTraced, ended}
use Rattle.wp_plain.proofs.ListLemmas.{has_pair-from_there, pairs_have}

-- ---- one pair after another
fold-from : (seen xs : List (ℕ × ℕ)) (p : ℕ × ℕ) → In p (fold with_pair seen xs) → In p seen ⊎ In p xs
fold-from seen [] p there = inl there
fold-from seen (x ∷ xs) p there = by (has_pair seen x) there (λ more. fold-from more xs p) where
  pushed : In p seen ⊎ In p (x ∷ []) → In p seen ⊎ In p (x ∷ xs)
  pushed (inl old) = inl old
  pushed (inr (inl same)) = inr (inl same)
  pushed (inr (inr none)) = absurd none

  kept : In p seen ⊎ In p xs → In p seen ⊎ In p (x ∷ xs)
  kept (inl old) = inl old
  kept (inr later) = inr (inr later)

  more : In p (seen ++ x ∷ []) ⊎ In p xs → In p seen ⊎ In p (x ∷ xs)
  more (inl old) = pushed (In-append_cases seen (x ∷ []) p old)
  more (inr later) = inr (inr later)

  by : (b : Bool) → In p (fold with_pair (cond b seen (seen ++ x ∷ [])) xs) →
      ((before : List (ℕ × ℕ)) → In p (fold with_pair before xs) → In p before ⊎ In p xs) → In p seen ⊎ In p (x ∷ xs)
  by true there rest = kept (rest seen there)
  by false there rest = more (rest (seen ++ x ∷ []) there)

fold-apart : (seen xs : List (ℕ × ℕ)) → AreApart seen → AreApart (fold with_pair seen xs)
fold-apart seen [] apart = apart
fold-apart seen (x ∷ xs) apart = by (has_pair seen x) refl (λ more. fold-apart more xs) where
  by : (b : Bool) → has_pair seen x ≡ b → ((more : List (ℕ × ℕ)) → AreApart more → AreApart (fold with_pair more xs)) →
      AreApart (fold with_pair (cond b seen (seen ++ x ∷ [])) xs)
  by true is rest = rest seen apart
  by false is rest = rest (seen ++ x ∷ []) (AreApart-append seen (x ∷ []) apart (λ none. none, tt)
      (λ p old. elim [
        | inl same ↦ both_ways (has_pair seen x) is (has_pair-from_there seen x (subst (λ q. In q seen) same old))
        | inr none ↦ none
      ]))

-- ---- how many there are
pub pairs_few : (goals atoms : ℕ) (xs : List Generated) → ((x : Generated) → In x xs → (x.counters.0 ≤ goals) × (x.counters.1 ≤ atoms)) →
    length (pairs_in xs) ≤ (goals + 1) * (atoms + 1)
pairs_few goals atoms xs small =
    pigeons (λ (p : ℕ × ℕ) (c : ℕ). c ≡ p.0 * (atoms + 1) + p.1) ((goals + 1) * (atoms + 1)) (pairs_in xs)
    (λ p there. code_of p (within p there)) (λ p q c first second one other. same p q (within p first) (within q second) (sym one ∙ other))
    (fold-apart [] (map (λ y. y.counters) xs) tt) where
      IsSmall : ℕ × ℕ → Type 0
      IsSmall p = (p.0 ≤ goals) × (p.1 ≤ atoms)

      within : (p : ℕ × ℕ) → In p (pairs_in xs) → IsSmall p
      within p there = by (fold-from [] (map (λ y. y.counters) xs) p there) where
        by : In p [] ⊎ In p (map (λ y. y.counters) xs) → IsSmall p
        by (inl none) = absurd none
        by (inr among) =
            let found : (x : Generated) × In x xs × (p ≡ x.counters) = In-map_cases (λ y. y.counters) xs p among in
            subst IsSmall (sym found.2) (small found.0 found.1)

      code_of : (p : ℕ × ℕ) → IsSmall p → (c : ℕ) × (c < (goals + 1) * (atoms + 1)) × (c ≡ p.0 * (atoms + 1) + p.1)
      code_of p fits =
          let low : p.0 < goals + 1 = omega (arith, fits.0) in
          let short : p.1 < atoms + 1 = omega (arith, fits.1) in (
            p.0 * (atoms + 1) + p.1,
            subst (λ n. p.0 * (atoms + 1) + p.1 < n) (mul_comm (atoms + 1) (goals + 1)) (mul-add-lt p.0 (atoms + 1) p.1 (goals + 1) low short),
            refl,
          )

      same : (p q : ℕ × ℕ) → IsSmall p → IsSmall q → p.0 * (atoms + 1) + p.1 ≡ q.0 * (atoms + 1) + q.1 → p ≡ q
      same p q one other alike =
          let short : p.1 < atoms + 1 = omega (arith, one.1) in
          let shorter : q.1 < atoms + 1 = omega (arith, other.1) in
          let parts = same_from_place p.0 p.1 q.0 q.1 (atoms + 1) short shorter alike in
          λ j. (parts.0 j, parts.1 j)

pub traced-few : (task : PlanningTask) (m : Moment) → AreTraced task m →
    length (pairs_in (generated_in m.nodes)) ≤ (length task.goals + 1) * (length task.init + 1)
traced-few task m traced = pairs_few (length task.goals) (length task.init) (generated_in m.nodes) (λ x there.
    let found : (n : Node) × In n m.nodes × (x ≡ n.generated) = In-map_cases (λ n. n.generated) m.nodes x there in
    let here = traced.each found.0 found.1 in
    let few : goal_counter task.goals found.0.generated.state ≤ length task.goals =
    count_by-le-length (λ p. not (has found.0.generated.state p)) task.goals in
    subst (λ (g : Generated). (g.counters.0 ≤ length task.goals) × (g.counters.1 ≤ length task.init)) (sym found.2)
    (subst (λ g. g ≤ length task.goals) (sym here.unmet) few, here.few))

pub pairs_are_few : PairsAreFew
pairs_are_few task settings tuples fits =
    let end = ended task settings tuples (λ m. Unit {0}) tt (λ m node traced there holds x. tt) in
    subst (λ n. length (pairs_in (generated_in (run task settings tuples).1.nodes)) ≤ (length task.goals + 1) * (n + 1)) fits.init_size
    (traced-few task (run task settings tuples).1 end.traced)

-- ---- the pairs of some nodes, each once
listed : (nodes : List Generated) → ArePairsOf nodes (pairs_in nodes)
listed nodes = record {
  has = λ pair. (λ there. from pair (fold-from [] (map (λ x. x.counters) nodes) pair (In-from_Contains pair (pairs_in nodes) there)), to pair);
  once = apart_pairs (pairs_in nodes) (fold-apart [] (map (λ x. x.counters) nodes) tt);
} where
  HasNode : ℕ × ℕ → Type 0
  HasNode pair = (x : Generated) × Contains nodes x × (x.counters ≡ pair)

  from : (pair : ℕ × ℕ) → In pair [] ⊎ In pair (map (λ x. x.counters) nodes) → HasNode pair
  from pair (inl none) = absurd none
  from pair (inr there) =
      let found : (x : Generated) × In x nodes × (pair ≡ x.counters) = In-map_cases (λ x. x.counters) nodes pair there in
      (found.0, Contains-from_In found.0 nodes found.1, sym found.2)

  to : (pair : ℕ × ℕ) → HasNode pair → Contains (pairs_in nodes) pair
  to pair found =
      Contains-from_In pair (pairs_in nodes)
      (subst (λ p. In p (pairs_in nodes)) found.2 (pairs_have nodes found.0 (In-from_Contains found.0 nodes found.1)))

no_more : (nodes : List Generated) (pairs other : List (ℕ × ℕ)) → ArePairsOf nodes pairs → ArePairsOf nodes other → length pairs ≤ length other
no_more nodes pairs other one second =
    pigeons (λ (p : ℕ × ℕ) (c : ℕ). get_or other c (0, 0) ≡ p) (length other) pairs
    (λ p there. at p ((second.has p).1 ((one.has p).0 (Contains-from_In p pairs there))))
    (λ p q c first next here also. sym here ∙ also) (pairs_apart pairs one.once) where
      at : (p : ℕ × ℕ) → Contains other p → (c : ℕ) × (c < length other) × (get_or other c (0, 0) ≡ p)
      at p there = (there.0, there.1, get_or_default other there.0 (0, 0) p there.1 ∙ there.2)

pub pairs_are_listed : PairsAreListed
pairs_are_listed = record {
  listed = listed;
  one = λ nodes pairs other one second.
      let few : length pairs ≤ length other = no_more nodes pairs other one second in
      let many : length other ≤ length pairs = no_more nodes other pairs second one in
      omega arith;
}
