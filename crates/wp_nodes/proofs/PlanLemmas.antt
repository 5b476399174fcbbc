-- The computed plans follow the links.
use Rattle.std.proofs.Common.{◌≡◌, ℕ, suc, ◌<◌, Bool, true, false, List, [], ◌∷◌, ◌++◌, Option, Some, None, IfSome, fold, refl, sym, ap, ◌∙◌, arith}
use Rattle.std.specs.List.{All}
use Rattle.std.proofs.lemmas.Bool.{eq-eqb, ne_eqb}
use Rattle.std.proofs.lemmas.List.Elements.{All-cons, All-head, All-tail, All-weaker}
use Rattle.wp_nodes.specs.declared.kept.Back.{Back}
use Rattle.wp_nodes.specs.declared.kept.Kept.{Kept}
use Rattle.wp_nodes.specs.KeptNodes.{Keeping, IsKept, AreLinked}
use Rattle.wp_nodes.specs.Links.{along, FollowLinks, with_plan, plan_in}
use Rattle.wp_nodes.proofs.NumberLemmas.{Rising}

abbrev ComesLater : Kept → Type 0
ComesLater k = IfSome k.back (λ back. back.parent < k.number)

plan-here : (plans : ℕ → List ℕ) (k : Kept) (number : ℕ) → k.number ≡ number → with_plan plans k number ≡ along plans k.back
plan-here plans k number same = ap (λ (b : Bool). elim b [ true ↦ along plans k.back | false ↦ plans number ]) (eq-eqb k.number number same)

plan-else : (plans : ℕ → List ℕ) (k : Kept) (number : ℕ) → number < k.number → with_plan plans k number ≡ plans number
plan-else plans k number less = ap (λ (b : Bool). elim b [ true ↦ along plans k.back | false ↦ plans number ])
    (ne_eqb k.number number (λ (same : k.number ≡ number). omega arith))

-- later nodes change no plan of an earlier number
plan-stays : (plans : ℕ → List ℕ) (kept : List Kept) (number : ℕ) → All (λ k. number < k.number) kept → fold with_plan plans kept number ≡ plans number
plan-stays plans [] number later = refl
plan-stays plans (k ∷ kept) number later =
    plan-stays (with_plan plans k) kept number (All-tail (λ (x : Kept). number < x.number) k kept later)
    ∙ plan-else plans k number (All-head (λ (x : Kept). number < x.number) k kept later)

rising_rest : (k : Kept) (kept : List Kept) → Rising (k ∷ kept) → Rising kept
rising_rest k kept rising = λ i j d before within. rising (suc i) (suc j) d (omega arith) (omega arith)

rising_first : (k : Kept) (kept : List Kept) → Rising (k ∷ kept) → All (λ x. k.number < x.number) kept
rising_first k kept rising = λ i d within. rising 0 (suc i) d (omega arith) (omega arith)

first_follows : (plans : ℕ → List ℕ) (k : Kept) (kept : List Kept) → ComesLater k → All (λ x. k.number < x.number) kept →
    fold with_plan (with_plan plans k) kept k.number ≡ along (fold with_plan (with_plan plans k) kept) k.back
first_follows plans k kept later after =
    plan-stays (with_plan plans k) kept k.number after ∙ plan-here plans k k.number refl ∙ by k.back later
  where
    by : (back : Option Back) → IfSome back (λ b. b.parent < k.number) → along plans back ≡ along (fold with_plan (with_plan plans k) kept) back
    by None there = refl
    by (Some b) there =
        let stays : fold with_plan (with_plan plans k) kept b.parent ≡ with_plan plans k b.parent =
        plan-stays (with_plan plans k) kept b.parent
        (All-weaker (λ (x : Kept). k.number < x.number) (λ (x : Kept). b.parent < x.number) (λ x h. omega arith) kept after) in
        sym (ap (λ (plan : List ℕ). plan ++ b.act ∷ []) (stays ∙ plan-else plans k b.parent there))

follow : (plans : ℕ → List ℕ) (kept : List Kept) → Rising kept → All ComesLater kept → FollowLinks kept (fold with_plan plans kept)
follow plans [] rising later = λ i d within. absurd (omega arith)
follow plans (k ∷ kept) rising later =
    let all = fold with_plan (with_plan plans k) kept in
    All-cons (λ (x : Kept). all x.number ≡ along all x.back) k kept
    (first_follows plans k kept (All-head ComesLater k kept later) (rising_first k kept rising))
    (follow (with_plan plans k) kept (rising_rest k kept rising) (All-tail ComesLater k kept later))

pub plans_follow_links : (nodes : Keeping) → AreLinked nodes → FollowLinks nodes.kept (plan_in nodes.kept)
plans_follow_links nodes linked = follow (λ _. []) nodes.kept linked.rising
    (All-weaker (λ (k : Kept). IfSome k.back (λ back. (back.parent < k.number) × IsKept nodes.kept back.parent)) ComesLater
    (λ k h. by k.number k.back h) nodes.kept linked.parents)
  where
    by : (number : ℕ) (back : Option Back) → IfSome back (λ b. (b.parent < number) × IsKept nodes.kept b.parent) → IfSome back (λ b. b.parent < number)
    by number None there = tt
    by number (Some b) there = there.0
