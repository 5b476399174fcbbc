-- The first waiting node.
use Rattle.std.proofs.Common.{◌≡◌, ◌==◌, ◌&&◌, ◌||◌, ℕ, nat_lt, Bool, true, false, List, [], ◌∷◌, ◌++◌, Option, Some, None, cond, refl, sym, ap, ◌∙◌, subst, inl, ⊎_elim, append_assoc, arith}
use Rattle.std.specs.Prelude.{MatchOption}
use Rattle.std.specs.List.{Contains, fold}
use Rattle.std.proofs.lemmas.Bool.{cases_Bool, and_parts, both_ways}
use Rattle.std.proofs.lemmas.List.{append-nil}
use Rattle.std.proofs.lemmas.Bool.Decides.{nat_tests}
use Rattle.wp_task.proofs.Members.{In, In-from_Contains, Contains-from_In, In-append_left, In-append_right, In-append_cases}
use Rattle.wp_plain.specs.Nodes.{Node, comes_before, first_of_two, first_waiting, IsFirst, FirstIsLeast}

-- the order of triples
abbrev before : ℕ → ℕ → ℕ → ℕ → ℕ → ℕ → Bool
before w g n v h m = nat_lt w v || ((w == v) && (nat_lt g h || ((g == h) && nat_lt n m)))

before-after : (w g n v h m u k l : ℕ) → before v h m w g n ≡ true → before u k l w g n ≡ false → before u k l v h m ≡ false
before-after w g n v h m u k l first second = grind (arith, nat_tests)

before-same : (w g n v h m : ℕ) → before w g n v h m ≡ false → before v h m w g n ≡ false → n ≡ m
before-same w g n v h m first second = grind (arith, nat_tests)

before-itself : (w g n : ℕ) → before w g n w g n ≡ false
before-itself w g n = grind (arith, nat_tests)

-- ---- the first so far, with members by recursion
record IsFirstIn (nodes : List Node) (x : Node) : Type 0 where
  there : In x nodes
  waits : x.waits ≡ true
  least : (y : Node) → In y nodes → y.waits ≡ true → comes_before y x ≡ false

abbrev NoneWaits : List Node → Type 0
NoneWaits nodes = (x : Node) → In x nodes → x.waits ≡ false

abbrev IsLooked : List Node → Option Node → Type 0
IsLooked nodes first = MatchOption first (NoneWaits nodes) (IsFirstIn nodes)

-- what holds of members so far and of one more
each-more : (P : Node → Type 0) (nodes : List Node) (y : Node) → ((x : Node) → In x nodes → P x) → P y → (x : Node) → In x (nodes ++ y ∷ []) → P x
each-more P nodes y each last x there = ⊎_elim
    (λ (before_it : In x nodes). each x before_it)
    (λ (it : In x (y ∷ [])). ⊎_elim (λ (same : x ≡ y). subst P (sym same) last) (λ (none : ⊥). absurd none) it)
    (In-append_cases nodes (y ∷ []) x there)

looked-none : (nodes : List Node) (y : Node) → NoneWaits nodes → IsLooked (nodes ++ y ∷ []) (first_of_two None y)
looked-none nodes y none = ⊎_elim
    (λ (waits : y.waits ≡ true).
    subst (IsLooked (nodes ++ y ∷ [])) (sym (ap (λ b. cond b (Some y) None) waits))
    (let first : IsFirstIn (nodes ++ y ∷ []) y = record {
      there = In-append_right nodes (y ∷ []) y (inl refl);
      waits = waits;
      least = each-more (λ x. x.waits ≡ true → comes_before x y ≡ false) nodes y
          (λ x there wait. absurd (both_ways x.waits (none x there) wait))
          (λ wait. before-itself y.w y.generated.counters.0 y.generated.number);
    } in first))
    (λ (leaves : y.waits ≡ false).
    subst (IsLooked (nodes ++ y ∷ [])) (sym (ap (λ b. cond b (Some y) None) leaves)) (each-more (λ x. x.waits ≡ false) nodes y none leaves))
    (cases_Bool y.waits)

looked-some : (nodes : List Node) (x y : Node) → IsFirstIn nodes x → IsLooked (nodes ++ y ∷ []) (first_of_two (Some x) y)
looked-some nodes x y first = ⊎_elim
    (λ (sooner : (y.waits && comes_before y x) ≡ true).
    let parts = and_parts y.waits (comes_before y x) sooner in
    subst (IsLooked (nodes ++ y ∷ [])) (sym (ap (λ b. cond b (Some y) (Some x)) sooner))
    (let now : IsFirstIn (nodes ++ y ∷ []) y = record {
      there = In-append_right nodes (y ∷ []) y (inl refl);
      waits = parts.0;
      least = each-more (λ z. z.waits ≡ true → comes_before z y ≡ false) nodes y
          (λ z there wait. before-after x.w x.generated.counters.0 x.generated.number y.w y.generated.counters.0 y.generated.number
          z.w z.generated.counters.0 z.generated.number parts.1 (first.least z there wait))
          (λ wait. before-itself y.w y.generated.counters.0 y.generated.number);
    } in now))
    (λ (later : (y.waits && comes_before y x) ≡ false).
    subst (IsLooked (nodes ++ y ∷ [])) (sym (ap (λ b. cond b (Some y) (Some x)) later))
    (let still : IsFirstIn (nodes ++ y ∷ []) x = record {
      there = In-append_left nodes (y ∷ []) x first.there;
      waits = first.waits;
      least = each-more (λ z. z.waits ≡ true → comes_before z x ≡ false) nodes y first.least
          (λ wait. sym (ap (λ b. b && comes_before y x) wait) ∙ later);
    } in still))
    (cases_Bool (y.waits && comes_before y x))

looked-one : (nodes : List Node) (first : Option Node) (y : Node) → IsLooked nodes first → IsLooked (nodes ++ y ∷ []) (first_of_two first y)
looked-one nodes None y looked = looked-none nodes y looked
looked-one nodes (Some x) y looked = looked-some nodes x y looked

looked-all : (nodes : List Node) (first : Option Node) (more : List Node) → IsLooked nodes first → IsLooked (nodes ++ more) (fold first_of_two first more)
looked-all nodes first [] looked = subst (λ l. IsLooked l first) (sym (append-nil nodes)) looked
looked-all nodes first (y ∷ more) looked =
    subst (λ l. IsLooked l (fold first_of_two (first_of_two first y) more)) (append_assoc nodes (y ∷ []) more)
    (looked-all (nodes ++ y ∷ []) (first_of_two first y) more (looked-one nodes first y looked))

found : (nodes : List Node) (first : Option Node) → IsLooked nodes first →
    MatchOption first ((x : Node) → Contains nodes x → x.waits ≡ false) (IsFirst nodes)
found nodes None none = λ x there. none x (In-from_Contains x nodes there)
found nodes (Some x) first = record {
  there = Contains-from_In x nodes first.there;
  waits = first.waits;
  least = λ y there wait. first.least y (In-from_Contains y nodes there) wait;
}

pub first_is_least : FirstIsLeast
first_is_least = record {
  found = λ nodes. found nodes (first_waiting nodes) (looked-all [] None nodes (λ x there. absurd there));
  one = λ nodes x y first second.
      before-same x.w x.generated.counters.0 x.generated.number y.w y.generated.counters.0 y.generated.number
      (second.least x first.there first.waits) (first.least y second.there second.waits);
}
