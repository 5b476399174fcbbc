-- Lists of faults in order, put together.
use Rattle.std.proofs.Common.{◌≡◌, ◌⊎◌, inl, inr, Some, refl, subst, ℕ, suc, ◌+◌, ◌*◌, ◌≤◌, ◌<◌, Bool, true, false, List, [], ◌∷◌, ◌++◌, arith}
use Rattle.std.specs.Prelude.{codes}
use Rattle.std.specs.List.{AllByRecursion}
use Rattle.std.specs.Str.{bytes_eq}
use Rattle.wp_lex.specs.Trees.{Tree, Trees, Leaf, Branch, End, Then}
use Rattle.wp_lex.specs.Rising.{TreeRises, Rises}
use Rattle.wp_syntax.specs.declared.error.ReadKind.{ReadKind}
use Rattle.wp_syntax.specs.declared.error.ReadKind.TheVariants.{Shape, Unsupported, Reserved, Duplicate, TooMany}
use Rattle.wp_syntax.specs.Reading.{Wrong, Read, wrong, wrong_if, each, first}
use Rattle.wp_syntax.specs.Grammar.{conjunction_of, conjuncts_of}
use Rattle.wp_syntax.specs.Walk.{rank, key, Ordered, IsLeast}

pub rank_le : (kind : ReadKind) → rank kind ≤ 4
rank_le Shape = omega arith
rank_le (Unsupported word) = omega arith
rank_le Reserved = omega arith
rank_le Duplicate = omega arith
rank_le (TooMany limit) = omega arith

pub lower : (a b c : ℕ) (xs : List Wrong) → a ≤ b → Ordered b xs c → Ordered a xs c
lower a b c [] l o = omega arith
lower a b c (x ∷ xs) l o = let h : b ≤ key x = o.0 in let below : a ≤ key x = omega arith in (below, o.1)

pub both : (a b c : ℕ) (xs ys : List Wrong) → Ordered a xs b → Ordered b ys c → Ordered a (xs ++ ys) c
both a b c [] ys o p = lower a b c ys o p
both a b c (x ∷ xs) ys o p = (o.0, both (key x) b c xs ys o.1 p)

pub higher : (a b c : ℕ) (xs : List Wrong) → b ≤ c → Ordered a xs b → Ordered a xs c
higher a b c [] l o = omega arith
higher a b c (x ∷ xs) l o = (o.0, higher (key x) b c xs l o.1)

-- with nothing behind them
pub ended : (a b : ℕ) (xs : List Wrong) → Ordered a xs b → Ordered a (xs ++ []) b
ended a b xs o = both a b b xs [] o (omega arith)

-- one fault that there is or is not
pub perhaps : (b : Bool) (kind : ReadKind) (at low high : ℕ) → low ≤ 5 * at + rank kind → 5 * at + rank kind ≤ high
    → Ordered low (wrong_if b kind at).faults high
perhaps true kind at low high l h = (l, h)
perhaps false kind at low high l h = omega arith

mutual
  pub rises_le : (trees : Trees) (low high : ℕ) → Rises trees low high → low ≤ high
  rises_le End low high r = r
  rises_le (Then tree rest) low high (middle, t, r) =
      let first : low < middle = tree_lt tree low middle t in
      let second : middle ≤ high = rises_le rest middle high r in
      omega arith

  pub tree_lt : (tree : Tree) (low high : ℕ) → TreeRises tree low high → low < high
  tree_lt (Leaf text at) low high (l, h) = omega arith
  tree_lt (Branch at trees) low high (l, r) = let inside : suc at ≤ high = rises_le trees (suc at) high r in omega arith

-- a row of trees, of which each has its faults in order
pub each_walks : {A : Type 0} (one : Tree → Read (List A))
    → ((tree : Tree) (low high : ℕ) → TreeRises tree low high → Ordered (5 * low) (one tree).faults (5 * high))
    → (trees : Trees) (low high : ℕ) → Rises trees low high → Ordered (5 * low) (each one trees).faults (5 * high)
each_walks {A} one walks End low high r = omega arith
each_walks {A} one walks (Then tree rest) low high (middle, t, r) =
    both (5 * low) (5 * middle) (5 * high) (one tree).faults ((each one rest).faults ++ []) (walks tree low middle t)
    (ended (5 * middle) (5 * high) (each one rest).faults (each_walks {A = A} one walks rest middle high r))

-- what is told at a place before all that stands in a row
pub told : (kind : ReadKind) (at : ℕ) (trees : Trees) (low high : ℕ) → at < low → Rises trees low high
    → Ordered (5 * at) (wrong kind at).faults (5 * high)
told kind at trees low high a r =
    let most : low ≤ high = rises_le trees low high r in
    perhaps true kind at (5 * at) (5 * high) (omega arith) (omega (arith, rank_le kind))

-- a conjunction, where what is none has its faults in order
mutual
  pub conjunction_walks : {A : Type 0} (plain : ℕ → List ℕ → ℕ → Trees → Read (List A))
      → ((at : ℕ) (head : List ℕ) (i : ℕ) (rest : Trees) (low high : ℕ) → at < i → i < low → Rises rest low high
      → Ordered (5 * at) (plain at head i rest).faults (5 * high))
      → (tree : Tree) (low high : ℕ) → TreeRises tree low high → Ordered (5 * low) (conjunction_of plain tree).faults (5 * high)
  conjunction_walks {A} plain walks (Leaf text at) low high (l, h) = (omega arith, omega arith)
  conjunction_walks {A} plain walks (Branch at End) low high (l, r) = omega arith
  conjunction_walks {A} plain walks (Branch at (Then (Branch i trees) rest)) low high (l, r) =
      let inside : suc at ≤ high = rises_le (Then (Branch i trees) rest) (suc at) high r in (omega arith, omega arith)
  conjunction_walks {A} plain walks (Branch at (Then (Leaf head i) rest)) low high (l, (middle, (m, h), r)) =
      let all : Ordered (5 * low) (conjuncts_of plain rest).faults (5 * high) =
      lower (5 * low) (5 * middle) (5 * high) (conjuncts_of plain rest).faults (omega arith)
      (conjuncts_walk {A = A} plain walks rest middle high r) in
      let alone : Ordered (5 * low) (plain at head i rest).faults (5 * high) =
      lower (5 * low) (5 * at) (5 * high) (plain at head i rest).faults (omega arith) (walks at head i rest middle high m h r) in
      elim (bytes_eq head (codes "and")) as (λ k. let r : Read (List A) = elim k [
        | true ↦ conjuncts_of plain rest
        | false ↦ plain at head i rest
      ] in Ordered (5 * low) r.faults (5 * high)) [ true ↦ all | false ↦ alone ]

  pub conjuncts_walk : {A : Type 0} (plain : ℕ → List ℕ → ℕ → Trees → Read (List A))
      → ((at : ℕ) (head : List ℕ) (i : ℕ) (rest : Trees) (low high : ℕ) → at < i → i < low → Rises rest low high
      → Ordered (5 * at) (plain at head i rest).faults (5 * high))
      → (trees : Trees) (low high : ℕ) → Rises trees low high → Ordered (5 * low) (conjuncts_of plain trees).faults (5 * high)
  conjuncts_walk {A} plain walks End low high r = omega arith
  conjuncts_walk {A} plain walks (Then tree rest) low high (middle, t, r) =
      both (5 * low) (5 * middle) (5 * high) (conjunction_of plain tree).faults ((conjuncts_of plain rest).faults ++ [])
      (conjunction_walks {A = A} plain walks tree low middle t)
      (ended (5 * middle) (5 * high) (conjuncts_of plain rest).faults (conjuncts_walk {A = A} plain walks rest middle high r))

some_same : {A : Type 0} (x y : A) → Some x ≡ Some y → x ≡ y
some_same x y e = cc

-- none of those that stand in order comes before what is below them all
above : (bound low high : ℕ) (xs : List Wrong) → bound ≤ low → Ordered low xs high → AllByRecursion (λ (other : Wrong). bound ≤ key other) xs
above bound low high [] l o = tt
above bound low high (x ∷ xs) l o =
    let h : low ≤ key x = o.0 in let here : bound ≤ key x = omega arith in (here, above bound (key x) high xs here o.1)

pub first_least : (low high : ℕ) (fault : Wrong) (faults : List Wrong) → Ordered low faults high → first faults ≡ Some fault
    → IsLeast fault faults
first_least low high fault [] o e = tt
first_least low high fault (x ∷ xs) o e =
    let least : IsLeast x (x ∷ xs) = (omega arith, above (key x) (key x) high xs (omega arith) o.1) in
    let same : x ≡ fault = some_same x fault e in
    subst (λ (fault : Wrong). IsLeast fault (x ∷ xs)) same least

-- what stands behind does not come first where anything is before it
pub first_before : (xs ys : List Wrong) (fault : Wrong) → first (xs ++ ys) ≡ Some fault → (xs ≡ []) ⊎ (first xs ≡ Some fault)
first_before [] ys fault e = inl refl
first_before (x ∷ xs) ys fault e = inr e
