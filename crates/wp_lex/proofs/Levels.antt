-- The bracket that closes a list parts its items: those before it have the same trees, and those behind it
-- are the trees of the next level.
use Rattle.std.proofs.Common.{◌≡◌, ℕ, zero, suc, ◌+◌, List, [], ◌∷◌, length, take, drop, refl, ap, arith, ◌≤◌, add-one}
use Rattle.wp_lex.specs.declared.item.Item.{Item}
use Rattle.wp_lex.specs.declared.item.Item.TheVariants.{Word, Open, Close}
use Rattle.wp_lex.specs.Trees.{Trees, Then, End, Leaf, trees_of, levels_of, first_or_end, all_but_first}

-- the place of the bracket that closes the list that was opened `depth` lists before
abbrev pub closing : ℕ → List Item → ℕ
closing depth [] = 0
closing depth (Word text at ∷ items) = suc (closing depth items)
closing depth (Open at ∷ items) = suc (closing (suc depth) items)
closing zero (Close ∷ items) = 0
closing (suc depth) (Close ∷ items) = suc (closing depth items)

pub record Splits (depth : ℕ) (items : List Item) : Type 0 where
  pub here : trees_of (take (closing depth items) items) ≡ trees_of items
  pub behind : (levels_of (take (closing depth items) items)).behind ≡ take depth (levels_of items).behind
  pub rest : trees_of (drop (suc (closing depth items)) items) ≡ first_or_end (drop depth (levels_of items).behind)
  pub within : closing depth items ≤ length items

first-take : (depth : ℕ) (rows : List Trees) → first_or_end (take (suc depth) rows) ≡ first_or_end rows
first-take depth [] = refl
first-take depth (row ∷ rows) = refl

all_but_first-take : (depth : ℕ) (rows : List Trees) → all_but_first (take (suc depth) rows) ≡ take depth (all_but_first rows)
all_but_first-take zero [] = refl
all_but_first-take (suc depth) [] = refl
all_but_first-take depth (row ∷ rows) = refl

first-drop : (depth : ℕ) (rows : List Trees) → first_or_end (drop (suc depth) rows) ≡ first_or_end (drop depth (all_but_first rows))
first-drop zero [] = refl
first-drop (suc depth) [] = refl
first-drop depth (row ∷ rows) = refl

take-none : (depth : ℕ) → take depth (let none : List Trees = [] in none) ≡ []
take-none zero = refl
take-none (suc depth) = refl

first-drop-none : (depth : ℕ) → first_or_end (drop depth []) ≡ End
first-drop-none zero = refl
first-drop-none (suc depth) = refl

pub splits : (depth : ℕ) (items : List Item) → Splits depth items
splits depth [] = record {
  here = refl;
  behind = grind (arith, take-none);
  rest = grind (arith, first-drop-none);
  within = omega arith;
}
splits depth (Word text at ∷ items) = let s = splits depth items in record {
  here = ap (Then (Leaf text at)) s.here;
  behind = s.behind;
  rest = s.rest;
  within = omega (arith, s.within);
}
splits depth (Open at ∷ items) = let s = splits (suc depth) items in let rows = (levels_of items).behind in record {
  here = rw (s.here, s.behind, first-take depth rows) refl;
  behind = rw (s.behind, all_but_first-take depth rows) refl;
  rest = rw (s.rest, first-drop depth rows) refl;
  within = omega (arith, s.within);
}
splits zero (Close ∷ items) = record { here = refl; behind = refl; rest = refl; within = omega arith }
splits (suc depth) (Close ∷ items) = let s = splits depth items in record {
  here = refl;
  behind = rw (s.here, s.behind) refl;
  rest = s.rest;
  within = omega (arith, s.within);
}

pub inner_at : (place : ℕ) (items : List Item) → closing 0 items ≡ place → trees_of (take place items) ≡ trees_of items
inner_at place items e = rw (← e) (splits 0 items).here

pub rest_at : (place : ℕ) (items : List Item) → closing 0 items ≡ place
    → trees_of (drop (place + 1) items) ≡ first_or_end (levels_of items).behind
rest_at place items e = rw (← e, add-one) (splits 0 items).rest
