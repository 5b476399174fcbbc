-- First places in lists.
use Rattle.std.proofs.Common.{◌≡◌, ℕ, ◌<◌, Bool, true, false, cond, List, length, Some, None, ltb, refl, sym, IfSome}
use Rattle.std.specs.List.{position, position_or_len, position_from}
use Rattle.std.proofs.lemmas.Iterator.Adapters.{position_from-zero}
use borrow.Author.Tests.{ltb-true}

pub from-zero : {X : Type 0} (p : X → Bool) (xs : List X) → position_from p 0 xs ≡ position p xs
from-zero p xs = sym (position_from-zero p xs)

below : (place n : ℕ) (b : Bool) → ltb place n ≡ b → IfSome (cond b (Some place) None) (λ i. i < n)
below place n true e = ltb-true place n e
below place n false e = tt

pub position-in : {X : Type 0} (p : X → Bool) (xs : List X) → IfSome (position p xs) (λ i. i < length xs)
position-in p xs = below (position_or_len p xs) (length xs) (ltb (position_or_len p xs) (length xs)) refl
