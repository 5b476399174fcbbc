-- What finds the names of a list by their numbers. There are fewer than 2^32 of them.
use Rattle.std.specs.Prelude.{ℕ, ◌≡◌, ◌^◌, ◌<◌, Option, List, length}
use Rattle.wp_lift.specs.Names.{number_of}

pub record IsNumbering (find : List ℕ → Option ℕ) (names : List (List ℕ)) : Type 0 where
  pub few : length names < 2 ^ 32
  pub finds : (name : List ℕ) → find name ≡ number_of name names
