-- A place of a text, with what stands before it: whether a word goes on there, and how many lists were opened and closed.
use Rattle.std.specs.Prelude.{ℕ, ◌+◌, ◌-◌, ◌^◌, ◌≤◌, ◌<◌, ◌==◌, Bool, if◌then◌else◌, List, count_by}
use Rattle.std.specs.List.{range_with_len}
use Rattle.wp_lex.specs.declared.place.Class.{Class}
use Rattle.wp_lex.specs.declared.place.Place.{Place}
use Rattle.wp_lex.specs.Words.{is_letter, is_opening, is_closing, class_at, follows_letter}

-- a place of a text
abbrev pub place_at : List ℕ → ℕ → Place
place_at text i = record {
  at = i;
  continues = follows_letter text i;
  opened = count_by (λ k. is_opening (class_at text k)) (range_with_len 0 i);
  closed = count_by (λ k. is_closing (class_at text k)) (range_with_len 0 i);
}

-- the counts of lists are at most that of the bytes, which is a length
pub record IsCounted (place : Place) : Type 0 where
  pub short : place.at < 2 ^ 64 - 1
  pub opened_within : place.opened ≤ place.at
  pub closed_within : place.closed ≤ place.at

-- the next place, where a byte of the class stands at this one
abbrev pub place_behind : Class → Place → Place
place_behind class place = record {
  at = place.at + 1;
  continues = is_letter class;
  opened = place.opened + (if is_opening class then 1 else 0);
  closed = place.closed + (if is_closing class then 1 else 0);
}

-- the number of lists that stand open
abbrev pub depth_of : Place → ℕ
depth_of place = place.opened - place.closed

abbrev pub is_outside : Place → Bool
is_outside place = depth_of place == 0
