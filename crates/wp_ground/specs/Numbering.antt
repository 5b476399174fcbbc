-- The order in which the atoms of a task are numbered: by predicate, and then by argument tuple.
use Rattle.std.specs.Prelude.{ℕ, ◌≤◌, Bool, false, Option, List, length, position, slice_index_or}
use Rattle.std.specs.List.Sorted.{IsStrictlySortedBy}
use Rattle.std.specs.declared.cmp.Ordering.{Ordering}
use Rattle.std.specs.Ordering.{nat_cmp, ordering_then}
use Rattle.std.specs.Cmp.Lexicographic.{slice_cmp}
use Rattle.wp_lift.specs.declared.atoms.GroundAtom.{GroundAtom}
use Rattle.wp_lift.specs.Worlds.{is_same_atom}

abbrev pub atom_cmp : GroundAtom → GroundAtom → Ordering
atom_cmp a b = ordering_then (nat_cmp a.pred b.pred) (slice_cmp nat_cmp a.args b.args)

-- each atom comes before the next, and all have numbers within the limit
pub record AreNumbered (atoms : List GroundAtom) : Type 0 where
  pub rising : IsStrictlySortedBy atom_cmp atoms
  pub few : length atoms ≤ 65536

-- the number of an atom, if it has one
abbrev pub number_in : List GroundAtom → GroundAtom → Option ℕ
number_in atoms atom = position (is_same_atom atom) atoms

abbrev pub has_flag : List Bool → ℕ → Bool
has_flag flags number = slice_index_or flags number false
