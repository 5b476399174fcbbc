-- The laws of the order of atoms, seen as the list of a predicate's number and of the objects' numbers.
use Rattle.std.specs.Prelude.{◌≡◌, ℕ, Some, List, ◌∷◌}
use Rattle.std.specs.Cmp.{IsEquivalence, IsPartialOrder, IsTotalOrder, on_equiv, on_po, on_total}
use Rattle.std.specs.Cmp.Lexicographic.{nat_list_eq_equiv, nat_list_cmp_total, texts_po, texts_ties}
use Rattle.std.specs.Ordering.{eq_by_cmp}
use Rattle.wp_lift.specs.declared.atoms.GroundAtom.{GroundAtom}
use Rattle.wp_lift.specs.Worlds.{is_same_atom}
use Rattle.wp_ground.specs.Numbering.{atom_cmp}

abbrev pub numbers_in : GroundAtom → List ℕ
numbers_in atom = atom.pred ∷ atom.args

pub forms_equiv : IsEquivalence is_same_atom
forms_equiv = on_equiv numbers_in nat_list_eq_equiv

pub forms_po : IsPartialOrder is_same_atom (λ a b. Some (atom_cmp a b))
forms_po = on_po numbers_in texts_po

pub forms_total : IsTotalOrder atom_cmp
forms_total = on_total numbers_in nat_list_cmp_total

pub forms_ties : (a b : GroundAtom) → is_same_atom a b ≡ eq_by_cmp atom_cmp a b
forms_ties a b = texts_ties (numbers_in a) (numbers_in b)
