use Rattle.std.proofs.Common.{◌↔◌, ◌∙◌, List, sym, subst}
use Rattle.std.specs.List.{Contains}
use Rattle.std.specs.List.Sorted.{IsStrictlySortedBy}
use Rattle.wp_lift.specs.declared.atoms.GroundAtom.{GroundAtom}
use Rattle.wp_ground.specs.Numbering.{atom_cmp}
use Rattle.wp_ground.proofs.FormLemmas.{sorted-once, same-members}
use Rattle.wp_ground.proofs.forms.in_order.Goals as goal

pub returns-clause-rising : goal.returns-clause-rising
returns-clause-rising c =
    subst (IsStrictlySortedBy atom_cmp) (sym (c.in_ok-sorted.ensures ∙ c.as_slice.ensures.value))
    (sorted-once c.sort_unstable.new.self.items c.dedup.new.self.items c.sort_unstable.ensures.sorted c.dedup.ensures.filtered)

pub returns-clause-same : goal.returns-clause-same
returns-clause-same c = λ atom.
    subst (λ (l : List GroundAtom). Contains l atom ↔ Contains c.args.atoms.now atom) (sym (c.in_ok-sorted.ensures ∙ c.as_slice.ensures.value))
    (subst (λ (l : List GroundAtom). Contains c.dedup.new.self.items atom ↔ Contains l atom) c.in_ok-forms.ensures
    (same-members c.in_ok-forms.forms.items c.sort_unstable.new.self.items c.dedup.new.self.items c.sort_unstable.ensures.permutation c.dedup.ensures.filtered atom))
