use Rattle.std.proofs.Common.{◌≡◌, ◌*◌, ◌&&◌, not, length, sym, ap, ◌∙◌, subst, arith}
use Rattle.std.specs.List.{count_by, range_with_len}
use Rattle.wp_task.specs.Set.{has, atoms_in}
use Rattle.wp_task.specs.Packing.{bit_in, flags_in, IsPacked}
use Rattle.wp_task.proofs.PackingLemmas.{length-flags_in}
use Rattle.wp_task.proofs.MissingLemmas.{missing_atoms}
use Rattle.wp_task.proofs.state.State.count_missing.Goals as goal

pub count_missing-requires-clause-len : goal.count_missing-requires-clause-len
count_missing-requires-clause-len c =
    let same : length (flags_in c.atoms.inside.words.items c.atoms.inside.size) ≡ length (flags_in c.self.inside.words.items c.self.inside.size) =
    rw (c.self.view_is, c.atoms.view_is) c.requires in
    let sizes : c.atoms.inside.size ≡ c.self.inside.size =
    sym (length-flags_in c.atoms.inside.words.items c.atoms.inside.size) ∙ (same ∙ length-flags_in c.self.inside.words.items c.self.inside.size) in
    omega (arith, ap length c.as_slice-words.ensures.value, ap length c.as_slice-wanted.ensures.value, sizes, c.self.invariant.room, c.atoms.invariant.room)

pub count_missing-requires-clause-few : goal.count_missing-requires-clause-few
count_missing-requires-clause-few c =
    omega (arith, ap length c.as_slice-words.ensures.value, c.self.invariant.room)

pub returns : goal.returns
returns c =
    let words = c.self.inside.words.items in
    let wanted = c.atoms.inside.words.items in
    let size = c.self.inside.size in
    let same : length (flags_in wanted c.atoms.inside.size) ≡ length (flags_in words size) = rw (c.self.view_is, c.atoms.view_is) c.requires in
    let sizes : c.atoms.inside.size ≡ size =
    sym (length-flags_in wanted c.atoms.inside.size) ∙ (same ∙ length-flags_in words size) in
    let packed : IsPacked wanted size = subst (IsPacked wanted) sizes c.atoms.invariant in
    let other : flags_in wanted size ≡ c.args.atoms.now = ap (flags_in wanted) (sym sizes) ∙ c.atoms.view_is in
    let own = c.as_slice-words.ensures.value in
    let others = c.as_slice-wanted.ensures.value in
    c.count_missing.ensures
    ∙ ((λ j. count_by (λ p. bit_in (others j) p && not (bit_in (own j) p)) (range_with_len 0 (64 * length (own j))))
    ∙ (missing_atoms words wanted size c.self.invariant packed
    ∙ (λ j. count_by (λ p. not (has (c.self.view_is j) p)) (atoms_in (other j)))))
