use Rattle.std.proofs.Common.{◌<◌, ◌+◌, List, ℕ, length, get_or, sym, ap, ◌∙◌, arith}
use Rattle.std.specs.List.{slice_range}
use Rattle.wp_task.specs.Flat.{lists_in}
use Rattle.wp_task.proofs.FlatLemmas.{list_at, within_offsets}
use Rattle.wp_task.proofs.flat.Flat.at.Goals as goal

pub part-requires-clause-place : goal.part-requires-clause-place
part-requires-clause-place c =
    let offsets = c.self.inside.offsets.items in
    let within : c.args.place < length (lists_in offsets c.self.inside.items.items) = rw (← c.self.view_is) at c.requires in
    omega (arith, ap length c.as_slice-2.ensures.value, within_offsets offsets c.self.inside.items.items c.args.place within)

pub part-requires-clause-rising : goal.part-requires-clause-rising
part-requires-clause-rising c =
    let offsets = c.self.inside.offsets.items in
    let within : c.args.place < length (lists_in offsets c.self.inside.items.items) = rw (← c.self.view_is) at c.requires in
    omega (
      arith,
      ap (λ (l : List ℕ). get_or l c.args.place 0) c.as_slice-2.ensures.value,
      ap (λ (l : List ℕ). get_or l (c.args.place + 1) 0) c.as_slice-2.ensures.value,
      c.self.invariant.rising c.args.place (within_offsets offsets c.self.inside.items.items c.args.place within),
    )

pub part-requires-clause-within : goal.part-requires-clause-within
part-requires-clause-within c =
    omega (
      arith,
      ap length c.as_slice.ensures.value,
      ap (λ (l : List ℕ). get_or l (c.args.place + 1) 0) c.as_slice-2.ensures.value,
      c.self.invariant.within (c.args.place + 1),
    )

pub returns : goal.returns
returns c =
    let offsets = c.self.inside.offsets.items in
    let items = c.self.inside.items.items in
    let within : c.args.place < length (lists_in offsets items) = rw (← c.self.view_is) at c.requires in
    rw (← c.self.view_is)
    (c.part.ensures
    ∙ ((λ j. slice_range (c.as_slice.ensures.value j) (get_or (c.as_slice-2.ensures.value j) c.args.place 0) (get_or (c.as_slice-2.ensures.value j) (c.args.place + 1) 0))
    ∙ sym (list_at offsets items c.args.place within)))
