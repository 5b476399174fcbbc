use Rattle.std.proofs.Common.{◌≡◌, ◌+◌, ◌/◌, List, ℕ, length, sym, ap, ◌∙◌, subst, arith}
use Rattle.std.specs.Vec.{with_items}
use Rattle.std.proofs.lemmas.List.{with_items_is}
use Rattle.wp_task.specs.Packing.{flags_in, IsPacked}
use Rattle.wp_task.proofs.PackingLemmas.{length-flags_in}
use Rattle.wp_task.proofs.state.State.copy_from.Goals as goal

pub copy_from_slice-requires : goal.copy_from_slice-requires
copy_from_slice-requires c =
    let mine : length c.args.self.now ≡ c.self.inside.size = rw (← c.self.view_is) (length-flags_in c.self.inside.words.items c.self.inside.size) in
    let others : length c.args.other.now ≡ c.other.inside.size = rw (← c.other.view_is) (length-flags_in c.other.inside.words.items c.other.inside.size) in
    let same : c.self.inside.size ≡ c.other.inside.size = sym mine ∙ (sym c.requires ∙ others) in
    ap length c.as_mut_slice.ensures.value
    ∙ (c.self.invariant.room
    ∙ (ap (λ n. (n + 63) / 64) same
    ∙ (sym c.other.invariant.room ∙ sym (ap length c.as_slice-words.ensures.value))))

pub invariant_of-self : goal.invariant_of-self
invariant_of-self c =
    let mine : length c.args.self.now ≡ c.self.inside.size = rw (← c.self.view_is) (length-flags_in c.self.inside.words.items c.self.inside.size) in
    let others : length c.args.other.now ≡ c.other.inside.size = rw (← c.other.view_is) (length-flags_in c.other.inside.words.items c.other.inside.size) in
    let same : c.other.inside.size ≡ c.self.inside.size = sym others ∙ (c.requires ∙ mine) in
    let items : (with_items c.self.inside.words c.copy_from_slice.new.self).items ≡ c.other.inside.words.items =
    with_items_is c.self.inside.words c.copy_from_slice.new.self (c.copy_from_slice.ensures.len ∙ c.as_mut_slice.ensures.len)
    ∙ (c.copy_from_slice.ensures.after ∙ c.as_slice-words.ensures.value) in
    subst (λ (l : List ℕ). IsPacked l c.self.inside.size) (sym items) (subst (IsPacked c.other.inside.words.items) same c.other.invariant)

pub returns : goal.returns
returns c =
    let mine : length c.args.self.now ≡ c.self.inside.size = rw (← c.self.view_is) (length-flags_in c.self.inside.words.items c.self.inside.size) in
    let others : length c.args.other.now ≡ c.other.inside.size = rw (← c.other.view_is) (length-flags_in c.other.inside.words.items c.other.inside.size) in
    let same : c.self.inside.size ≡ c.other.inside.size = sym mine ∙ (sym c.requires ∙ others) in
    let items : (with_items c.self.inside.words c.copy_from_slice.new.self).items ≡ c.other.inside.words.items =
    with_items_is c.self.inside.words c.copy_from_slice.new.self (c.copy_from_slice.ensures.len ∙ c.as_mut_slice.ensures.len)
    ∙ (c.copy_from_slice.ensures.after ∙ c.as_slice-words.ensures.value) in
    (λ j. flags_in (items j) (same j)) ∙ c.other.view_is
