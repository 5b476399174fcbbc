use Rattle.std.proofs.Common.{◌≡◌, true, false, length, sym, ap, ◌∙◌, inl, inr, ⊎_elim, arith}
use Rattle.wp_task.specs.Set.{has}
use Rattle.wp_task.specs.Packing.{bit_in}
use Rattle.wp_task.proofs.PackingLemmas.{has-flags_in, length-flags_in}
use Rattle.wp_task.proofs.SetLemmas.{atoms_in-few, atoms_in-inserted, unchanged_by}
use Rattle.wp_task.proofs.state.State.insert_if.Goals as goal

pub returns-then-is_set-clause-set : goal.returns-then-is_set-clause-set
returns-then-is_set-clause-set c = unchanged_by c.args.self.now c.args.p c.args.wished (⊎_elim
    (λ (there : c.is_set.result ≡ true).
    let here : has c.args.self.now c.args.p ≡ true =
    rw (← c.self.view_is)
    (has-flags_in c.self.inside.words.items c.self.inside.size c.self.invariant c.args.p
    ∙ (ap (λ w. bit_in w c.args.p) (sym c.as_slice.ensures.value) ∙ (sym c.is_set.ensures ∙ there))) in inl here)
    (λ (no : (c.is_set.result ≡ false) × (c.args.wished ≡ false)). inr no.1)
    c.then-is_set.either)

pub returns-then-is_set-clause-few : goal.returns-then-is_set-clause-few
returns-then-is_set-clause-few c =
    let size : length c.args.self.now ≡ c.self.inside.size =
    rw (← c.self.view_is) (length-flags_in c.self.inside.words.items c.self.inside.size) in
    omega (arith, atoms_in-few c.args.self.now, size, c.self.ranges)

pub returns-clause-few : goal.returns-clause-few
returns-clause-few c =
    let size : length c.args.self.now ≡ c.self.inside.size =
    rw (← c.self.view_is) (length-flags_in c.self.inside.words.items c.self.inside.size) in
    omega (arith, atoms_in-few c.insert.new.self, c.insert.ensures.size, size, c.self.ranges)

pub returns-clause-count : goal.returns-clause-count
returns-clause-count c =
    let lacks : has c.args.self.now c.args.p ≡ false =
    rw (← c.self.view_is)
    (has-flags_in c.self.inside.words.items c.self.inside.size c.self.invariant c.args.p
    ∙ (ap (λ w. bit_in w c.args.p) (sym c.as_slice.ensures.value) ∙ (sym c.is_set.ensures ∙ c.if-is_set.false))) in
    atoms_in-inserted c.args.self.now c.insert.new.self c.args.p c.insert.ensures.size (c.requires c.if-not-wished.false) lacks c.insert.ensures.set
