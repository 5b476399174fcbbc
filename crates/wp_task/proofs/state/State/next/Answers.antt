use Rattle.std.proofs.Common.{◌≡◌, ◌≤◌, ℕ, false, length, ap, ◌∙◌, arith}
use Rattle.std.proofs.lemmas.List.{get_or_past}
use Rattle.wp_task.specs.Packing.{bit_in, flags_in, IsNextBit}
use Rattle.wp_task.proofs.PackingLemmas.{has-flags_in, length-flags_in, next_atom}
use Rattle.wp_task.proofs.OptionLemmas.{IfSome-weaker, IfNone-weaker}
use Rattle.wp_task.proofs.state.State.next.Goals as goal

pub next_set-requires : goal.next_set-requires
next_set-requires c =
    let len : length c.as_slice.result.now ≡ length c.self.inside.words.items = ap length c.as_slice.ensures.value in
    omega (arith, c.self.invariant.room)

pub returns-clause-found : goal.returns-clause-found
returns-clause-found c =
    let found = rw c.as_slice.ensures.value at c.next_set.ensures.found in
    rw (← c.self.view_is)
    (IfSome-weaker (IsNextBit c.self.inside.words.items c.args.from) _
    (λ p next. next_atom c.self.inside.words.items c.self.inside.size c.self.invariant c.args.from p next)
    c.next_set.result found)

pub returns-clause-none : goal.returns-clause-none
returns-clause-none c =
    let none = rw c.as_slice.ensures.value at c.next_set.ensures.none in
    rw (← c.self.view_is)
    (IfNone-weaker ((q : ℕ) → c.args.from ≤ q → bit_in c.self.inside.words.items q ≡ false) _
    (λ none q late. has-flags_in c.self.inside.words.items c.self.inside.size c.self.invariant q ∙ none q late)
    c.next_set.result none)

pub returns-then-from-self-clause-none : goal.returns-then-from-self-clause-none
returns-then-from-self-clause-none c =
    rw (← c.self.view_is)
    (λ q late. get_or_past (flags_in c.self.inside.words.items c.self.inside.size) q false
    (omega (arith, length-flags_in c.self.inside.words.items c.self.inside.size)))
