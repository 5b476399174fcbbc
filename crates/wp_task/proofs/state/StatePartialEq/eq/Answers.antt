use Rattle.std.proofs.Common.{◌^◌, ◌<◌, ℕ, length, get_or, sym, ap, ◌∙◌, subst, arith, rules}
use Rattle.std.specs.Bool.{beq}
use Rattle.std.specs.Cmp.Lexicographic.{pointwise}
use Rattle.wp_task.specs.Packing.{flags_in, IsPacked}
use Rattle.wp_task.proofs.PackingLemmas.{length-flags_in}
use Rattle.wp_task.proofs.WordLemmas.{same_words, other_sizes}
use Rattle.wp_task.proofs.state.StatePartialEq.eq.Goals as goal

pub equal-requires : goal.equal-requires
equal-requires c =
    omega (arith, ap length c.as_slice-words.ensures.value, ap length c.as_slice-others.ensures.value, c.self.invariant.room, c.other.invariant.room, c.if-self-other.true)

pub returns-then-self-other : goal.returns-then-self-other
returns-then-self-other c =
    let words = c.self.inside.words.items in
    let others = c.other.inside.words.items in
    let size = c.self.inside.size in
    let fit : (i : ℕ) → get_or words i 0 < 2 ^ 64 = λ i. search rules in
    let others_fit : (i : ℕ) → get_or others i 0 < 2 ^ 64 = λ i. search rules in
    let others_packed : IsPacked others size = subst (IsPacked others) (sym c.if-self-other.true) c.other.invariant in
    rw (c.equal.ensures, c.as_slice-words.ensures.value, c.as_slice-others.ensures.value, ← c.self.view_is, ← c.other.view_is)
    (same_words words others size c.self.invariant others_packed fit others_fit
    ∙ ap (λ n. pointwise beq (flags_in words size) (flags_in others n)) c.if-self-other.true)

pub returns-else-self-other : goal.returns-else-self-other
returns-else-self-other c = rw (← c.self.view_is, ← c.other.view_is)
    (other_sizes _ _ c.self.inside.size c.other.inside.size
    (length-flags_in c.self.inside.words.items c.self.inside.size) (length-flags_in c.other.inside.words.items c.other.inside.size) c.if-self-other.false)
