use Rattle.std.proofs.Common.{◌≡◌, ℕ, ◌<◌, bit_or, length, get_or, sym, subst, arith}
use Rattle.wp_lift.specs.Rows.{flags_in, either}
use Rattle.wp_lift.proofs.FlagLemmas.{flags-joined, not-joined}
use Rattle.wp_lift.proofs.flags.Flags.join.Goals as goal

pub returns-then-self-other : goal.returns-then-self-other
returns-then-self-other c =
    let words = c.self.inside.words.items in
    let others = c.other.inside.words.items in
    let same : c.self.inside.count ≡ c.other.inside.count = omega arith in
    let each : (p : ℕ) → p < length words → get_or c.join_words.new.words.items p 0 ≡ bit_or (get_or words p 0) (get_or others p 0) =
    λ p h. rw (← c.as_slice.ensures.value) (c.join_words.ensures.joined p h) in
    rw (← c.self.view_is, ← c.other.view_is)
    (subst (λ (n : ℕ). flags_in c.join_words.new.words.items c.self.inside.count ≡ either (flags_in words c.self.inside.count) (flags_in others n)) same
    (flags-joined words others c.join_words.new.words.items c.self.inside.count c.self.invariant each))

pub returns-else-self-other : goal.returns-else-self-other
returns-else-self-other c = rw (← c.self.view_is, ← c.other.view_is)
    (sym (not-joined c.self.inside.words.items c.other.inside.words.items c.self.inside.count c.other.inside.count (λ same. absurd (omega arith))))
