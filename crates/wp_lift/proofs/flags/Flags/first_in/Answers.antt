use Rattle.std.proofs.Common.{◌≡◌, length, sym, ap, ◌∙◌, arith}
use Rattle.wp_lift.proofs.FlagLemmas.{length-flags}
use Rattle.wp_lift.proofs.WantedLemmas.{wanted-flags, wanted-none}
use Rattle.wp_lift.proofs.flags.Flags.first_in.Goals as goal

pub returns-then-within-self-clause-none : goal.returns-then-within-self-clause-none
returns-then-within-self-clause-none c = λ same other p.
    let self : length c.args.self.now ≡ c.self.inside.count = sym (ap length c.self.view_is) ∙ length-flags c.self.inside.words.items c.self.inside.count in
    let within : length c.args.within.now ≡ c.within.inside.count =
    sym (ap length c.within.view_is) ∙ length-flags c.within.inside.words.items c.within.inside.count in absurd (omega arith)

pub returns-then-beyond-self-clause-none : goal.returns-then-beyond-self-clause-none
returns-then-beyond-self-clause-none c = λ other same p.
    let self : length c.args.self.now ≡ c.self.inside.count = sym (ap length c.self.view_is) ∙ length-flags c.self.inside.words.items c.self.inside.count in
    let beyond : length c.args.beyond.now ≡ c.beyond.inside.count =
    sym (ap length c.beyond.view_is) ∙ length-flags c.beyond.inside.words.items c.beyond.inside.count in absurd (omega arith)

pub returns-in-Some-clause-some : goal.returns-in-Some-clause-some
returns-in-Some-clause-some c =
    rw (← c.self.view_is, ← c.within.view_is, ← c.beyond.view_is)
    (wanted-flags c.self.inside.words.items c.within.inside.words.items c.beyond.inside.words.items
    c.self.inside.count c.within.inside.count c.beyond.inside.count c.in-Some.p (omega arith) (omega arith) (omega arith)
    ∙ rw (c.as_slice-words.ensures.value, c.as_slice.ensures.value, c.as_slice-2.ensures.value) at c.in-Some.ensures.some.0)

pub returns-in_default-clause-none : goal.returns-in_default-clause-none
returns-in_default-clause-none c = λ _ _.
    rw (← c.self.view_is, ← c.within.view_is, ← c.beyond.view_is)
    (wanted-none c.self.inside.words.items c.within.inside.words.items c.beyond.inside.words.items
    c.self.inside.count c.within.inside.count c.beyond.inside.count (omega arith) (omega arith)
    (λ q h. rw (c.as_slice-words.ensures.value, c.as_slice.ensures.value, c.as_slice-2.ensures.value) at (c.in-Some.ensures.some.1 q (omega arith))))

pub returns-in_default-2-clause-none : goal.returns-in_default-2-clause-none
returns-in_default-2-clause-none c = λ _ _.
    rw (← c.self.view_is, ← c.within.view_is, ← c.beyond.view_is)
    (wanted-none c.self.inside.words.items c.within.inside.words.items c.beyond.inside.words.items
    c.self.inside.count c.within.inside.count c.beyond.inside.count (omega arith) (omega arith)
    (λ q h. rw (c.as_slice-words.ensures.value, c.as_slice.ensures.value, c.as_slice-2.ensures.value) at (c.in_default.ensures.none q)))
