use Rattle.std.proofs.Common.{◌≡◌, ℕ, ◌<◌, ◌≤◌, bit_or, length, get_or}
use Rattle.wp_lift.proofs.flags.join_words.Given as goal

abbrev pub invariant-loop-place : goal.invariant-loop-place
invariant-loop-place l =
    (length l.words.items ≡ length l.initial.words.items)
    × ((p : ℕ) → p < l.place → get_or l.words.items p 0 ≡ bit_or (get_or l.initial.words.items p 0) (get_or l.others p 0))
    × ((p : ℕ) → l.place ≤ p → get_or l.words.items p 0 ≡ get_or l.initial.words.items p 0)
