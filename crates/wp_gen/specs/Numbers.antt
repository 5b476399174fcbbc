-- Numbers that look random and are the same everywhere: a linear congruential sequence of 64 bits, whose low bits, the least random
-- ones, are left out of what is drawn.
-- Source: Lehmer, Mathematical methods in large-scale computing units, 1951; the factor is that of Knuth's MMIX.
use Rattle.std.specs.Prelude.{ℕ, zero, suc, ◌+◌, ◌*◌, ◌/◌, ◌%◌, ◌^◌}

abbrev pub next_of : ℕ → ℕ
next_of x = (x * 6364136223846793005 + 1442695040888963407) % 2 ^ 64

-- the numbers of the sequence that begins with this one
abbrev pub term_of : ℕ → ℕ → ℕ
term_of number zero = number
term_of number (suc n) = next_of (term_of number n)

-- what a number of the sequence draws below a bound
abbrev pub drawn_below : ℕ → ℕ → ℕ
drawn_below bound x = x / 2 ^ 33 % bound

-- draws are counted from 1: the number that the sequence begins with draws nothing
abbrev pub draw : ℕ → ℕ → ℕ → ℕ
draw number bound n = drawn_below bound (term_of number n)
