use Rattle.std.proofs.Common.{◌≡◌, ◌<◌, ℕ, ◌+◌, ◌-◌, ◌*◌, true, List, None, length, drop, get_or, sym, ap, ◌∙◌, arith}
use Rattle.std.specs.Char.{is_ascii_digit}
use Rattle.std.proofs.lemmas.List.{drop_more}
use Rattle.wp_cert.specs.Format.{value_in}
use Rattle.wp_cert.proofs.WordLemmas.{value_in-digit, value_in-above}
use Rattle.wp_cert.proofs.words.read_digits.Goals as goal

too_great : (high n i : ℕ) (word : List ℕ) → i < length word → is_ascii_digit (get_or word i 0) ≡ true →
    high < n * 10 + (get_or word i 0 - 48) → value_in high n (drop i word) ≡ None
too_great high n i word within is above =
    ap (value_in high n) (drop_more word i 0 within)
    ∙ value_in-digit high n (get_or word i 0) (drop (i + 1) word) is
    ∙ value_in-above high (n * 10 + (get_or word i 0 - 48)) (drop (i + 1) word) above

pub returns-then-value-high-clause-value : goal.returns-then-value-high-clause-value
returns-then-value-high-clause-value c =
    sym (too_great c.args.high c.loop-byte.value c.loop-byte.byte-index c.args.word.now c.loop-byte-test.true
    (sym c.if-not-is_ascii_digit.ensures.value) (omega (arith, c.if-value-high.true, c.from.ensures)))
    ∙ c.loop-byte.invariant.so_far
