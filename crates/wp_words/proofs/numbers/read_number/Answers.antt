use Rattle.std.proofs.Common.{◌∙◌, sym}
use Rattle.wp_words.proofs.NumberLemmas.{number_in-none}
use Rattle.wp_words.proofs.numbers.read_number.Goals as goal

-- src/numbers.rt:8:1
pub returns-in-Err-clause-value : goal.returns-in-Err-clause-value
returns-in-Err-clause-value c =
    sym (number_in-none c.args.low c.args.high c.args.word.now c.in-Err.field-0 c.ranges.high.fits c.in-Err.ensures.value.0
    (sym c.is_number.ensures ∙ c.if-not-is_number.false))
