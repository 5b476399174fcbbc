use Rattle.std.proofs.Common.{ap, ◌∙◌}
use Rattle.std.specs.Int.{from_bool}
use Rattle.wp_mutex.proofs.PlaceLemmas.{word_counted}
use Rattle.wp_mutex.proofs.index.word_count.Goals as goal

pub returns-clause-value : goal.returns-clause-value
returns-clause-value c =
    word_counted c.args.set.now c.args.k c.count_in_word.result c.from.result c.count_in_word.ensures.value
    (c.from.ensures ∙ ap from_bool c.has.ensures)
