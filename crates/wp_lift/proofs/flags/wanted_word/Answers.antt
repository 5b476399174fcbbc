use Rattle.std.proofs.Common.{arith}
use Rattle.wp_lift.proofs.WantedLemmas.{wanted-word}
use Rattle.wp_lift.proofs.flags.wanted_word.Goals as goal

pub returns : goal.returns
returns c = λ i h.
    wanted-word c.args.words.now c.args.within.now c.args.beyond.now c.args.place i c.word_at.result c.word_at-2.result c.word_at-3.result
    c.word_at.ensures c.word_at-2.ensures c.word_at-3.ensures h (omega arith)
