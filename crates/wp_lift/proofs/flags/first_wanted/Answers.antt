use Rattle.std.proofs.Common.{arith}
use Rattle.wp_lift.proofs.WantedLemmas.{wanted-here, wanted-later, wanted-nowhere}
use Rattle.wp_lift.proofs.flags.first_wanted.Goals as goal

pub loop-place-init : goal.loop-place-init
loop-place-init c = λ q h. absurd (omega arith)

pub returns-then-wanted-ne0-clause-some : goal.returns-then-wanted-ne0-clause-some
returns-then-wanted-ne0-clause-some c =
    wanted-here c.args.words.now c.args.within.now c.args.beyond.now c.loop-place.place c.wanted_word-wanted.result
    c.wanted_word-wanted.ensures (omega arith) (omega arith) c.loop-place.invariant

pub loop-place-preserved : goal.loop-place-preserved
loop-place-preserved c =
    wanted-later c.args.words.now c.args.within.now c.args.beyond.now c.loop-place.place c.wanted_word-wanted.result
    c.wanted_word-wanted.ensures (omega arith) c.loop-place.invariant

pub returns-clause-none : goal.returns-clause-none
returns-clause-none c =
    wanted-nowhere c.args.words.now c.args.within.now c.args.beyond.now c.loop-place.place (omega arith) c.loop-place.invariant
