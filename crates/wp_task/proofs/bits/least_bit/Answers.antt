use Rattle.std.proofs.Common.{◌^◌, ◌<◌, arith}
use Rattle.std.proofs.Math.Nat.{div-le_self}
use Rattle.wp_task.proofs.NextLemmas.{none_left, least_left}
use Rattle.wp_task.proofs.bits.least_bit.Goals as goal

pub returns-then-rest-eq0-clause-none : goal.returns-then-rest-eq0-clause-none
returns-then-rest-eq0-clause-none c = none_left c.args.word c.args.from c.if-rest-eq0.true

pub returns-clause-found : goal.returns-clause-found
returns-clause-found c =
    let fits : c.args.word < 2 ^ 64 = c.ranges.word.fits in
    least_left c.args.word c.args.from fits (omega (arith, div-le_self c.args.word (2 ^ c.args.from))) (omega arith)
