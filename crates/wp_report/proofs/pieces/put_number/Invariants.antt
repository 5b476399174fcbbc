use Rattle.std.proofs.Common.{◌≡◌, ◌++◌, take}
use Rattle.wp_report.proofs.pieces.put_number.Given as goal

abbrev pub invariant-loop-digit : goal.invariant-loop-digit
invariant-loop-digit l = l.out.items ≡ l.fn.out.items ++ take l.digit-index l.digit-items
