use Rattle.std.proofs.Common.{◌≡◌, ◌++◌, drop}
use Rattle.wp_report.specs.Tasks.{numbers_text}
use Rattle.wp_report.proofs.tasks.put_spaced.Given as goal

abbrev pub invariant-loop-number : goal.invariant-loop-number
invariant-loop-number l =
    l.out.items ++ numbers_text (drop l.number-index l.numbers) ≡ l.fn.out.items ++ numbers_text l.numbers
