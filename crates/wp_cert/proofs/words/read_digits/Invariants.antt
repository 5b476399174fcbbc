use Rattle.std.proofs.Common.{◌≡◌, ◌≤◌, drop}
use Rattle.wp_cert.specs.Format.{value_in}
use Rattle.wp_cert.proofs.words.read_digits.Given as goal

abbrev pub invariant-loop-byte : goal.invariant-loop-byte
invariant-loop-byte l = record {
  so_far : value_in l.high l.value (drop l.byte-index l.word) ≡ value_in l.high 0 l.word;
  small : l.value ≤ l.high;
}
