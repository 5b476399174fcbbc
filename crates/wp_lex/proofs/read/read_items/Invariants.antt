use Rattle.std.proofs.Common.{◌≡◌}
use Rattle.wp_lex.specs.Words.{is_commented}
use Rattle.wp_lex.specs.Places.{place_at}
use Rattle.wp_lex.specs.Faults.{fault_from}
use Rattle.wp_lex.specs.Items.{items_before}
use Rattle.wp_lex.proofs.read.read_items.Given as goal

-- what is left tells the fault
abbrev pub invariant-loop-i : goal.invariant-loop-i
invariant-loop-i l = record {
  commented : l.commented ≡ is_commented l.bytes l.i;
  place : l.place ≡ place_at l.bytes l.i;
  items : l.items.items ≡ items_before l.source l.bytes l.i;
  left : fault_from l.source l.bytes l.i ≡ fault_from l.source l.bytes 0;
}
