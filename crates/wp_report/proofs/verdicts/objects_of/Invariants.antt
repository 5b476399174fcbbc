use Rattle.std.proofs.Common.{◌≡◌, take, map, List, ℕ}
use Rattle.std.specs.Prelude.{unwrap_or}
use Rattle.wp_lift.specs.Names.{object_named}
use Rattle.wp_report.proofs.verdicts.objects_of.Given as goal

abbrev pub invariant-loop-word : goal.invariant-loop-word
invariant-loop-word l = l.objects.items ≡ map (λ (word : List ℕ). unwrap_or (object_named l.lifted word) 0) (take l.word-index l.words)
