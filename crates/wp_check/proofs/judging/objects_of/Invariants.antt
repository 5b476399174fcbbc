use Rattle.std.proofs.Common.{◌≡◌, drop, take, map, List, ℕ}
use Rattle.std.specs.Prelude.{unwrap_or}
use Rattle.wp_lift.specs.Names.{object_named}
use Rattle.wp_check.specs.Verdicts.{fault_of_args}
use Rattle.wp_check.proofs.judging.objects_of.Given as goal

abbrev pub invariant-loop-place : goal.invariant-loop-place
invariant-loop-place l = record {
  fault : fault_of_args l.lifted l.schema l.place (drop l.place l.words) ≡ fault_of_args l.lifted l.schema 0 l.words;
  args : l.args.items ≡ map (λ (word : List ℕ). unwrap_or (object_named l.lifted word) 0) (take l.place l.words);
}
