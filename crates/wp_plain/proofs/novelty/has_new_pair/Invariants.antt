use Rattle.std.proofs.Common.{◌≡◌, drop}
use Rattle.std.specs.List.{list_any}
use Rattle.wp_task.specs.Novelty.{is_new, sets_of}
use Rattle.wp_plain.specs.Nodes.{generated_in}
use Rattle.wp_plain.proofs.novelty.has_new_pair.Given as goal

abbrev pub invariant-loop-place : goal.invariant-loop-place
invariant-loop-place l =
    list_any (is_new (generated_in l.nodes) l.x) (sets_of 2 (drop l.place l.atoms)) ≡ list_any (is_new (generated_in l.nodes) l.x) (sets_of 2 l.atoms)
