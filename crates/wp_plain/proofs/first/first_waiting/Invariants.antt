use Rattle.std.proofs.Common.{◌≡◌, ◌<◌, length, drop}
use Rattle.std.specs.Prelude.{IfSome}
use Rattle.std.specs.List.{fold}
use Rattle.wp_plain.specs.Nodes.{first_of_two, first_waiting}
use Rattle.wp_plain.specs.Explored.{looked}
use Rattle.wp_plain.proofs.first.first_waiting.Given as goal

abbrev pub invariant-loop-place : goal.invariant-loop-place
invariant-loop-place l = record {
  value : fold first_of_two (looked l.nodes l.first) (drop l.place l.nodes) ≡ first_waiting l.nodes;
  range : IfSome l.first (λ other. other < length l.nodes);
}
