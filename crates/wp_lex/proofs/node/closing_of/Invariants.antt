-- What is left tells the place.
use Rattle.std.proofs.Common.{◌≡◌, ◌+◌, ◌≤◌, drop}
use Rattle.wp_lex.proofs.Levels.{closing}
use Rattle.wp_lex.proofs.node.closing_of.Given as goal

abbrev pub invariant-loop-place : goal.invariant-loop-place
invariant-loop-place l = (closing 0 l.items ≡ l.place + closing l.depth (drop l.place l.items)) × (l.depth ≤ l.place)
