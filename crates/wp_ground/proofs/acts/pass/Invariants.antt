use Rattle.std.proofs.Common.{◌<◌, ◌≤◌, ◌-◌, ℕ, length, get_or}
use Rattle.wp_ground.proofs.acts.pass.Given as goal

abbrev pub invariant-places : goal.invariant-places
invariant-places l = record {
  from : l.from ≤ l.place;
  less : (k : ℕ) → l.from ≤ k → k < l.place → get_or l.numbers k 0 < l.number;
}

abbrev pub decreases-places : goal.decreases-places
decreases-places l = length l.numbers - l.place
