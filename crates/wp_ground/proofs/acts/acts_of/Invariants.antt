use Rattle.std.proofs.Common.{◌≡◌, map, take}
use Rattle.wp_ground.specs.Tasks.{act_of}
use Rattle.wp_ground.proofs.acts.acts_of.Given as goal

abbrev pub invariant-loop-place : goal.invariant-loop-place
invariant-loop-place l = l.acts.items ≡ map (act_of l.lifted l.atoms) (take l.place l.steps)
