use Rattle.std.proofs.Common.{◌≡◌, map, take}
use Rattle.wp_ground.specs.Texts.{step_text}
use Rattle.wp_ground.proofs.texts.step_texts.Given as goal

abbrev pub invariant-loop-place : goal.invariant-loop-place
invariant-loop-place l = l.texts.items ≡ map (step_text l.lifted) (take l.place l.steps)
