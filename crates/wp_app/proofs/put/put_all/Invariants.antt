use Rattle.std.proofs.Common.{◌-◌, length}
use Rattle.wp_app.specs.Puts.{HasPut}
use Rattle.wp_app.proofs.put.put_all.Given as goal

abbrev pub invariant-loop-done : goal.invariant-loop-done
invariant-loop-done g l = HasPut (g.K.Sink.held l.fn.sink) (g.K.Sink.held l.sink) l.text l.done (g.K.Sink.faults l.fn.sink) (g.K.Sink.faults l.sink)

abbrev pub decreases-loop-done : goal.decreases-loop-done
decreases-loop-done g l = length l.text - l.done
