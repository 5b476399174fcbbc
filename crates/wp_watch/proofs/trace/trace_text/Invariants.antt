use Rattle.std.proofs.Common.{◌≡◌, ◌++◌, drop}
use Rattle.std.specs.List.{flat_map}
use Rattle.wp_watch.specs.Texts.{event_lines}
use Rattle.wp_watch.proofs.trace.trace_text.Given as goal

abbrev pub invariant-loop-event : goal.invariant-loop-event
invariant-loop-event l =
    l.out.items ++ flat_map event_lines (drop l.event-index l.events) ≡ flat_map event_lines l.events
