use Rattle.wp_watch.proofs.FrontLemmas.{HasPut}
use Rattle.wp_watch.proofs.fronts.fronts_text.Given as goal

abbrev pub invariant-loop-event : goal.invariant-loop-event
invariant-loop-event l = HasPut l.events l.event-index l.least l.out.items
