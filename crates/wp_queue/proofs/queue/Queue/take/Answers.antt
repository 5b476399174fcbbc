use Rattle.wp_queue.proofs.SetLemmas.{taken}
use Rattle.wp_queue.proofs.queue.Queue.take.Goals as goal

pub returns-clause-taken : goal.returns-clause-taken
returns-clause-taken c = rw (← c.self.view_is)
    (taken c.self.inside.waiting.keys c.pop_first.new.self.keys c.in_ok-first.first
    c.in_ok-first.ensures.removal c.in_ok-first.ensures.all_above c.in_ok-first.ensures.ordered)
