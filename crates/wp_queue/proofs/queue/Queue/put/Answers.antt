use Rattle.wp_queue.specs.OpenList.{waiting}
use Rattle.wp_queue.proofs.SetLemmas.{with_one}
use Rattle.wp_queue.proofs.queue.Queue.put.Goals as goal

pub returns-clause-put : goal.returns-clause-put
returns-clause-put c = rw (← c.self.view_is)
    (with_one c.self.inside.waiting c.insert.new.self (waiting c.args.w c.args.g c.args.number)
    c.in_ok-insert.ensures.ordered c.in_ok-insert.ensures.updates.0)
