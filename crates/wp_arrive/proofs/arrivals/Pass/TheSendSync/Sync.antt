-- A `&` to a pass names no thread's token: the seat's view may be read from any thread.
use denote.Param.Send.{IsSync, part_keyless}
use Rattle.wp_arrive.specs.contracts.arrivals.Pass.{the_row}
use Rattle.wp_arrive.specs.contracts.arrivals.Pass.TheInside as fields
use Rattle.wp_arrive.proofs.Sent.{inside}

pub sync : IsSync the_row
sync = record { shared = λ d b o κ x. ((λ q. part_keyless fields.the_row inside q x.0 b o), tt) }
