-- A pass may go to another thread, as its seat may.
use denote.Param.Send.{IsSend, sendable}
use Rattle.atomic_table.proofs.shared.Seat.TheSendSync as seats
use Rattle.wp_arrive.specs.contracts.view.View as view
use Rattle.wp_arrive.specs.contracts.arrivals.Pass.TheInside.{the_row}
use denote.Builtin.{u8}

byte : IsSend u8
byte = search sendable

pub inside : IsSend the_row
inside = record { owned = λ x vs. ((λ vss. (tt, ((seats.the_send u8 view.the_row byte).owned x.seat vss.0, tt))), tt); leaving = λ k f vs. (tt, tt) }
