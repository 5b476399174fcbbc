use denote.Param.Send.{IsSend}
use Rattle.wp_arrive.specs.contracts.arrivals.Pass.{the_row}
use Rattle.wp_arrive.proofs.Sent.{inside}

pub send : IsSend the_row
send = record { owned = λ d vs x. (inside.owned x.0 vs, tt); leaving = λ k f vs. tt }
