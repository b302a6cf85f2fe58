-- Proof of the contract of `seat_for`.
use Rattle.std.proofs.Common.{refl}
use Rattle.gw_core.proofs.QueueLemmas.{free-for, own-seat}
use Rattle.gw_core.proofs.queues.seat_for.Goals as goal

pub returns-in-Some : goal.returns-in-Some
returns-in-Some c = own-seat c.args.lines.now c.requires c.args.till c.in-Some.seat c.in-Some.ensures.found.0 c.in-Some.ensures.found.1

pub returns-in-None : goal.returns-in-None
returns-in-None c = free-for c.args.lines.now c.requires c.args.till (λ other within. c.in-None.ensures.none other refl within) c.free_seat.result c.free_seat.ensures
