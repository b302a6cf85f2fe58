-- Proof of the contract of `Seats::accept`.
use Rattle.std.proofs.Common.{arith}
use Rattle.net_ws.proofs.seats.Seats.accept.Goals as goal

pub returns-clause-counted : goal.returns-clause-counted
returns-clause-counted c = omega (arith, c.requires.1)
