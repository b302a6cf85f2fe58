-- What the loop of `Seats::go_on` keeps: the bounds of the sockets.
use Rattle.std.proofs.Common.{◌≡◌}
use Rattle.net_ws.proofs.seats.Seats.go_on.Given as goal

abbrev pub invariant-loop-index : goal.invariant-loop-index
invariant-loop-index g l = (l.self.left ≡ l.initial.self.left) × (l.self.most ≡ l.initial.self.most)
