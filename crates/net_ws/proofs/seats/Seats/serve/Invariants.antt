-- What the loop of `Seats::serve` keeps: the bounds are never above those of its beginning.
use Rattle.std.proofs.Common.{◌≡◌, ◌≤◌}
use Rattle.net_ws.proofs.seats.Seats.serve.Given as goal

abbrev pub invariant-loop : goal.invariant-loop
invariant-loop g l = (l.self.left ≤ l.initial.self.left) × (l.self.most ≡ l.initial.self.most)
