-- What the loop of `deliver` keeps up, and why it ends.
use Rattle.std.proofs.Common.{◌≤◌, ℕ, List, length}
use Rattle.sale_ws.proofs.DeliveryLemmas.{Delivering}
use Rattle.sale_ws.proofs.bridge.deliver.Given as goal

abbrev pub invariant-loop-fault : goal.invariant-loop-fault
invariant-loop-fault g l = record {
  sent : (sent : List (List ℕ)) × Delivering g.W.Wire.observed g.W.Wire.sends l.fn.wire l.wire l.fn.reader l.reader sent;
  later : (g.W.Wire.observed l.fn.wire).faults ≤ (g.W.Wire.observed l.wire).faults;
}

abbrev pub decreases-loop-fault : goal.decreases-loop-fault
decreases-loop-fault g l = length l.reader
