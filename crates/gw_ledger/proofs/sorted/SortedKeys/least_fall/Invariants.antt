-- What the loop of `least_fall` keeps.
use Rattle.gw_ledger.proofs.FirstBadLemmas.{IsLeastSoFar}
use Rattle.gw_ledger.proofs.sorted.SortedKeys.least_fall.Given as goal

abbrev pub invariant-loop-at : goal.invariant-loop-at
invariant-loop-at l = IsLeastSoFar l.fn.self l.at l.least
