-- What the loop of `pairs_of` keeps.
use Rattle.gw_ledger.specs.ShortRows.{ArePairsBelow}
use Rattle.gw_ledger.proofs.sorted.pairs_of.Given as goal

abbrev pub invariant-loop-slot : goal.invariant-loop-slot
invariant-loop-slot l = ArePairsBelow l.fn.tables.records l.slot l.pairs.items
