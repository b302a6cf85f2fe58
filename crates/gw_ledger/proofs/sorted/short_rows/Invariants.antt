-- What the loop of `short_rows` keeps.
use Rattle.gw_ledger.specs.KeyTable.{AreRowsBelow}
use Rattle.gw_ledger.specs.ShortRows.{HavePairs, full_rows}
use Rattle.gw_ledger.proofs.sorted.short_rows.Given as goal

abbrev pub invariant-loop-slot : goal.invariant-loop-slot
invariant-loop-slot l = AreRowsBelow l.fn.tables.records l.slot (full_rows l.fn.pairs l.rows.items) × HavePairs l.fn.pairs l.rows.items
