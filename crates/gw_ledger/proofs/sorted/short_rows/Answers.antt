-- Proof of the contract of `short_rows`.
use Rattle.std.proofs.Common.{◌+◌, sym, subst, arith}
use Rattle.gw_ledger.specs.KeyTable.{AreRowsBelow}
use Rattle.gw_ledger.specs.ShortRows.{full_rows}
use Rattle.gw_ledger.proofs.ShortLemmas.{own_pair}
use Rattle.gw_ledger.proofs.SortedLemmas.{rows_all, rows_next}
use Rattle.gw_ledger.proofs.sorted.short_rows.Goals as goal

pub push_row-requires-clause-pair : goal.push_row-requires-clause-pair
push_row-requires-clause-pair c = own_pair c.args.tables.now.records c.args.pairs.now c.loop-slot.slot c.key_at.result c.key_at.ensures c.requires

pub loop-slot-preserved : goal.loop-slot-preserved
loop-slot-preserved c = (
  subst (AreRowsBelow c.args.tables.now.records (c.loop-slot.slot + 1)) (sym c.in_ok-push_row.ensures.rows)
      (rows_next c.args.tables.now.records (full_rows c.args.pairs.now c.loop-slot.rows.items) c.loop-slot.slot c.key_at.result c.key_at.ensures c.loop-slot.invariant.0),
  c.in_ok-push_row.ensures.inside,
)

pub returns-clause-rows : goal.returns-clause-rows
returns-clause-rows c =
    rows_all c.args.tables.now.records c.loop-slot.slot (full_rows c.args.pairs.now c.loop-slot.rows.items) (omega (arith, c.loop-slot-test.false, c.count-slot-end.ensures)) c.loop-slot.invariant.0
