-- Proof of the contract of `sorted_slots`.
use Rattle.std.proofs.Common.{arith}
use Rattle.gw_ledger.proofs.SortedLemmas.{keys_from_rows}
use Rattle.gw_ledger.proofs.ledger.sorted_slots.Goals as goal

pub of-requires : goal.of-requires
of-requires c =
    rw (c.deref.ensures.value, c.in_ok-order.ensures) ((keys_from_rows c.args.tables.now.records c.args.keys.now c.requires.table c.requires.rows.rows_are).keyed)

pub returns : goal.returns
returns c = record {
  keys = rw (c.in_ok-reserve.ensures.slots, c.in_ok-slots.ensures.slots, c.deref.ensures.value, c.in_ok-order.ensures)
      (keys_from_rows c.args.tables.now.records c.args.keys.now c.requires.table c.requires.rows.rows_are);
  firsts = rw c.in_ok-reserve.ensures.firsts c.in_ok-slots.ensures.keys;
  spare = omega (arith, c.in_ok-reserve.ensures.ok, c.spare.ensures);
}
