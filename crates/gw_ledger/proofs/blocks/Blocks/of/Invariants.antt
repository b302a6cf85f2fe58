-- What the loop of `of` keeps, and why it ends.
use Rattle.std.proofs.Common.{◌≡◌, ◌++◌, length}
use Rattle.gw_ledger.specs.Blocks.{AreBlocks, all_slots, first_rows, slot_lists}
use Rattle.gw_ledger.specs.KeyTable.{AreKeyed, HaveTheirKeys}
use Rattle.gw_ledger.proofs.blocks.Blocks.of.Given as goal

abbrev pub invariant-loop-rest : goal.invariant-loop-rest
invariant-loop-rest l = record {
  blocks : AreBlocks (slot_lists l.blocks.items);
  slots : all_slots (slot_lists l.blocks.items) ++ l.rest ≡ l.fn.slots;
  keys : HaveTheirKeys l.fn.tables.records (first_rows l.blocks.items);
  keyed : AreKeyed l.fn.tables.records l.rest;
}

abbrev pub decreases-loop-rest : goal.decreases-loop-rest
decreases-loop-rest l = length l.rest
