-- Proof of the contract of `get`.
use Rattle.std.proofs.Common.{ap}
use Rattle.gw_ledger.proofs.BlockLemmas.{kept_table}
use Rattle.gw_ledger.proofs.blocks.Blocks.get.Goals as goal

pub block_for-at-requires-clause-table : goal.block_for-at-requires-clause-table
block_for-at-requires-clause-table c =
    rw c.deref.ensures.value (kept_table c.args.tables.now.records c.self.inside.blocks.items c.self.invariant.some
    (rw (ap (λ v. v.slots) c.self.view_is) c.requires.table) (rw (ap (λ v. v.slots) c.self.view_is) c.requires.keyed) (rw (ap (λ v. v.firsts) c.self.view_is) c.requires.keys))
