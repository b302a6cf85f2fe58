-- Proof of the contract of `insert`.
use Rattle.std.proofs.Common.{[], ap, get_or, refl, subst}
use Rattle.gw_ledger.specs.Blocks.{IsBlockFor, first_rows, slot_lists}
use Rattle.gw_ledger.proofs.BlockLemmas.{in_keyed, kept_table}
use Rattle.gw_ledger.proofs.blocks.Blocks.insert.Goals as goal

pub block_for-at-requires-clause-table : goal.block_for-at-requires-clause-table
block_for-at-requires-clause-table c =
    rw c.deref.ensures.value (kept_table c.args.tables.now.records c.self.inside.blocks.items c.self.invariant.some
    (rw (ap (λ v. v.slots) c.self.view_is) c.requires.table) (rw (ap (λ v. v.slots) c.self.view_is) c.requires.keyed) (rw (ap (λ v. v.firsts) c.self.view_is) c.requires.keys))

pub insert_in-requires-clause-keyed : goal.insert_in-requires-clause-keyed
insert_in-requires-clause-keyed c =
    in_keyed c.args.tables.now.records c.self.inside.blocks.items c.self.invariant.some
    (rw (ap (λ v. v.slots) c.self.view_is) c.requires.table) (rw (ap (λ v. v.slots) c.self.view_is) c.requires.keyed) (rw (ap (λ v. v.firsts) c.self.view_is) c.requires.keys)
    c.args.key.now c.block_for-at.result (subst (λ all. IsBlockFor (first_rows all) c.args.key.now c.block_for-at.result) c.deref.ensures.value c.block_for-at.ensures) (get_or (slot_lists c.self.inside.blocks.items) c.block_for-at.result []) refl
