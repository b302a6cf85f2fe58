-- Proof of the contract of `settle`.
use Rattle.std.proofs.Common.{[], ◌∷◌, ◌++◌, refl, ap, subst, arith}
use Rattle.jrn_record.specs.declared.records.Record.TheVariants.{Settled}
use Rattle.gw_ledger.specs.Blocks.{IsInserted}
use Rattle.gw_ledger.specs.Keys.{settled_key}
use Rattle.gw_ledger.proofs.KeyTableLemmas.{key_last, keyed_stays, keys_inserted, new_value, table_stays, their_keys_stay}
use Rattle.gw_ledger.proofs.RecordLemmas.{folded_push}
use Rattle.gw_ledger.proofs.ledger.Ledger.settle.Goals as goal

pub insert-requires-clause-table : goal.insert-requires-clause-table
insert-requires-clause-table c =
    rw c.settle-totals.ensures.records (table_stays c.self.inside.tables.records (Settled c.args.settled.now ∷ []) c.self.inside.slots.slots c.self.invariant.1)

pub insert-requires-clause-keyed : goal.insert-requires-clause-keyed
insert-requires-clause-keyed c =
    rw c.settle-totals.ensures.records (keyed_stays c.self.inside.tables.records (Settled c.args.settled.now ∷ []) c.self.inside.slots.slots c.self.invariant.1.keyed)

pub insert-requires-clause-keys : goal.insert-requires-clause-keys
insert-requires-clause-keys c =
    rw c.settle-totals.ensures.records (their_keys_stay c.self.inside.tables.records (Settled c.args.settled.now ∷ []) c.self.inside.slots.firsts c.self.invariant.2)

pub insert-requires-clause-new : goal.insert-requires-clause-new
insert-requires-clause-new c =
    let records = c.self.inside.tables.records in
    let slots = c.self.inside.slots.slots in
    let settled = c.args.settled.now in
    rw (c.settle-totals.ensures.records, c.key_of_settled.ensures) (new_value records (Settled settled) slots (settled_key settled) refl (rw (ap (λ v. v.records) c.self.view_is) c.requires.fits) c.self.invariant.1)

pub insert-requires-clause-own : goal.insert-requires-clause-own
insert-requires-clause-own c =
    let records = c.self.inside.tables.records in
    let settled = c.args.settled.now in
    rw (c.settle-totals.ensures.records, c.count-slot.ensures, c.key_of_settled.ensures) (key_last records (Settled settled))

pub invariant_of-self : goal.invariant_of-self
invariant_of-self c =
    let records = c.self.inside.tables.records in
    let slots = c.self.inside.slots.slots in
    let settled = c.args.settled.now in
    let placed = subst (λ all. IsInserted all slots c.key_of_settled.result c.count-slot.result c.insert.new.self.slots) c.settle-totals.ensures.records c.insert.ensures.inserted in
    let inserted = subst (λ key. IsInserted (records ++ Settled settled ∷ []) slots key c.count-slot.result c.insert.new.self.slots) c.key_of_settled.ensures placed in (
      rw c.settle-totals.ensures.records (folded_push records (Settled settled) c.self.invariant.0 c.requires.within (rw (ap (λ v. v.records) c.self.view_is) c.requires.fits)),
      rw c.settle-totals.ensures.records (keys_inserted records (Settled settled) slots (settled_key settled) refl c.self.invariant.1 c.count-slot.result c.count-slot.ensures c.insert.new.self.slots inserted),
      c.insert.ensures.keys,
      omega (arith, c.self.invariant.3, c.insert.ensures.spare, c.settle-totals.ensures.spare),
    )
