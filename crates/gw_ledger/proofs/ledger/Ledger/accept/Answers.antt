-- Proof of the contract of `accept`.
use Rattle.std.proofs.Common.{[], ◌∷◌, ◌++◌, refl, ap, subst, arith}
use Rattle.jrn_record.specs.declared.records.Record.TheVariants.{Intent}
use Rattle.gw_ledger.specs.Blocks.{IsInserted}
use Rattle.gw_ledger.specs.Keys.{intent_key}
use Rattle.gw_ledger.proofs.KeyTableLemmas.{key_last, keyed_stays, keys_inserted, new_value, table_stays, their_keys_stay}
use Rattle.gw_ledger.proofs.RecordLemmas.{folded_push}
use Rattle.gw_ledger.proofs.ledger.Ledger.accept.Goals as goal

pub insert-requires-clause-table : goal.insert-requires-clause-table
insert-requires-clause-table c =
    rw c.accept-slot.ensures.records (table_stays c.self.inside.tables.records (Intent c.args.intent.now ∷ []) c.self.inside.slots.slots c.self.invariant.1)

pub insert-requires-clause-keyed : goal.insert-requires-clause-keyed
insert-requires-clause-keyed c =
    rw c.accept-slot.ensures.records (keyed_stays c.self.inside.tables.records (Intent c.args.intent.now ∷ []) c.self.inside.slots.slots c.self.invariant.1.keyed)

pub insert-requires-clause-keys : goal.insert-requires-clause-keys
insert-requires-clause-keys c =
    rw c.accept-slot.ensures.records (their_keys_stay c.self.inside.tables.records (Intent c.args.intent.now ∷ []) c.self.inside.slots.firsts c.self.invariant.2)

pub insert-requires-clause-new : goal.insert-requires-clause-new
insert-requires-clause-new c =
    let records = c.self.inside.tables.records in
    let slots = c.self.inside.slots.slots in
    let intent = c.args.intent.now in
    rw (c.accept-slot.ensures.records, c.key_of_intent.ensures) (new_value records (Intent intent) slots (intent_key intent) refl (rw (ap (λ v. v.records) c.self.view_is) c.requires.fits) c.self.invariant.1)

pub insert-requires-clause-own : goal.insert-requires-clause-own
insert-requires-clause-own c =
    let records = c.self.inside.tables.records in
    let intent = c.args.intent.now in
    rw (c.accept-slot.ensures.records, c.accept-slot.ensures.slot, c.key_of_intent.ensures) (key_last records (Intent intent))

pub invariant_of-self : goal.invariant_of-self
invariant_of-self c =
    let records = c.self.inside.tables.records in
    let slots = c.self.inside.slots.slots in
    let intent = c.args.intent.now in
    let placed = subst (λ all. IsInserted all slots c.key_of_intent.result c.accept-slot.result c.insert.new.self.slots) c.accept-slot.ensures.records c.insert.ensures.inserted in
    let inserted = subst (λ key. IsInserted (records ++ Intent intent ∷ []) slots key c.accept-slot.result c.insert.new.self.slots) c.key_of_intent.ensures placed in (
      rw c.accept-slot.ensures.records (folded_push records (Intent intent) c.self.invariant.0 c.requires.within (rw (ap (λ v. v.records) c.self.view_is) c.requires.fits)),
      rw c.accept-slot.ensures.records (keys_inserted records (Intent intent) slots (intent_key intent) refl c.self.invariant.1 c.accept-slot.result c.accept-slot.ensures.slot c.insert.new.self.slots inserted),
      c.insert.ensures.keys,
      omega (arith, c.self.invariant.3, c.insert.ensures.spare, c.accept-slot.ensures.spare),
    )
