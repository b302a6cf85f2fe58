-- Proof of the contract of `accept`.
use Rattle.std.proofs.Common.{◌≡◌, ◌∙◌, ◌<◌, ◌≤◌, refl, ap, arith, length}
use Rattle.std.proofs.lemmas.List.{length-append}
use Rattle.jrn_record.specs.declared.records.Record.{Record}
use Rattle.jrn_record.specs.declared.records.Record.TheVariants.{Intent}
use Rattle.gw_ledger.specs.Sums.{count_all, is_intent, open_count_of}
use Rattle.std.specs.Prelude.{slice_index_or, Some}
use Rattle.gw_base.specs.declared.currency.Currency.{Currency}
use Rattle.gw_ledger.specs.Accounts.{account_of, account_with}
use Rattle.gw_ledger.specs.Sums.{ordinal, sums_of}
use Rattle.gw_ledger.specs.declared.tables.Mark.{Mark}
use Rattle.gw_ledger.specs.Tables.{account_in_row, no_sums, poi_cmp, sums_in_row}
use Rattle.gw_ledger.specs.Table.{value_at}
use Rattle.gw_ledger.proofs.RecordLemmas.{beside_push, count-le, open-le}
use Rattle.gw_ledger.proofs.IntentLemmas.{lasts_after, marks_are_after, account_after, sums_after, desks_after, closings_after, tally_after}
use Rattle.gw_ledger.proofs.tables.Tables.accept.Goals as goal

pub overflow_add-self : goal.overflow_add-self
overflow_add-self c =
    let tables = c.self.invariant.0 in
    let count : c.self.inside.tally.accepted ≡ count_all c.self.inside.records.records is_intent = ap (λ t. t.accepted) tables.tally_is in
    omega (arith, count, count-le c.self.inside.records.records is_intent, tables.few)

pub overflow_add-self-2 : goal.overflow_add-self-2
overflow_add-self-2 c =
    let tables = c.self.invariant.0 in
    let count : c.self.inside.tally.unresolved ≡ open_count_of c.self.inside.records.records = ap (λ t. t.unresolved) tables.tally_is in
    omega (arith, count, open-le c.self.inside.records.records, tables.few)

pub invariant_of-self : goal.invariant_of-self
invariant_of-self c =
    let tables = c.self.invariant.0 in
    let room = c.self.invariant.1 in
    let records = c.self.inside.records.records in
    let intent = c.args.intent.now in
    let same = ap (λ v. v.records) c.self.view_is in
    let spare = ap (λ v. v.spare) c.self.view_is in
    let enough : 1 ≤ c.self.inside.spare = rw spare c.requires.spare in
    let slot : c.len-slot.result ≡ length records = c.len-slot.ensures in
    let accounts = ap (λ desks. account_in_row (value_at poi_cmp desks intent.poi)) c.deref.ensures.value in
    let account : c.asked.result.account ≡ account_with (length records) (Intent intent) (account_of records intent.poi) =
    c.asked.ensures.account ∙ rw (slot, c.desk_in-desk.ensures.account, accounts, tables.accounts_are intent.poi) refl in
    let sums : (currency : Currency) → sums_in_row (Some c.asked.result) currency ≡ sums_of records intent.poi currency =
    λ currency. ap (λ s. slice_index_or s (ordinal currency) no_sums) c.asked.ensures.sums ∙ c.desk_in-desk.ensures.sums currency ∙ ap (λ desks. sums_in_row (value_at poi_cmp desks intent.poi) currency) c.deref.ensures.value ∙ tables.sums_are intent.poi currency in
    let few : length records < 1000000 = rw same c.requires.few in (
      rw (c.add_intent.ensures.records, c.push.ensures.elements) (record {
        folded = beside_push records (Intent intent) tables.folded c.requires.within (rw same c.requires.fits);
        few = omega (arith, length-append {A = Record});
        marks_len = omega (arith, length-append {A = Record}, length-append {A = Mark}, tables.marks_len);
        marks_are = marks_are_after records intent _ tables.marks_len tables.marks_are;
        lasts_table = c.put.ensures.table;
        lasts_are = λ sale poi. c.put.ensures.values (sale, poi) ∙ rw slot (lasts_after records intent sale poi _ (tables.lasts_are sale poi));
        desks_table = c.put-2.ensures.table;
        accounts_are = λ poi. ap account_in_row (c.put-2.ensures.values poi) ∙ account_after records intent c.asked.result poi _ account (tables.accounts_are poi);
        sums_are = λ poi currency. ap (λ row. sums_in_row row currency) (c.put-2.ensures.values poi) ∙ sums_after records intent c.asked.result poi _ currency (sums currency) (tables.sums_are poi currency);
        asked_have_desks = desks_after records intent c.asked.result c.self.inside.desks.items c.put-2.new.rows.items c.put-2.ensures.values tables.asked_have_desks;
        closings_table = tables.closings_table;
        closings_are = closings_after records intent _ tables.closings_are;
        tally_is = tally_after records intent _ tables.tally_is;
      }),
      record {
        for_slots = omega (arith, room.for_slots, enough, c.add_intent.ensures.slots);
        for_intents = omega (arith, room.for_intents, enough, c.add_intent.ensures.intents);
        for_outcomes = omega (arith, room.for_outcomes, enough, c.add_intent.ensures.outcomes);
        for_reconciliations = omega (arith, room.for_reconciliations, enough, c.add_intent.ensures.reconciliations);
        for_marks = omega (arith, room.for_marks, c.push.ensures.len, c.push.ensures.capacity);
        for_lasts = omega (arith, room.for_lasts, c.put.ensures.len, c.put.ensures.capacity);
        for_desks = omega (arith, room.for_desks, c.put-2.ensures.len, c.put-2.ensures.capacity);
        for_closings = omega (arith, room.for_closings);
      },
    )
