-- Proof of the contract of `settle`.
use Rattle.std.proofs.Common.{◌≡◌, ◌∙◌, ◌<◌, ◌≤◌, refl, sym, ap, arith, length, add-one}
use Rattle.std.proofs.lemmas.List.{length-append}
use Rattle.jrn_record.specs.declared.records.Record.{Record}
use Rattle.jrn_record.specs.declared.records.Record.TheVariants.{Settled}
use Rattle.std.specs.Prelude.{Some}
use Rattle.gw_base.specs.declared.currency.Currency.{Currency}
use Rattle.gw_ledger.specs.Accounts.{account_of, account_with}
use Rattle.gw_ledger.specs.Sums.{totals_of, totals_with}
use Rattle.gw_ledger.specs.declared.tables.Mark.{Mark}
use Rattle.gw_ledger.specs.Tables.{account_in_row, no_sums, poi_cmp, sums_in_row}
use Rattle.gw_ledger.specs.Table.{value_at}
use Rattle.gw_ledger.proofs.RecordLemmas.{beside_push}
use Rattle.gw_ledger.proofs.SettledLemmas.{lasts_after, marks_are_after, account_after, sums_after, desks_after, closings_after, tally_after}
use Rattle.gw_ledger.proofs.tables.Tables.settle.Goals as goal

pub invariant_of-self : goal.invariant_of-self
invariant_of-self c =
    let tables = c.self.invariant.0 in
    let room = c.self.invariant.1 in
    let records = c.self.inside.records.records in
    let settled = c.args.settled.now in
    let same = ap (λ v. v.records) c.self.view_is in
    let spare = ap (λ v. v.spare) c.self.view_is in
    let enough : 1 ≤ c.self.inside.spare = rw spare c.requires.spare in
    let slot : c.len-slot.result ≡ length records = c.len-slot.ensures in
    let accounts = ap (λ desks. account_in_row (value_at poi_cmp desks settled.poi)) c.deref.ensures.value in
    let account : c.closed.result.account ≡ account_with (length records) (Settled settled) (account_of records settled.poi) =
    c.closed.ensures.account ∙ rw (slot, add-one, c.desk_in-desk.ensures.account, accounts, tables.accounts_are settled.poi) refl in
    let sums : (currency : Currency) → sums_in_row (Some c.closed.result) currency ≡ no_sums = c.closed.ensures.sums in
    let totals : c.totals_at-totals.result ≡ totals_of records settled.poi settled.currency =
    c.totals_at-totals.ensures ∙ ap (totals_with settled.currency) (c.desk_in-desk.ensures.sums settled.currency
    ∙ ap (λ desks. sums_in_row (value_at poi_cmp desks settled.poi) settled.currency) c.deref.ensures.value ∙ tables.sums_are settled.poi settled.currency) in
    let few : length records < 1000000 = rw same c.requires.few in (
      rw (c.add_settled.ensures.records, c.push.ensures.elements) (record {
        folded = beside_push records (Settled settled) tables.folded c.requires.within refl;
        few = omega (arith, length-append {A = Record});
        marks_len = omega (arith, length-append {A = Record}, length-append {A = Mark}, tables.marks_len);
        marks_are = marks_are_after records settled _ tables.marks_len tables.marks_are;
        lasts_table = tables.lasts_table;
        lasts_are = λ sale poi. tables.lasts_are sale poi ∙ sym (lasts_after records settled sale poi);
        desks_table = c.put.ensures.table;
        accounts_are = λ poi. ap account_in_row (c.put.ensures.values poi) ∙ account_after records settled c.closed.result poi _ account (tables.accounts_are poi);
        sums_are = λ poi currency. ap (λ row. sums_in_row row currency) (c.put.ensures.values poi) ∙ sums_after records settled c.closed.result poi _ currency (sums currency) (tables.sums_are poi currency);
        asked_have_desks = desks_after records settled c.closed.result c.self.inside.desks.items c.put.new.rows.items c.put.ensures.values tables.asked_have_desks;
        closings_table = c.put-2.ensures.table;
        closings_are = closings_after records settled c.self.inside.closings.items c.put-2.new.rows.items c.totals_at-totals.result totals (λ at. c.put-2.ensures.values at ∙ rw slot refl) tables.closings_are;
        tally_is = tally_after records settled _ tables.tally_is;
      }),
      record {
        for_slots = omega (arith, room.for_slots, enough, c.add_settled.ensures.slots);
        for_intents = omega (arith, room.for_intents, enough, c.add_settled.ensures.intents);
        for_outcomes = omega (arith, room.for_outcomes, enough, c.add_settled.ensures.outcomes);
        for_reconciliations = omega (arith, room.for_reconciliations, enough, c.add_settled.ensures.reconciliations);
        for_marks = omega (arith, room.for_marks, c.push.ensures.len, c.push.ensures.capacity);
        for_lasts = omega (arith, room.for_lasts);
        for_desks = omega (arith, room.for_desks, c.put.ensures.len, c.put.ensures.capacity);
        for_closings = omega (arith, room.for_closings, c.put-2.ensures.len, c.put-2.ensures.capacity);
      },
    )
