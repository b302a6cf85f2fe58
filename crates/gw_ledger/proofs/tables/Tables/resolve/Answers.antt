-- Proof of the contract of `resolve`.
use Rattle.std.proofs.Common.{◌≡◌, ◌∙◌, ◌-◌, ◌<◌, Option, refl, sym, ap, arith, length, IsSome}
use Rattle.std.specs.Prelude.{Some, None}
use Rattle.std.proofs.lemmas.List.{length-append}
use Rattle.gw_base.specs.declared.currency.Currency.{Currency}
use Rattle.jrn_record.specs.declared.records.Record.{Record}
use Rattle.jrn_record.specs.declared.records.Record.TheVariants.{Outcome}
use Rattle.gw_ledger.specs.declared.tables.Mark.{Mark}
use Rattle.gw_ledger.specs.Accounts.{account_of, account_with}
use Rattle.gw_ledger.specs.Slots.{intent_at}
use Rattle.gw_ledger.specs.Steps.{sums_with}
use Rattle.gw_ledger.specs.Sums.{count_all, is_approval, is_decline, open_count_of, sums_of}
use Rattle.gw_ledger.specs.Table.{value_at}
use Rattle.gw_ledger.specs.Tables.{account_in_row, poi_cmp, sums_in_row}
use Rattle.gw_ledger.proofs.RecordLemmas.{count-le, beside_push}
use Rattle.gw_ledger.proofs.OutcomeLemmas.{account_after, closings_after, desks_after, lasts_after, marks_are_after, sums_after, tally_after, unresolved_after}
use Rattle.gw_ledger.proofs.FoldLemmas.{intent_inside, open_has_intent, open_is_counted, open_parts, room_for, present-le, total-below}
use Rattle.gw_ledger.proofs.MarkLemmas.{length-marked}
use Rattle.gw_ledger.proofs.tables.Tables.resolve.Goals as goal

pub add_outcome-requires-clause-slots : goal.add_outcome-requires-clause-slots
add_outcome-requires-clause-slots c =
    let tables = c.self.invariant.0 in
    let room = c.self.invariant.1 in
    let same = ap (λ v. v.records) c.self.view_is in
    let opened = open_parts c.self.inside.records.records c.args.outcome.now (rw same c.requires.fits) in
    let counted = open_is_counted c.self.inside.records.records tables.folded c.args.outcome.now.slot opened in
    let unresolved : c.self.inside.tally.unresolved ≡ open_count_of c.self.inside.records.records = ap (λ t. t.unresolved) tables.tally_is in
    omega (arith, counted, unresolved, room.for_slots)

pub add_outcome-requires-clause-outcomes : goal.add_outcome-requires-clause-outcomes
add_outcome-requires-clause-outcomes c =
    let tables = c.self.invariant.0 in
    let room = c.self.invariant.1 in
    let same = ap (λ v. v.records) c.self.view_is in
    let opened = open_parts c.self.inside.records.records c.args.outcome.now (rw same c.requires.fits) in
    let counted = open_is_counted c.self.inside.records.records tables.folded c.args.outcome.now.slot opened in
    let unresolved : c.self.inside.tally.unresolved ≡ open_count_of c.self.inside.records.records = ap (λ t. t.unresolved) tables.tally_is in
    omega (arith, counted, unresolved, room.for_outcomes)

pub push_outcome-requires-clause-inside : goal.push_outcome-requires-clause-inside
push_outcome-requires-clause-inside c =
    let tables = c.self.invariant.0 in
    let same = ap (λ v. v.records) c.self.view_is in
    let opened = open_parts c.self.inside.records.records c.args.outcome.now (rw same c.requires.fits) in
    let inside = intent_inside c.self.inside.records.records c.args.outcome.now.slot (open_has_intent c.self.inside.records.records c.args.outcome.now.slot opened) in
    omega (arith, inside, tables.marks_len, c.self.inside.marks.ok.0)

pub push_outcome-requires-clause-room : goal.push_outcome-requires-clause-room
push_outcome-requires-clause-room c =
    let tables = c.self.invariant.0 in
    let room = c.self.invariant.1 in
    let same = ap (λ v. v.records) c.self.view_is in
    let opened = open_parts c.self.inside.records.records c.args.outcome.now (rw same c.requires.fits) in
    let counted = open_is_counted c.self.inside.records.records tables.folded c.args.outcome.now.slot opened in
    let unresolved : c.self.inside.tally.unresolved ≡ open_count_of c.self.inside.records.records = ap (λ t. t.unresolved) tables.tally_is in
    omega (arith, counted, unresolved, room.for_marks)

pub counted-self-inside-requires-clause-approved : goal.counted-self-inside-requires-clause-approved
counted-self-inside-requires-clause-approved c =
    let tables = c.self.invariant.0 in
    let count : c.self.inside.tally.approved ≡ count_all c.self.inside.records.records is_approval = ap (λ t. t.approved) tables.tally_is in
    omega (arith, count, count-le c.self.inside.records.records is_approval, tables.few)

pub counted-self-inside-requires-clause-declined : goal.counted-self-inside-requires-clause-declined
counted-self-inside-requires-clause-declined c =
    let tables = c.self.invariant.0 in
    let count : c.self.inside.tally.declined ≡ count_all c.self.inside.records.records is_decline = ap (λ t. t.declined) tables.tally_is in
    omega (arith, count, count-le c.self.inside.records.records is_decline, tables.few)

pub counted-self-inside-requires-clause-open : goal.counted-self-inside-requires-clause-open
counted-self-inside-requires-clause-open c =
    let tables = c.self.invariant.0 in
    let same = ap (λ v. v.records) c.self.view_is in
    let opened = open_parts c.self.inside.records.records c.args.outcome.now (rw same c.requires.fits) in
    let counted = open_is_counted c.self.inside.records.records tables.folded c.args.outcome.now.slot opened in
    let unresolved : c.self.inside.tally.unresolved ≡ open_count_of c.self.inside.records.records = ap (λ t. t.unresolved) tables.tally_is in
    omega (arith, counted, unresolved)

pub counted-self-inside-requires-clause-sum : goal.counted-self-inside-requires-clause-sum
counted-self-inside-requires-clause-sum c =
    let tables = c.self.invariant.0 in
    let same = ap (λ v. v.records) c.self.view_is in
    let few : length c.self.inside.records.records < 1000000 = rw same c.requires.few in
    rw (ap (λ t. t.sum) tables.tally_is)
    (total-below c.self.inside.records.records tables.folded few c.args.outcome.now.amount (present-le c.args.outcome.now.approved c.args.outcome.now.amount c.requires.within.amount))

pub resolved-requires : goal.resolved-requires
resolved-requires c =
    let tables = c.self.invariant.0 in
    let same = ap (λ v. v.records) c.self.view_is in
    let few : length c.self.inside.records.records < 1000000 = rw same c.requires.few in
    let sums : (currency : Currency) → sums_in_row (Some c.desk_in-desk.result) currency ≡ sums_of c.self.inside.records.records c.in-Some.intent.poi currency =
    λ currency. c.desk_in-desk.ensures.sums currency ∙ ap (λ desks. sums_in_row (value_at poi_cmp desks c.in-Some.intent.poi) currency) c.deref.ensures.value ∙ tables.sums_are c.in-Some.intent.poi currency in
    record {
      counts = λ currency. rw (sums currency)
          (room_for c.self.inside.records.records tables.folded few c.args.outcome.now.amount (present-le c.args.outcome.now.approved c.args.outcome.now.amount c.requires.within.amount) c.in-Some.intent.poi currency);
    }

none_has_value : {V : Type 0} (value : Option V) → value ≡ None → IsSome value → ⊥
none_has_value None none some = cc
none_has_value (Some v) none some = cc

pub put-requires-clause-room : goal.put-requires-clause-room
put-requires-clause-room c none =
    let tables = c.self.invariant.0 in
    let asked : intent_at c.self.inside.records.records c.args.outcome.now.slot ≡ Some c.in-Some.intent =
    sym c.intent_at.ensures ∙ c.in-Some.is in
    absurd (none_has_value (value_at poi_cmp c.self.inside.desks.items c.in-Some.intent.poi) none (tables.asked_have_desks c.args.outcome.now.slot c.in-Some.intent asked))

pub invariant_of-self : goal.invariant_of-self
invariant_of-self c =
    let tables = c.self.invariant.0 in
    let room = c.self.invariant.1 in
    let records = c.self.inside.records.records in
    let outcome = c.args.outcome.now in
    let intent = c.in-Some.intent in
    let same = ap (λ v. v.records) c.self.view_is in
    let few : length records < 1000000 = rw same c.requires.few in
    let asked : intent_at records outcome.slot ≡ Some intent =
    sym c.intent_at.ensures ∙ c.in-Some.is in
    let at : c.len-at.result ≡ length records = c.len-at.ensures in
    let accounts = ap (λ desks. account_in_row (value_at poi_cmp desks intent.poi)) c.deref.ensures.value in
    let account : c.resolved.result.account ≡ account_with (length records) (Outcome outcome) (account_of records intent.poi) =
    c.resolved.ensures.account ∙ rw (c.desk_in-desk.ensures.account, accounts, tables.accounts_are intent.poi) refl in
    let sums : (currency : Currency) → sums_in_row (Some c.resolved.result) currency ≡ sums_with intent outcome currency (sums_of records intent.poi currency) =
    λ currency. c.resolved.ensures.sums currency ∙ ap (sums_with intent outcome currency) (c.desk_in-desk.ensures.sums currency
    ∙ ap (λ desks. sums_in_row (value_at poi_cmp desks intent.poi) currency) c.deref.ensures.value ∙ tables.sums_are intent.poi currency) in
    let same_len = c.put.ensures.same_len (tables.asked_have_desks outcome.slot intent asked) in
    let unresolved : c.counted-self-inside.result.unresolved ≡ c.self.inside.tally.unresolved - 1 =
    ap (λ t. t.unresolved) c.counted-self-inside.ensures ∙ unresolved_after records outcome intent asked c.self.inside.tally in
    let opened = open_parts records outcome (rw same c.requires.fits) in
    let counted = open_is_counted records tables.folded outcome.slot opened in
    let open_is : c.self.inside.tally.unresolved ≡ open_count_of records = ap (λ t. t.unresolved) tables.tally_is in (
      rw (c.add_outcome.ensures.records, c.push_outcome.ensures.marks, at) (record {
        folded = beside_push records (Outcome outcome) tables.folded c.requires.within (rw same c.requires.fits);
        few = omega (arith, length-append {A = Record});
        marks_len = omega (arith, length-append {A = Record}, length-append {A = Mark}, tables.marks_len, length-marked outcome intent.original (length records) c.self.inside.marks.items);
        marks_are = marks_are_after records outcome intent asked _ tables.marks_len tables.marks_are;
        lasts_table = tables.lasts_table;
        lasts_are = λ sale poi. tables.lasts_are sale poi ∙ sym (lasts_after records outcome intent asked sale poi);
        desks_table = c.put.ensures.table;
        accounts_are = λ poi. ap account_in_row (c.put.ensures.values poi) ∙ account_after records outcome intent asked c.resolved.result poi _ account (tables.accounts_are poi);
        sums_are = λ poi currency. ap (λ row. sums_in_row row currency) (c.put.ensures.values poi) ∙ sums_after records outcome intent asked c.resolved.result poi _ currency (sums currency) (tables.sums_are poi currency);
        asked_have_desks = desks_after records outcome intent asked c.resolved.result c.self.inside.desks.items c.put.new.rows.items c.put.ensures.values tables.asked_have_desks;
        closings_table = tables.closings_table;
        closings_are = closings_after records outcome intent asked _ tables.closings_are;
        tally_is = c.counted-self-inside.ensures ∙ tally_after records outcome intent asked _ tables.tally_is;
      }),
      record {
        for_slots = omega (arith, room.for_slots, c.add_outcome.ensures.slots, unresolved, counted, open_is);
        for_intents = omega (arith, room.for_intents, c.add_outcome.ensures.intents);
        for_outcomes = omega (arith, room.for_outcomes, c.add_outcome.ensures.outcomes, unresolved, counted, open_is);
        for_reconciliations = omega (arith, room.for_reconciliations, c.add_outcome.ensures.reconciliations);
        for_marks = omega (arith, room.for_marks, c.push_outcome.ensures.len, c.push_outcome.ensures.capacity, unresolved, counted, open_is);
        for_lasts = room.for_lasts;
        for_desks = omega (arith, room.for_desks, same_len, c.put.ensures.capacity);
        for_closings = room.for_closings;
      },
    )
