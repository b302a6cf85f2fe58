-- Proof of the contract of `settled`.
use Rattle.std.proofs.Common.{◌≡◌, ◌∙◌, List, Some, sym, ap}
use Rattle.jrn_record.specs.declared.records.Record.{Record}
use Rattle.gw_ledger.specs.Accounts.{is_settled}
use Rattle.gw_ledger.specs.Slots.{intent_at}
use Rattle.gw_ledger.specs.Table.{value_at}
use Rattle.gw_ledger.specs.Tables.{account_in_row, poi_cmp}
use Rattle.gw_ledger.proofs.EndedLemmas.{ended_is, open_unsettled, payment_settled, reversal_unsettled}
use Rattle.gw_ledger.proofs.tables.Tables.settled.Goals as goal

pub returns-in-None : goal.returns-in-None
returns-in-None c =
    let records = c.self.inside.records.records in
    let found : intent_at records c.args.slot ≡ Some c.in-Some.intent = sym c.intent_at.ensures ∙ c.in-Some.is in
    let ended = ended_is records c.self.inside.marks.items c.args.slot c.in-Some.intent c.index.result.now c.get.result c.self.invariant.0.marks_are found c.index.ensures c.get.ensures in
    open_unsettled records c.args.slot c.in-Some.intent found (sym c.in-None.is ∙ ended) ∙ ap (λ (r : List Record). is_settled r c.args.slot) (ap (λ v. v.records) c.self.view_is)

pub returns-then-is_reversible : goal.returns-then-is_reversible
returns-then-is_reversible c =
    let records = c.self.inside.records.records in
    let found : intent_at records c.args.slot ≡ Some c.in-Some.intent = sym c.intent_at.ensures ∙ c.in-Some.is in
    let ended = ended_is records c.self.inside.marks.items c.args.slot c.in-Some.intent c.index.result.now c.get.result c.self.invariant.0.marks_are found c.index.ensures c.get.ensures in
    payment_settled records c.args.slot c.in-Some.intent found c.in-Some-get.at c.desk_in.result.account (sym c.if-is_reversible.ensures) (sym c.in-Some-get.is ∙ ended)
    (c.desk_in.ensures.account ∙ ap (λ desks. account_in_row (value_at poi_cmp desks c.in-Some.intent.poi)) c.deref.ensures.value ∙ c.self.invariant.0.accounts_are c.in-Some.intent.poi)
    ∙ ap (λ (r : List Record). is_settled r c.args.slot) (ap (λ v. v.records) c.self.view_is)

pub returns-else-is_reversible : goal.returns-else-is_reversible
returns-else-is_reversible c =
    let records = c.self.inside.records.records in
    let found : intent_at records c.args.slot ≡ Some c.in-Some.intent = sym c.intent_at.ensures ∙ c.in-Some.is in
    c.if-is_reversible.false ∙ reversal_unsettled records c.args.slot c.in-Some.intent found (sym c.if-is_reversible.ensures)
    ∙ ap (λ (r : List Record). is_settled r c.args.slot) (ap (λ v. v.records) c.self.view_is)
