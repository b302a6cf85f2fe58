-- Proof of the contract of `reversed`.
use Rattle.std.proofs.Common.{◌≡◌, ◌∙◌, List, Some, sym, ap}
use Rattle.jrn_record.specs.declared.records.Record.{Record}
use Rattle.gw_ledger.specs.Slots.{intent_at, is_reversed}
use Rattle.gw_ledger.proofs.EndedLemmas.{mark_is, payment_reversed, reversal_unreversed}
use Rattle.gw_ledger.proofs.tables.Tables.reversed.Goals as goal

pub returns-then-is_reversible : goal.returns-then-is_reversible
returns-then-is_reversible c =
    let records = c.self.inside.records.records in
    let found : intent_at records c.args.slot ≡ Some c.in-Some.intent = sym c.intent_at.ensures ∙ c.in-Some.is in
    payment_reversed records c.args.slot c.in-Some.intent found c.index.result.now (sym c.if-is_reversible.ensures)
    (mark_is records c.self.inside.marks.items c.args.slot c.in-Some.intent c.index.result.now c.self.invariant.0.marks_are found c.index.ensures)
    ∙ ap (λ (r : List Record). is_reversed r c.args.slot) (ap (λ v. v.records) c.self.view_is)

pub returns-else-is_reversible : goal.returns-else-is_reversible
returns-else-is_reversible c =
    let records = c.self.inside.records.records in
    let found : intent_at records c.args.slot ≡ Some c.in-Some.intent = sym c.intent_at.ensures ∙ c.in-Some.is in
    c.if-is_reversible.false ∙ reversal_unreversed records c.args.slot c.in-Some.intent found (sym c.if-is_reversible.ensures)
    ∙ ap (λ (r : List Record). is_reversed r c.args.slot) (ap (λ v. v.records) c.self.view_is)
