-- Proof of the contract of `fits_outcome`.
use Rattle.std.proofs.Common.{◌≡◌, ◌∙◌, List, Some, sym, ap}
use Rattle.std.specs.Prelude.{not}
use Rattle.jrn_record.specs.declared.records.Record.{Record}
use Rattle.jrn_record.specs.declared.records.Record.TheVariants.{Outcome}
use Rattle.gw_ledger.specs.Fold.{fits_beside_key}
use Rattle.gw_ledger.specs.Slots.{intent_at}
use Rattle.gw_ledger.proofs.EndedLemmas.{approval_fits, decline_fits, ended_is, ended_misfits}
use Rattle.gw_ledger.proofs.tables.Tables.fits_outcome.Goals as goal

pub returns-else-is_none : goal.returns-else-is_none
returns-else-is_none c =
    let records = c.self.inside.records.records in
    let outcome = c.args.outcome.now in
    let found : intent_at records outcome.slot ≡ Some c.in-Some.intent = sym c.intent_at.ensures ∙ c.in-Some.is in
    let ended = ended_is records c.self.inside.marks.items outcome.slot c.in-Some.intent c.index.result.now c.get.result c.self.invariant.0.marks_are found c.index.ensures c.get.ensures in
    c.if-is_none.false ∙ ended_misfits records outcome c.in-Some.intent c.get.result found ended c.if-is_none.ensures
    ∙ ap (λ (r : List Record). fits_beside_key r (Outcome outcome)) (ap (λ v. v.records) c.self.view_is)

pub returns-then-not-outcome : goal.returns-then-not-outcome
returns-then-not-outcome c =
    let records = c.self.inside.records.records in
    let outcome = c.args.outcome.now in
    let found : intent_at records outcome.slot ≡ Some c.in-Some.intent = sym c.intent_at.ensures ∙ c.in-Some.is in
    let ended = ended_is records c.self.inside.marks.items outcome.slot c.in-Some.intent c.index.result.now c.get.result c.self.invariant.0.marks_are found c.index.ensures c.get.ensures in
    ap not c.if-not-outcome.true ∙ decline_fits records outcome c.in-Some.intent c.get.result found ended c.if-is_none.ensures c.if-not-outcome.true
    ∙ ap (λ (r : List Record). fits_beside_key r (Outcome outcome)) (ap (λ v. v.records) c.self.view_is)

pub returns-else-not-outcome : goal.returns-else-not-outcome
returns-else-not-outcome c =
    let records = c.self.inside.records.records in
    let outcome = c.args.outcome.now in
    let found : intent_at records outcome.slot ≡ Some c.in-Some.intent = sym c.intent_at.ensures ∙ c.in-Some.is in
    let ended = ended_is records c.self.inside.marks.items outcome.slot c.in-Some.intent c.index.result.now c.get.result c.self.invariant.0.marks_are found c.index.ensures c.get.ensures in
    approval_fits records outcome c.in-Some.intent c.get.result found ended c.if-is_none.ensures c.if-not-outcome.false
    ∙ ap (λ (r : List Record). fits_beside_key r (Outcome outcome)) (ap (λ v. v.records) c.self.view_is)
