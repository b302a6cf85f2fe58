-- Proof of the contract of `entry`.
use Rattle.std.proofs.Common.{◌≡◌, ◌∙◌, ◌<◌, ℕ, List, Option, Some, is_some, length, refl, sym, ap}
use Rattle.std.specs.Prelude.{option_and_then}
use Rattle.std.proofs.lemmas.Option.{get_or_from_slice_get}
use Rattle.jrn_record.specs.declared.records.Intent.{Intent as TheIntent}
use Rattle.jrn_record.specs.declared.records.Outcome.{Outcome as TheOutcome}
use Rattle.jrn_record.specs.declared.records.Record.{Record}
use Rattle.gw_ledger.specs.declared.entry.Entry.{Entry as TheEntry}
use Rattle.gw_ledger.specs.declared.tables.Mark.{Mark}
use Rattle.gw_ledger.specs.Slots.{ended_at, entry_at, intent_at, outcome_at}
use Rattle.gw_ledger.specs.Tables.{mark_of}
use Rattle.gw_ledger.proofs.FoldLemmas.{intent_inside}
use Rattle.gw_ledger.proofs.tables.Tables.entry.Goals as goal

entry_is : (records : List Record) (slot : ℕ) (intent : TheIntent) (result : Option TheOutcome) → intent_at records slot ≡ Some intent
    → result ≡ option_and_then (outcome_at records) (ended_at records slot) → ◌≡◌ {A = Option TheEntry} (Some (record { slot = slot; intent = intent; result = result })) (entry_at records slot)
entry_is records slot intent result asked is = rw (asked, is) refl

pub returns-in-Some : goal.returns-in-Some
returns-in-Some c =
    let records = c.self.inside.records.records in
    let marks = c.self.inside.marks.items in
    let slot = c.args.slot in
    let asked : intent_at records slot ≡ Some c.in-Some.intent = sym c.intent_at.ensures ∙ c.in-Some.is in
    let inside : slot < length records = intent_inside records slot (ap is_some asked) in
    let mark : c.index.result.now ≡ mark_of records slot =
    c.index.ensures ∙ get_or_from_slice_get marks slot (mark_of records slot) c.index.result.now (c.self.invariant.0.marks_are slot inside) in
    let same = ap (λ v. v.records) c.self.view_is in
    let result : c.outcome_of.result ≡ option_and_then (outcome_at records) (ended_at records slot) =
    c.outcome_of.ensures ∙ ap (λ (r : List Record). option_and_then (outcome_at r) c.get.result) (sym same)
    ∙ ap (λ (ended : Option ℕ). option_and_then (outcome_at records) ended) c.get.ensures ∙ ap (λ (m : Mark). option_and_then (outcome_at records) m.ended) mark in
    entry_is records slot c.in-Some.intent c.outcome_of.result asked result ∙ ap (λ (r : List Record). entry_at r slot) same
