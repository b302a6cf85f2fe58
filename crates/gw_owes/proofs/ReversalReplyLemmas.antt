-- What the till of a reversal gets as it ends: the numbers and the amount that are kept, or the condition.
use Rattle.std.proofs.Common.{◌≡◌, ℕ, ◌∙◌, ap}
use Rattle.std.specs.Prelude.{false, ◌++◌, length, List, Option, Some, None, option_map, option_and_then}
use Rattle.gw_base.specs.declared.condition.Condition.{Condition}
use Rattle.gw_base.specs.declared.condition.Condition.TheVariants.{Aborted}
use Rattle.gw_base.specs.declared.figures.Figures.{Figures}
use Rattle.jrn_record.specs.declared.records.Deal.{Deal}
use Rattle.jrn_record.specs.declared.records.Deal.TheVariants as deals
use Rattle.jrn_record.specs.declared.records.Outcome.{Outcome as TheOutcome}
use Rattle.jrn_record.specs.declared.records.Record.{Record}
use Rattle.jrn_record.specs.declared.records.Record.TheVariants.{Outcome}
use Rattle.gw_ledger.specs.declared.entry.Entry.{Entry as TheEntry}
use Rattle.gw_ledger.specs.declared.entry.Found.TheVariants.{Entry}
use Rattle.gw_ledger.specs.Accounts.{open_slot}
use Rattle.gw_ledger.specs.Fold.{open_entry}
use Rattle.gw_ledger.specs.Slots.{entry_at}
use Rattle.xlate.specs.Codes.{condition_of_code}
use Rattle.xlate.specs.Reply.{entry_body, header_of}
use Rattle.gw_owes.specs.declared.terminal.Terminal.{Terminal}
use Rattle.gw_owes.specs.Calls.{keep_calls}
use Rattle.gw_owes.specs.KeptReplies.{kept_reply}
use Rattle.gw_owes.specs.PaymentLaws.{outcome_calls}
use Rattle.gw_owes.specs.Reply.{ReplyValue, Finished}
use Rattle.gw_owes.specs.ReversalLaws.{IsReversalAt, replied_calls, reversed_outcome, reversed_body, unreversed_outcome, unreversed_body, ReversalApprovalIsReplied, ReversalDeclineIsReplied, ReportedReversalIsReplied, ReportedDeclineIsReplied, UnperformedReversalIsReplied}
use Rattle.gw_owes.specs.Row.{Known}
use Rattle.gw_owes.specs.Serving.{reply_to_outcome, was_stopped}
use Rattle.gw_owes.specs.Terminals.{reply_calls_to}
use Rattle.gw_owes.proofs.PaymentLawLemmas.{approval-is-kept, decline-is-kept, reported-approval-is-kept, reported-decline-is-kept, unperformed-is-aborted}
use Rattle.gw_owes.proofs.RecordLemmas.{entry-parts}

-- ---- the reply to what is kept

-- the reply to an entry that is a reversal, with this Outcome
reversal-reply : (kept : List Record) (slot : ℕ) (entry : TheEntry) (outcome : TheOutcome) → IsReversalAt kept slot entry
    → reply_to_outcome kept slot outcome ≡ option_map (Finished (header_of (Entry entry))) (entry_body deals.Reversal outcome.approved entry.slot entry.intent outcome)
reversal-reply kept slot entry outcome at =
    ap (option_and_then (λ (found : TheEntry). kept_reply (Entry (record found { result = Some outcome })))) at.found
    ∙ ap (λ (what : Deal). option_map (Finished (header_of (Entry entry))) (entry_body what outcome.approved entry.slot entry.intent outcome)) at.what

-- the calls once the reply is known
calls-reply : (known : Known) (terminal : Terminal) (outcome : TheOutcome) (reply : Option ReplyValue) → reply_to_outcome known.kept outcome.slot outcome ≡ reply
    → outcome_calls known terminal outcome ≡ keep_calls (length known.kept) (Outcome outcome) ++ reply_calls_to terminal.asker reply
calls-reply known terminal outcome reply is = ap (λ (r : Option ReplyValue). keep_calls (length known.kept) (Outcome outcome) ++ reply_calls_to terminal.asker r) is

approved-calls : (known : Known) (terminal : Terminal) (slot : ℕ) (figures : Figures) (entry : TheEntry) → IsReversalAt known.kept slot entry
    → outcome_calls known terminal (reversed_outcome slot figures known.moment) ≡ replied_calls known terminal entry (reversed_outcome slot figures known.moment) (reversed_body entry figures known.moment)
approved-calls known terminal slot figures entry at =
    calls-reply known terminal (reversed_outcome slot figures known.moment) _ (reversal-reply known.kept slot entry (reversed_outcome slot figures known.moment) at)

refused-calls : (known : Known) (terminal : Terminal) (slot : ℕ) (condition : Condition) (entry : TheEntry) → IsReversalAt known.kept slot entry
    → outcome_calls known terminal (unreversed_outcome slot condition known.moment) ≡ replied_calls known terminal entry (unreversed_outcome slot condition known.moment) (unreversed_body entry condition known.moment)
refused-calls known terminal slot condition entry at =
    calls-reply known terminal (unreversed_outcome slot condition known.moment) _ (reversal-reply known.kept slot entry (unreversed_outcome slot condition known.moment) at)

-- ---- what is served

pub approval-is-replied : ReversalApprovalIsReplied
approval-is-replied known number apdu terminal slot last figures entry means above at =
    let goes = approval-is-kept known number apdu terminal slot last figures means above in
    goes.calls_are ∙ approved-calls known terminal slot figures entry at

pub decline-is-replied : ReversalDeclineIsReplied
decline-is-replied known number apdu terminal slot last result_code reported entry means at =
    let goes = decline-is-kept known number apdu terminal slot last result_code reported means in
    goes.calls_are ∙ refused-calls known terminal slot (condition_of_code result_code (was_stopped terminal.talk)) entry at

-- ---- what is open

-- by the slot that is open
open-is-at : (kept : List Record) (entry : TheEntry) (slot : Option ℕ) → option_and_then (entry_at kept) slot ≡ Some entry → entry_at kept entry.slot ≡ Some entry
open-is-at kept entry None opened = absurd cc
open-is-at kept entry (Some slot) opened =
    let parts = entry-parts kept slot entry opened in
    ap (entry_at kept) parts.0 ∙ opened

-- an entry that is open is that of its slot
reversal-open : (kept : List Record) (poi : List ℕ) (entry : TheEntry) → open_entry kept poi ≡ Some entry → entry.intent.what ≡ deals.Reversal → IsReversalAt kept entry.slot entry
reversal-open kept poi entry opened what = record { found = open-is-at kept entry (open_slot kept poi) opened; what = what }

pub reported-is-replied : ReportedReversalIsReplied
reported-is-replied known number apdu terminal report entry figures of_open what above approved =
    let goes = reported-approval-is-kept known number apdu terminal report entry figures of_open above approved in
    goes.calls_are ∙ approved-calls known terminal entry.slot figures entry (reversal-open known.kept terminal.pt.poi entry of_open.opened what)

pub reported-decline-is-replied : ReportedDeclineIsReplied
reported-decline-is-replied known number apdu terminal report entry of_open what above declined =
    let goes = reported-decline-is-kept known number apdu terminal report entry of_open above declined in
    goes.calls_are ∙ refused-calls known terminal entry.slot (condition_of_code report.result_code false) entry (reversal-open known.kept terminal.pt.poi entry of_open.opened what)

pub unperformed-is-replied : UnperformedReversalIsReplied
unperformed-is-replied known number apdu terminal report entry of_open what same =
    let goes = unperformed-is-aborted known number apdu terminal report entry of_open same in
    goes.calls_are ∙ refused-calls known terminal entry.slot Aborted entry (reversal-open known.kept terminal.pt.poi entry of_open.opened what)
