-- How payments and reversals end, and what a report of an open one does.
use Rattle.std.proofs.Common.{◌≡◌, ◌≢◌, ◌⊎◌, ◌<◌, ◌≤◌, ℕ, List, [], ◌∷◌, refl, sym, ◌∙◌, ap, subst, arith, inl, inr, Bool, true, false}
use Rattle.std.proofs.lemmas.Bool.{lt-ltb, le-ltb, le-leb, ltb-true, leb-true}
use Rattle.std.specs.Prelude.{pos, ◌+ℤ◌, nat_le, nat_lt, option_map, if◌then◌else◌, Option, Some, None, Ok}
use Rattle.gw_base.specs.declared.condition.Condition.TheVariants.{Aborted}
use Rattle.gw_base.specs.declared.figures.Figures.{Figures}
use Rattle.gw_base.specs.declared.key.Key.{Key}
use Rattle.sale_values.specs.declared.header.Header.{Header}
use Rattle.sale_values.specs.declared.names.Period.{Period}
use Rattle.sale_reply.specs.declared.reply.Shown.{Shown}
use Rattle.zvt_apdu.specs.Grammar.{ApduValue}
use Rattle.zvt_msg.specs.Message.{MessageValue, Ack, Nack, Intermediate, Line, Block, Status, Completion, Abort, Other}
use Rattle.zvt_msg.specs.MessageDecode.{decode_pt_message}
use Rattle.zvt_talk.specs.declared.dialogue_kind.DialogueKind.{DialogueKind}
use Rattle.zvt_talk.specs.declared.meaning.Heard.{Heard}
use Rattle.zvt_talk.specs.declared.meaning.Heard.TheVariants as heard
use Rattle.zvt_talk.specs.declared.phase.Phase.{Phase}
use Rattle.zvt_talk.specs.declared.phase.Phase.TheVariants as phases
use Rattle.zvt_talk.specs.declared.statuses.Statuses.{Statuses}
use Rattle.zvt_talk.specs.Came.{is_taken, is_completion_or_abort}
use Rattle.zvt_talk.specs.Dialogue.{is_display}
use Rattle.zvt_talk.specs.Table.{acknowledged}
use Rattle.zvt_talk.specs.Talk.{TalkFacts}
use Rattle.zvt_talk.specs.TalkSteps.{meaning_in_phase, next_phase, next_talk, with_status, was_stop_sent}
use Rattle.jrn_record.specs.declared.records.How.TheVariants as hows
use Rattle.jrn_record.specs.declared.records.Outcome.{Outcome as TheOutcome}
use Rattle.jrn_record.specs.declared.records.Record.{Record}
use Rattle.gw_ledger.specs.declared.entry.Entry.{Entry as TheEntry}
use Rattle.gw_owes.specs.declared.terminal.Service.{Service}
use Rattle.gw_owes.specs.declared.terminal.Service.TheVariants.{Transaction, EndOfDay, Display}
use Rattle.gw_owes.specs.declared.terminal.Standing.{Standing}
use Rattle.gw_owes.specs.declared.terminal.Standing.TheVariants.{Unlinked, Registering, Enquiring, Ready, Serving, Aside}
use Rattle.gw_owes.specs.declared.terminal.Terminal.{Terminal}
use Rattle.gw_owes.specs.Calls.{OwedCall, SendTill, records_kept}
use Rattle.gw_owes.specs.DeviceRequests.{device_request_of, requests_device}
use Rattle.gw_owes.specs.Displays.{serving_display}
use Rattle.gw_owes.specs.Handling.{taken_as, meaning_for, meaning_at, taking, enquires, registering, enquiring, serving, consequence, handle_row}
use Rattle.gw_owes.specs.Links.{is_linked}
use Rattle.gw_owes.specs.Reconciliations.{serving_day, settle_calls, settled_of}
use Rattle.gw_owes.specs.Reply.{ReplyValue}
use Rattle.gw_owes.specs.Reports.{Report, on_record, outcome_as_last, outcome_reported, report_of_open, report_against}
use Rattle.gw_owes.specs.Row.{Known, Row}
use Rattle.gw_owes.specs.Serving.{at_rest, staying, breaking, stops, approved_outcome, refused_outcome, declined_outcome, was_stopped, done_with, resolves, approved_row, last_after_decline, serving_transaction}
use Rattle.gw_owes.specs.TerminalLaws.{GoesOnTo}
use Rattle.gw_owes.specs.Terminals.{terminal_at, terminal_becomes, reply_calls_to}
use Rattle.gw_owes.specs.PaymentLaws.{asks_for_transaction, is_device_request, sends_terminal, sends_till, KeepsAtEnd, MeansServed, SendsTillOf, outcome_calls, ApprovalIsKept, NotAboveIsSetAside, DeclineIsKept, UnclearKeepsNothing, IsOutcomeOf, ReportsOfOpen, EachTillHasItsOutcomeKept, EachRecordIsOfAnEnd, ReportedApprovalIsKept, ReportedDeclineIsKept, UnperformedIsAborted}
use Rattle.gw_owes.proofs.HandlingLemmas.{IsShown, RequestsDevice, each-handled, leads-by, means-taken, reported-leads}
use Rattle.gw_owes.proofs.SetLemmas.{new-is-there, same-some}

-- ---- replies

pub reply-asks : (asker : Option ℕ) (reply : Option ReplyValue) → asks_for_transaction (reply_calls_to asker reply) ≡ false
reply-asks None reply = refl
reply-asks (Some till) None = refl
reply-asks (Some till) (Some reply) = refl

pub reply-sends : (asker : Option ℕ) (reply : Option ReplyValue) → sends_terminal (reply_calls_to asker reply) ≡ false
reply-sends None reply = refl
reply-sends (Some till) None = refl
reply-sends (Some till) (Some reply) = refl

pub reply-keeps : (asker : Option ℕ) (reply : Option ReplyValue) → records_kept (reply_calls_to asker reply) ≡ []
reply-keeps None reply = refl
reply-keeps (Some till) None = refl
reply-keeps (Some till) (Some reply) = refl

-- ---- what follows from a message

-- nothing that concerns a payment or a reversal is owed
pub record IsPlain (row : Row) : Type 0 where
  pub asks : asks_for_transaction row.calls ≡ false
  pub keeps : records_kept row.calls ≡ []
  pub sends : sends_till row.calls ≡ false
  pub items : row.items ≡ []

-- the row resolves what is served
record Resolves (known : Known) (number : ℕ) (terminal : Terminal) (slot last : ℕ) (meant : Heard) (row : Row) : Type 0 where
  pub after : Standing
  pub outcome : TheOutcome
  pub slot_is : outcome.slot ≡ slot
  pub end_is : IsOutcomeOf meant last outcome
  pub row_is : row ≡ resolves known number terminal after outcome

-- so it is of a terminal of this standing
record ResolvesIn (known : Known) (number : ℕ) (terminal : Terminal) (meant : Heard) (standing : Standing) (row : Row) : Type 0 where
  pub slot : ℕ
  pub last : ℕ
  pub standing_is : standing ≡ Serving (Transaction slot) last
  pub resolved : Resolves known number terminal slot last meant row

-- the row resolves what is open, by this report
record ResolvesOpen (known : Known) (number : ℕ) (terminal : Terminal) (report : Report) (row : Row) : Type 0 where
  pub entry : TheEntry
  pub opened : (on_record known.kept terminal.pt.poi).opened ≡ Some entry
  pub not_below : entry.intent.before ≤ report.trace
  pub row_is : row ≡ resolves known number terminal (Ready report.trace) (outcome_reported entry report known.moment)

-- so it is of a terminal that is enquired, and of a message that reports its last transaction
record ReportsIn (known : Known) (number : ℕ) (terminal : Terminal) (meant : Heard) (standing : Standing) (row : Row) : Type 0 where
  pub report : Report
  pub standing_is : standing ≡ Enquiring
  pub meant_is : meant ≡ heard.Told report.trace report.approved report.result_code
  pub resolved : ResolvesOpen known number terminal report row

-- the row settles the end of day that a terminal of this standing serves
record SettlesIn (known : Known) (terminal : Terminal) (meant : Heard) (standing : Standing) (row : Row) : Type 0 where
  pub header : Header
  pub period : Period
  pub last : ℕ
  pub standing_is : standing ≡ Serving (EndOfDay header period) last
  pub meant_is : meant ≡ heard.Done
  pub calls_are : row.calls ≡ settle_calls known.kept terminal.asker (settled_of hows.Acquirer header terminal.pt.currency known.moment)
  pub items : row.items ≡ []

-- a reply alone is owed to the till that asked, of what is no payment and no reversal, and no end of day that is done
record RepliesIn (terminal : Terminal) (meant : Heard) (standing : Standing) (row : Row) : Type 0 where
  pub service : Service
  pub last : ℕ
  pub standing_is : standing ≡ Serving service last
  pub no_transaction : (slot : ℕ) → service ≢ Transaction slot
  pub none_done : (header : Header) (period : Period) → service ≡ EndOfDay header period → meant ≢ heard.Done
  pub till : ℕ
  pub asker_is : terminal.asker ≡ Some till
  pub reply : ReplyValue
  pub calls_are : row.calls ≡ SendTill till reply ∷ []
  pub items : row.items ≡ []

-- an end of day is settled, or a reply alone is owed
abbrev EndsOther : Known → Terminal → Heard → Standing → Row → Type 0
EndsOther known terminal meant standing row = SettlesIn known terminal meant standing row ⊎ RepliesIn terminal meant standing row

-- nothing that concerns a payment or a reversal is owed, or what is served is resolved, or what is open, or another service ends
abbrev IsPlainOrResolved : Known → ℕ → Terminal → Heard → Standing → Row → Type 0
IsPlainOrResolved known number terminal meant standing row =
    IsPlain row ⊎ (ResolvesIn known number terminal meant standing row ⊎ (ReportsIn known number terminal meant standing row ⊎ EndsOther known terminal meant standing row))

plain-stays : (known : Known) (number : ℕ) (terminal : Terminal) → IsPlain (staying known number terminal)
plain-stays known number terminal = record { asks = refl; keeps = refl; sends = refl; items = refl }

plain-breaks : (known : Known) (number : ℕ) (terminal : Terminal) → IsPlain (breaking known number terminal)
plain-breaks known number terminal = record { asks = refl; keeps = refl; sends = refl; items = refl }

plain-stops : (known : Known) (number : ℕ) (terminal : Terminal) → IsPlain (stops known number terminal)
plain-stops known number terminal = record { asks = refl; keeps = refl; sends = refl; items = refl }

plain-enquires : (known : Known) (number : ℕ) (terminal : Terminal) → IsPlain (enquires known number terminal)
plain-enquires known number terminal = record { asks = refl; keeps = refl; sends = refl; items = refl }

plain-rests : (known : Known) (number : ℕ) (terminal : Terminal) (standing : Standing) → IsPlain (terminal_becomes known number (at_rest terminal standing) [])
plain-rests known number terminal standing = record { asks = refl; keeps = refl; sends = refl; items = refl }

open-resolves : (known : Known) (number : ℕ) (terminal : Terminal) (report : Report) (entry : TheEntry) → (on_record known.kept terminal.pt.poi).opened ≡ Some entry
    → IsPlain (report_of_open known number terminal report entry) ⊎ ResolvesOpen known number terminal report (report_of_open known number terminal report entry)
open-resolves known number terminal report entry is = by-number (nat_le entry.intent.before report.trace) refl
  where
    by-number : (not_below : Bool) → nat_le entry.intent.before report.trace ≡ not_below → IsPlain (if not_below then resolves known number terminal (Ready report.trace) (outcome_reported entry report known.moment) else terminal_becomes known number (at_rest terminal (Aside entry.intent.before report.trace)) [])
        ⊎ ResolvesOpen known number terminal report (if not_below then resolves known number terminal (Ready report.trace) (outcome_reported entry report known.moment) else terminal_becomes known number (at_rest terminal (Aside entry.intent.before report.trace)) [])
    by-number true not_below = inr (record { entry = entry; opened = is; not_below = leb-true entry.intent.before report.trace not_below; row_is = refl })
    by-number false below = inl (plain-rests known number terminal (Aside entry.intent.before report.trace))

report-resolves : (known : Known) (number : ℕ) (terminal : Terminal) (report : Report) (opened : Option TheEntry) (last : ℕ) → (on_record known.kept terminal.pt.poi).opened ≡ opened
    → IsPlain (report_against opened last known number terminal report) ⊎ ResolvesOpen known number terminal report (report_against opened last known number terminal report)
report-resolves known number terminal report None last is = inl (plain-rests known number terminal _)
report-resolves known number terminal report (Some entry) last is = open-resolves known number terminal report entry is

registering-plain : (known : Known) (number : ℕ) (terminal : Terminal) (meant : Heard) → IsPlain (registering known number terminal meant)
registering-plain known number terminal (heard.Begun stop) = plain-stays known number terminal
registering-plain known number terminal (heard.Note intermediate_status) = plain-stays known number terminal
registering-plain known number terminal heard.Line = plain-stays known number terminal
registering-plain known number terminal heard.Block = plain-stays known number terminal
registering-plain known number terminal heard.Seen = plain-stays known number terminal
registering-plain known number terminal (heard.Approved figures) = plain-stays known number terminal
registering-plain known number terminal heard.Done = plain-enquires known number terminal
registering-plain known number terminal (heard.Told reported approved result_code) = plain-stays known number terminal
registering-plain known number terminal (heard.Declined result_code reported) = plain-breaks known number terminal
registering-plain known number terminal heard.Unclear = plain-breaks known number terminal
registering-plain known number terminal heard.Stray = plain-stays known number terminal

resolves-by-report : (known : Known) (number : ℕ) (terminal : Terminal) (trace : ℕ) (approved : Option Figures) (result_code : ℕ) (row : Row)
    → IsPlain row ⊎ ResolvesOpen known number terminal (record { trace = trace; approved = approved; result_code = result_code }) row
    → IsPlain row ⊎ ReportsIn known number terminal (heard.Told trace approved result_code) Enquiring row
resolves-by-report known number terminal trace approved result_code row (inl plain) = inl plain
resolves-by-report known number terminal trace approved result_code row (inr resolved) =
    inr (record { report = record { trace = trace; approved = approved; result_code = result_code }; standing_is = refl; meant_is = refl; resolved = resolved })

enquiring-resolves : (known : Known) (number : ℕ) (terminal : Terminal) (meant : Heard) → IsPlain (enquiring known number terminal meant) ⊎ ReportsIn known number terminal meant Enquiring (enquiring known number terminal meant)
enquiring-resolves known number terminal (heard.Begun stop) = inl (plain-stays known number terminal)
enquiring-resolves known number terminal (heard.Note intermediate_status) = inl (plain-stays known number terminal)
enquiring-resolves known number terminal heard.Line = inl (plain-stays known number terminal)
enquiring-resolves known number terminal heard.Block = inl (plain-stays known number terminal)
enquiring-resolves known number terminal heard.Seen = inl (plain-stays known number terminal)
enquiring-resolves known number terminal (heard.Approved figures) = inl (plain-stays known number terminal)
enquiring-resolves known number terminal heard.Done = inl (plain-stays known number terminal)
enquiring-resolves known number terminal (heard.Told trace approved result_code) =
    resolves-by-report known number terminal trace approved result_code _ (report-resolves known number terminal _ (on_record known.kept terminal.pt.poi).opened (on_record known.kept terminal.pt.poi).last refl)
enquiring-resolves known number terminal (heard.Declined result_code reported) = inl (plain-breaks known number terminal)
enquiring-resolves known number terminal heard.Unclear = inl (plain-breaks known number terminal)
enquiring-resolves known number terminal heard.Stray = inl (plain-stays known number terminal)

-- a reply to what is no payment and no reversal, where its till is there
replies-alone : (known : Known) (number : ℕ) (terminal new : Terminal) (meant : Heard) (service : Service) (last : ℕ) (asker : Option ℕ) (reply : Option ReplyValue) → terminal.asker ≡ asker → ((slot : ℕ) → service ≢ Transaction slot)
    → ((header : Header) (period : Period) → service ≡ EndOfDay header period → meant ≢ heard.Done)
    → IsPlain (terminal_becomes known number new (reply_calls_to asker reply)) ⊎ EndsOther known terminal meant (Serving service last) (terminal_becomes known number new (reply_calls_to asker reply))
replies-alone known number terminal new meant service last None reply asks other undone = inl (record { asks = refl; keeps = refl; sends = refl; items = refl })
replies-alone known number terminal new meant service last (Some till) None asks other undone = inl (record { asks = refl; keeps = refl; sends = refl; items = refl })
replies-alone known number terminal new meant service last (Some till) (Some reply) asks other undone =
    inr (inr (record { service = service; last = last; standing_is = refl; no_transaction = other; none_done = undone; till = till; asker_is = asks; reply = reply; calls_are = refl; items = refl }))

day-ends : (known : Known) (number : ℕ) (terminal : Terminal) (header : Header) (period : Period) (last : ℕ) (meant : Heard)
    → IsPlain (serving_day known number terminal last header meant) ⊎ EndsOther known terminal meant (Serving (EndOfDay header period) last) (serving_day known number terminal last header meant)
day-ends known number terminal header period last (heard.Begun true) = inl (plain-stops known number terminal)
day-ends known number terminal header period last (heard.Begun false) = inl (plain-stays known number terminal)
day-ends known number terminal header period last (heard.Note intermediate_status) = inl (plain-stays known number terminal)
day-ends known number terminal header period last heard.Line = inl (plain-stays known number terminal)
day-ends known number terminal header period last heard.Block = inl (plain-stays known number terminal)
day-ends known number terminal header period last heard.Seen = inl (plain-stays known number terminal)
day-ends known number terminal header period last (heard.Approved figures) = inl (plain-stays known number terminal)
day-ends known number terminal header period last heard.Done =
    inr (inl (record { header = header; period = period; last = last; standing_is = refl; meant_is = refl; calls_are = refl; items = refl }))
day-ends known number terminal header period last (heard.Told reported approved result_code) = inl (plain-stays known number terminal)
day-ends known number terminal header period last (heard.Declined result_code reported) =
    replies-alone known number terminal (done_with terminal (Ready last)) (heard.Declined result_code reported) (EndOfDay header period) last terminal.asker _ refl (λ slot e. cc) (λ asked of_period e done. cc)
day-ends known number terminal header period last heard.Unclear = inl (plain-breaks known number terminal)
day-ends known number terminal header period last heard.Stray = inl (plain-stays known number terminal)

display-ends : (known : Known) (number : ℕ) (terminal : Terminal) (header : Header) (results : Option (List Shown)) (last : ℕ) (meant : Heard)
    → IsPlain (serving_display known number terminal last header results meant) ⊎ EndsOther known terminal meant (Serving (Display header results) last) (serving_display known number terminal last header results meant)
display-ends known number terminal header results last (heard.Begun stop) = inl (plain-stays known number terminal)
display-ends known number terminal header results last (heard.Note intermediate_status) = inl (plain-stays known number terminal)
display-ends known number terminal header results last heard.Line = inl (plain-stays known number terminal)
display-ends known number terminal header results last heard.Block = inl (plain-stays known number terminal)
display-ends known number terminal header results last heard.Seen = inl (plain-stays known number terminal)
display-ends known number terminal header results last (heard.Approved figures) = inl (plain-stays known number terminal)
display-ends known number terminal header results last heard.Done = replies-alone known number terminal (done_with terminal (Ready last)) heard.Done (Display header results) last terminal.asker _ refl (λ slot e. cc) (λ asked of_period e done. cc)
display-ends known number terminal header results last (heard.Told reported approved result_code) = inl (plain-stays known number terminal)
display-ends known number terminal header results last (heard.Declined result_code reported) =
    replies-alone known number terminal (done_with terminal (Ready last)) (heard.Declined result_code reported) (Display header results) last terminal.asker _ refl (λ slot e. cc) (λ asked of_period e done. cc)
display-ends known number terminal header results last heard.Unclear = inl (plain-breaks known number terminal)
display-ends known number terminal header results last heard.Stray = inl (plain-stays known number terminal)

approved-resolves : (known : Known) (number : ℕ) (terminal : Terminal) (slot last : ℕ) (figures : Figures)
    → IsPlain (approved_row known number terminal slot last figures) ⊎ Resolves known number terminal slot last (heard.Approved figures) (approved_row known number terminal slot last figures)
approved-resolves known number terminal slot last figures = by-number (nat_lt last figures.number) refl
  where
    by-number : (above : Bool) → nat_lt last figures.number ≡ above → IsPlain (if above then resolves known number terminal (Ready figures.number) (approved_outcome slot figures known.moment) else terminal_becomes known number (at_rest terminal (Aside last figures.number)) [])
        ⊎ Resolves known number terminal slot last (heard.Approved figures) (if above then resolves known number terminal (Ready figures.number) (approved_outcome slot figures known.moment) else terminal_becomes known number (at_rest terminal (Aside last figures.number)) [])
    by-number true is = inr (record { after = _; outcome = approved_outcome slot figures known.moment; slot_is = refl; end_is = (refl, ltb-true last figures.number is); row_is = refl })
    by-number false is = inl (plain-rests known number terminal (Aside last figures.number))

transaction-resolves : (known : Known) (number : ℕ) (terminal : Terminal) (slot last : ℕ) (meant : Heard)
    → IsPlain (serving_transaction known number terminal slot last meant) ⊎ Resolves known number terminal slot last meant (serving_transaction known number terminal slot last meant)
transaction-resolves known number terminal slot last (heard.Begun true) = inl (plain-stops known number terminal)
transaction-resolves known number terminal slot last (heard.Begun false) = inl (plain-stays known number terminal)
transaction-resolves known number terminal slot last (heard.Note intermediate_status) = inl (plain-stays known number terminal)
transaction-resolves known number terminal slot last heard.Line = inl (plain-stays known number terminal)
transaction-resolves known number terminal slot last heard.Block = inl (plain-stays known number terminal)
transaction-resolves known number terminal slot last heard.Seen = inl (plain-stays known number terminal)
transaction-resolves known number terminal slot last (heard.Approved figures) = approved-resolves known number terminal slot last figures
transaction-resolves known number terminal slot last heard.Done = inl (plain-stays known number terminal)
transaction-resolves known number terminal slot last (heard.Told reported approved result_code) = inl (plain-stays known number terminal)
transaction-resolves known number terminal slot last (heard.Declined result_code reported) =
    inr (record { after = Ready (last_after_decline last reported); outcome = declined_outcome slot result_code (was_stopped terminal.talk) known.moment; slot_is = refl; end_is = refl; row_is = refl })
transaction-resolves known number terminal slot last heard.Unclear = inl (plain-breaks known number terminal)
transaction-resolves known number terminal slot last heard.Stray = inl (plain-stays known number terminal)

of-served : (known : Known) (number : ℕ) (terminal : Terminal) (slot last : ℕ) (meant : Heard) (row : Row)
    → IsPlain row ⊎ Resolves known number terminal slot last meant row → IsPlainOrResolved known number terminal meant (Serving (Transaction slot) last) row
of-served known number terminal slot last meant row (inl plain) = inl plain
of-served known number terminal slot last meant row (inr resolved) = inr (inl (record { slot = slot; last = last; standing_is = refl; resolved = resolved }))

of-enquired : (known : Known) (number : ℕ) (terminal : Terminal) (meant : Heard) (row : Row)
    → IsPlain row ⊎ ReportsIn known number terminal meant Enquiring row → IsPlainOrResolved known number terminal meant Enquiring row
of-enquired known number terminal meant row (inl plain) = inl plain
of-enquired known number terminal meant row (inr reports) = inr (inr (inl reports))

of-other : (known : Known) (number : ℕ) (terminal : Terminal) (meant : Heard) (standing : Standing) (row : Row)
    → IsPlain row ⊎ EndsOther known terminal meant standing row → IsPlainOrResolved known number terminal meant standing row
of-other known number terminal meant standing row (inl plain) = inl plain
of-other known number terminal meant standing row (inr ends) = inr (inr (inr ends))

consequence-resolves : (known : Known) (number : ℕ) (terminal : Terminal) (meant : Heard) (standing : Standing) → IsPlainOrResolved known number terminal meant standing (consequence known number terminal meant standing)
consequence-resolves known number terminal meant (Unlinked due) = inl (record { asks = refl; keeps = refl; sends = refl; items = refl })
consequence-resolves known number terminal meant Registering = inl (registering-plain known number terminal meant)
consequence-resolves known number terminal meant Enquiring = of-enquired known number terminal meant _ (enquiring-resolves known number terminal meant)
consequence-resolves known number terminal meant (Ready last) = inl (plain-stays known number terminal)
consequence-resolves known number terminal meant (Serving (Transaction slot) last) =
    of-served known number terminal slot last meant _ (transaction-resolves known number terminal slot last meant)
consequence-resolves known number terminal meant (Serving (EndOfDay header period) last) =
    of-other known number terminal meant _ _ (day-ends known number terminal header period last meant)
consequence-resolves known number terminal meant (Serving (Display header results) last) =
    of-other known number terminal meant _ _ (display-ends known number terminal header results last meant)
consequence-resolves known number terminal meant (Aside before reported) = inl (plain-stays known number terminal)

-- ---- the row of a message

-- what a message means that becomes a device request: it is one
device-is : (meant : Heard) (message : MessageValue) (number : ℕ) (key : Key) (request : ReplyValue) → device_request_of meant message number key ≡ Some request → is_device_request request ≡ true
device-is (heard.Begun stop) message number key request is = absurd cc
device-is (heard.Note intermediate_status) message number key request is = ap is_device_request (sym (same-some _ request is))
device-is heard.Line message number key request is = ap is_device_request (sym (same-some _ request is))
device-is heard.Block message number key request is = ap is_device_request (sym (same-some _ request is))
device-is heard.Seen message number key request is = absurd cc
device-is (heard.Approved figures) message number key request is = absurd cc
device-is heard.Done message number key request is = absurd cc
device-is (heard.Told reported approved result_code) message number key request is = absurd cc
device-is (heard.Declined result_code reported) message number key request is = absurd cc
device-is heard.Unclear message number key request is = absurd cc
device-is heard.Stray message number key request is = absurd cc

-- nothing that concerns a payment or a reversal is owed, or a till is sent what ends, or is on its way
abbrev pub IsPlainOrEnds : Known → ℕ → ApduValue → Row → Type 0
IsPlainOrEnds known number apdu row = IsPlain row ⊎ (SendsTillOf known number apdu row.calls × (row.items ≡ []))

module _ (known : Known) (number : ℕ) (apdu : ApduValue) (terminal : Terminal) (message : MessageValue) (found : terminal_at known number ≡ Some terminal) (is : decode_pt_message apdu ≡ Ok message) where
  -- what the message means for what the terminal serves
  means-served : (service : Service) (last : ℕ) (meant : Heard) → terminal.standing ≡ Serving service last → meaning_at terminal message ≡ meant → MeansServed known number apdu terminal service last meant
  means-served service last meant serves means = record { found = found; standing_is = serves; message = message; decoded = is; means = means }

  ends : (row : Row) → IsPlainOrResolved known number (taking terminal message known.moment) (meaning_at terminal message) terminal.standing row → IsPlainOrEnds known number apdu row
  ends row (inl plain) = inl plain
  ends row (inr (inl within)) =
      inr (
        inl (inl (inl (record {
          terminal = terminal;
          slot = within.slot;
          last = within.last;
          meant = meaning_at terminal message;
          means = means-served (Transaction within.slot) within.last _ within.standing_is refl;
          outcome = within.resolved.outcome;
          slot_is = within.resolved.slot_is;
          end_is = within.resolved.end_is;
          calls_are = ap (λ (r : Row). r.calls) within.resolved.row_is;
        }))),
        ap (λ (r : Row). r.items) within.resolved.row_is,
      )
  ends row (inr (inr (inl within))) =
      inr (
        inl (inl (inr (record {
          terminal = terminal;
          report = within.report;
          entry = within.resolved.entry;
          of_open = record { reports = record { found = found; standing_is = within.standing_is; message = message; decoded = is; means = within.meant_is }; opened = within.resolved.opened };
          not_below = within.resolved.not_below;
          calls_are = ap (λ (r : Row). r.calls) within.resolved.row_is;
        }))),
        ap (λ (r : Row). r.items) within.resolved.row_is,
      )
  ends row (inr (inr (inr (inl settles)))) =
      inr (
        inl (inr (record {
          terminal = terminal;
          header = settles.header;
          period = settles.period;
          last = settles.last;
          means = means-served (EndOfDay settles.header settles.period) settles.last heard.Done settles.standing_is settles.meant_is;
          calls_are = settles.calls_are;
        })),
        settles.items,
      )
  ends row (inr (inr (inr (inr replies)))) =
      inr (
        inr (inl (record {
          terminal = terminal;
          service = replies.service;
          last = replies.last;
          meant = meaning_at terminal message;
          means = means-served replies.service replies.last _ replies.standing_is refl;
          no_transaction = replies.no_transaction;
          none_done = replies.none_done;
          till = replies.till;
          asker_is = replies.asker_is;
          reply = replies.reply;
          calls_are = replies.calls_are;
        })),
        replies.items,
      )

  -- a message that becomes a device request
  requests : (at : RequestsDevice known number (taking terminal message known.moment) (meaning_at terminal message) message)
      → IsPlainOrEnds known number apdu (requests_device known number (taking terminal message known.moment) (RequestsDevice.till at) (RequestsDevice.request at))
  requests at =
      inr (
        inr (inr (record {
          terminal = terminal;
          service = at.service;
          last = at.last;
          meant = meaning_at terminal message;
          means = means-served at.service at.last _ at.standing_is refl;
          till = at.till;
          asker_is = at.asker_is;
          request = at.request;
          device = device-is (meaning_at terminal message) message known.core.device_requests at.key at.request at.request_is;
          calls_are = refl;
        })),
        refl,
      )

pub handle-resolves : (known : Known) (number : ℕ) (apdu : ApduValue) → IsPlainOrEnds known number apdu (handle_row known number apdu)
handle-resolves known number apdu =
    each-handled (IsPlainOrEnds known number apdu) known number apdu (inl (record { asks = refl; keeps = refl; sends = refl; items = refl }))
    (λ terminal message found linked is taken. ends known number apdu terminal message found is _ (consequence-resolves known number (taking terminal message known.moment) (meaning_at terminal message) terminal.standing))
    (λ terminal message found linked is taken at stays. requests known number apdu terminal message found is at)

pub apart : false ≡ true → ⊥
apart e = cc

pub each-kept-before-reply : EachTillHasItsOutcomeKept
each-kept-before-reply known number apdu sends = by-either (handle-resolves known number apdu)
  where
    by-either : IsPlainOrEnds known number apdu (handle_row known number apdu) → SendsTillOf known number apdu (handle_row known number apdu).calls
    by-either (inl plain) = absurd (apart (sym plain.sends ∙ sends))
    by-either (inr ends) = ends.0

pub none-more : (the_record : Record) (more : List Record) → [] ≡ the_record ∷ more → ⊥
none-more the_record more e = cc

-- one message to a till keeps no record
sends-alone : (calls : List OwedCall) (till : ℕ) (reply : ReplyValue) (the_record : Record) (more : List Record) → calls ≡ SendTill till reply ∷ [] → records_kept calls ≡ the_record ∷ more → ⊥
sends-alone calls till reply the_record more is kept = none-more the_record more (sym (ap records_kept is) ∙ kept)

pub each-record-of-an-end : EachRecordIsOfAnEnd
each-record-of-an-end known number apdu the_record more kept = by-either (handle-resolves known number apdu)
  where
    by-either : IsPlainOrEnds known number apdu (handle_row known number apdu) → KeepsAtEnd known number apdu (handle_row known number apdu).calls
    by-either (inl plain) = absurd (none-more the_record more (sym plain.keeps ∙ kept))
    by-either (inr (inl ends, items)) = ends
    by-either (inr (inr (inl replies), items)) = absurd (sends-alone _ replies.till replies.reply the_record more replies.calls_are kept)
    by-either (inr (inr (inr device), items)) = absurd (sends-alone _ device.till device.request the_record more device.calls_are kept)

-- ---- each end

-- the row of what is served, by what the message means
pub served-leads : (known : Known) (number : ℕ) (apdu : ApduValue) (terminal : Terminal) (service : Service) (last : ℕ) (meant : Heard) (after : Standing) (calls : List OwedCall) → (at : MeansServed known number apdu terminal service last meant)
    → meant ≢ heard.Stray → (IsShown meant → ⊥) → GoesOnTo number after calls (serving known number (taking terminal (MeansServed.message at) known.moment) service last meant) → GoesOnTo number after calls (handle_row known number apdu)
served-leads known number apdu terminal service last meant after calls at some plain leads =
    leads-by known number after calls apdu terminal at.message at.found (ap is_linked at.standing_is) at.decoded (means-taken terminal at.message meant at.means some) (λ is_shown. plain (subst IsShown at.means is_shown))
    (subst (λ (standing : Standing). GoesOnTo number after calls (consequence known number (taking terminal at.message known.moment) (meaning_at terminal at.message) standing)) (sym at.standing_is)
    (subst (λ (m : Heard). GoesOnTo number after calls (serving known number (taking terminal at.message known.moment) service last m)) (sym at.means) leads))

pub approval-is-kept : ApprovalIsKept
approval-is-kept known number apdu terminal slot last figures at above =
    served-leads known number apdu terminal (Transaction slot) last (heard.Approved figures) _ _ at (λ e. cc) (λ is_shown. is_shown)
    (subst (λ (is_above : Bool). GoesOnTo number (Ready figures.number) (outcome_calls known terminal (approved_outcome slot figures known.moment))
    (if is_above then resolves known number (taking terminal at.message known.moment) (Ready figures.number) (approved_outcome slot figures known.moment) else terminal_becomes known number (at_rest (taking terminal at.message known.moment) (Aside last figures.number)) []))
    (sym (lt-ltb last figures.number above))
    (record { terminal = _; found = new-is-there known.core.terminals number terminal _ at.found; standing_is = refl; calls_are = refl }))

pub not-above-is-aside : NotAboveIsSetAside
not-above-is-aside known number apdu terminal slot last figures at below =
    served-leads known number apdu terminal (Transaction slot) last (heard.Approved figures) _ _ at (λ e. cc) (λ is_shown. is_shown)
    (subst (λ (is_above : Bool). GoesOnTo number (Aside last figures.number) []
    (if is_above then resolves known number (taking terminal at.message known.moment) (Ready figures.number) (approved_outcome slot figures known.moment) else terminal_becomes known number (at_rest (taking terminal at.message known.moment) (Aside last figures.number)) []))
    (sym (le-ltb last figures.number below))
    (record { terminal = _; found = new-is-there known.core.terminals number terminal _ at.found; standing_is = refl; calls_are = refl }))

pub unclear-keeps-nothing : UnclearKeepsNothing
unclear-keeps-nothing known number apdu terminal slot last at =
    served-leads known number apdu terminal (Transaction slot) last heard.Unclear _ _ at (λ e. cc) (λ is_shown. is_shown)
    (record { terminal = _; found = new-is-there known.core.terminals number terminal _ at.found; standing_is = at.standing_is; calls_are = refl })

-- what declines leaves whether the terminal was stopped
not-declined : (display stop_wished : Bool) (result_code : ℕ) (reported : Option ℕ) → acknowledged display stop_wished ≡ heard.Declined result_code reported → ⊥
not-declined true stop_wished result_code reported means = cc
not-declined false stop_wished result_code reported means = cc

sent-either : (ends stop_sent : Bool) (statuses : Statuses) → was_stop_sent (if ends then phases.Ended stop_sent else phases.Begun stop_sent statuses) ≡ stop_sent
sent-either true stop_sent statuses = refl
sent-either false stop_sent statuses = refl

stop-stays : (dialogue_kind : DialogueKind) (none : ℕ) (phase : Phase) (message : MessageValue) (result_code : ℕ) (reported : Option ℕ) → meaning_in_phase dialogue_kind none phase message ≡ heard.Declined result_code reported
    → was_stop_sent (next_phase dialogue_kind phase message) ≡ was_stop_sent phase
stop-stays dialogue_kind none (phases.Asked stop_wished) Ack result_code reported means = absurd (not-declined (is_display dialogue_kind) stop_wished result_code reported means)
stop-stays dialogue_kind none (phases.Asked stop_wished) (Nack error_code) result_code reported means = refl
stop-stays dialogue_kind none (phases.Asked stop_wished) (Intermediate intermediate_status) result_code reported means = refl
stop-stays dialogue_kind none (phases.Asked stop_wished) (Line text) result_code reported means = refl
stop-stays dialogue_kind none (phases.Asked stop_wished) (Block objects) result_code reported means = refl
stop-stays dialogue_kind none (phases.Asked stop_wished) (Status fields) result_code reported means = refl
stop-stays dialogue_kind none (phases.Asked stop_wished) Completion result_code reported means = refl
stop-stays dialogue_kind none (phases.Asked stop_wished) (Abort abort_code) result_code reported means = refl
stop-stays dialogue_kind none (phases.Asked stop_wished) Other result_code reported means = refl
stop-stays dialogue_kind none (phases.Begun stop_sent statuses) message result_code reported means = sent-either (is_completion_or_abort message) stop_sent (with_status statuses message)
stop-stays dialogue_kind none (phases.Ended stop_sent) message result_code reported means = refl

pub stopped-same : (talk : Option TalkFacts) (message : MessageValue) (moment result_code : ℕ) (reported : Option ℕ) → meaning_for talk message ≡ heard.Declined result_code reported
    → was_stopped (option_map (λ t. next_talk t message (pos moment)) talk) ≡ was_stopped talk
stopped-same None message moment result_code reported means = refl
stopped-same (Some talk) message moment result_code reported means = by-taken (is_taken message)
  where
    by-taken : (taken : Bool) → was_stop_sent (if taken then record talk { phase = next_phase talk.dialogue_kind talk.phase message; deadline = pos moment +ℤ pos talk.command_time } else talk).phase ≡ was_stop_sent talk.phase
    by-taken true = stop-stays talk.dialogue_kind talk.none talk.phase message result_code reported means
    by-taken false = refl

pub decline-is-kept : DeclineIsKept
decline-is-kept known number apdu terminal slot last result_code reported at =
    served-leads known number apdu terminal (Transaction slot) last (heard.Declined result_code reported) _ _ at (λ e. cc) (λ is_shown. is_shown)
    (record {
      terminal = _;
      found = new-is-there known.core.terminals number terminal _ at.found;
      standing_is = refl;
      calls_are = ap (λ (stopped : Bool). outcome_calls known terminal (declined_outcome slot result_code stopped known.moment)) (stopped-same terminal.talk (taken_as terminal.awaited at.message) known.moment result_code reported at.means);
    })

-- ---- a report resolves what is open

-- with a trace number not below the one before, its Outcome is kept, and the terminal is ready with that number
reported-resolves : (known : Known) (number : ℕ) (apdu : ApduValue) (terminal : Terminal) (report : Report) (entry : TheEntry) (outcome : TheOutcome) → ReportsOfOpen known number apdu terminal report entry
    → entry.intent.before ≤ report.trace → outcome_reported entry report known.moment ≡ outcome → GoesOnTo number (Ready report.trace) (outcome_calls known terminal outcome) (handle_row known number apdu)
reported-resolves known number apdu terminal report entry outcome of_open not_below is =
    let taken : Terminal = taking terminal of_open.reports.message known.moment in
    reported-leads known number (Ready report.trace) (outcome_calls known terminal outcome) apdu terminal report of_open.reports
    (subst (λ (opened : Option TheEntry). GoesOnTo number (Ready report.trace) (outcome_calls known terminal outcome) (report_against opened (on_record known.kept terminal.pt.poi).last known number taken report)) (sym of_open.opened)
    (subst (λ (above : Bool). GoesOnTo number (Ready report.trace) (outcome_calls known terminal outcome)
    (if above then resolves known number taken (Ready report.trace) (outcome_reported entry report known.moment) else terminal_becomes known number (at_rest taken (Aside entry.intent.before report.trace)) []))
    (sym (le-leb entry.intent.before report.trace not_below))
    (record { terminal = _; found = new-is-there known.core.terminals number terminal _ of_open.reports.found; standing_is = refl; calls_are = ap (λ (kept : TheOutcome). outcome_calls known terminal kept) is })))

-- the Outcome that is reported, by whether the trace number is above the one before
abbrev outcome-by : TheEntry → Report → ℕ → Bool → TheOutcome
outcome-by entry report moment above = if above then outcome_as_last entry.slot report.approved report.result_code moment else refused_outcome entry.slot Aborted moment

-- that of a number above is that of the last transaction
reported-last : (known : Known) (number : ℕ) (apdu : ApduValue) (terminal : Terminal) (report : Report) (entry : TheEntry) (approved : Option Figures) → ReportsOfOpen known number apdu terminal report entry
    → entry.intent.before < report.trace → report.approved ≡ approved
    → GoesOnTo number (Ready report.trace) (outcome_calls known terminal (outcome_as_last entry.slot approved report.result_code known.moment)) (handle_row known number apdu)
reported-last known number apdu terminal report entry approved of_open above is =
    reported-resolves known number apdu terminal report entry (outcome_as_last entry.slot approved report.result_code known.moment) of_open (omega (arith, above))
    (ap (outcome-by entry report known.moment) (lt-ltb entry.intent.before report.trace above) ∙ ap (λ (a : Option Figures). outcome_as_last entry.slot a report.result_code known.moment) is)

pub reported-approval-is-kept : ReportedApprovalIsKept
reported-approval-is-kept known number apdu terminal report entry figures of_open above approved = reported-last known number apdu terminal report entry (Some figures) of_open above approved

pub reported-decline-is-kept : ReportedDeclineIsKept
reported-decline-is-kept known number apdu terminal report entry of_open above declined = reported-last known number apdu terminal report entry None of_open above declined

pub unperformed-is-aborted : UnperformedIsAborted
unperformed-is-aborted known number apdu terminal report entry of_open same =
    reported-resolves known number apdu terminal report entry (refused_outcome entry.slot Aborted known.moment) of_open (omega (arith, same))
    (ap (outcome-by entry report known.moment) (le-ltb entry.intent.before report.trace (omega (arith, same))))
