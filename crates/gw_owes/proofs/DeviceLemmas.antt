-- Device requests: each is owed where what is served has its till and its key, and what a message means is shown or printed; no other call is one, and nothing else changes their number.
use Rattle.std.proofs.Common.{◌≡◌, ◌≢◌, ◌≤◌, ◌⊎◌, ℕ, zero, suc, ◌+◌, inl, inr, Bool, true, false, List, [], ◌∷◌, refl, sym, ◌∙◌, ap, subst, arith}
use Rattle.std.proofs.lemmas.Bool.{eq-eqb, eqb-true}
use Rattle.std.specs.Prelude.{bytes_eq, codes, nat_le, nat_lt, pos, unwrap_or, option_and_then, option_map, ◌==◌, ◌||◌, if◌then◌else◌, Option, Some, None, Result, Ok, Err}
use Rattle.gw_base.specs.declared.figures.Figures.{Figures}
use Rattle.gw_base.specs.declared.key.Key.{Key}
use Rattle.gw_site.specs.Outside.{Connection, is_connected}
use Rattle.sale_values.specs.declared.header.Header.{Header}
use Rattle.sale_values.specs.declared.request.Output.{Output}
use Rattle.sale_values.specs.declared.request.SaleRequest.{SaleRequest}
use Rattle.sale_values.specs.declared.request.SaleRequest.TheVariants as requests
use Rattle.sale_reply.specs.declared.reply.Detail.TheVariants as details
use Rattle.sale_values.specs.declared.fault.SaleFault.{SaleFault}
use Rattle.sale_values.specs.declared.fault.SaleFault.TheVariants.{NoHeader, Missing, Wrong, Unserved}
use Rattle.sale_reply.specs.declared.reply.Shown.{Shown}
use Rattle.sale_reply.specs.declared.reply.Told.{Told as ResultBody}
use Rattle.zvt_apdu.specs.Grammar.{ApduValue}
use Rattle.zvt_msg.specs.declared.fault.PtFault.{PtFault}
use Rattle.zvt_msg.specs.Message.{MessageValue}
use Rattle.zvt_msg.specs.MessageDecode.{decode_pt_message}
use Rattle.zvt_talk.specs.declared.meaning.Heard.{Heard}
use Rattle.zvt_talk.specs.declared.meaning.Heard.TheVariants as heard
use Rattle.jrn_record.specs.declared.records.How.TheVariants as hows
use Rattle.jrn_record.specs.declared.records.Settled.{Settled as TheSettled}
use Rattle.jrn_record.specs.declared.records.Outcome.{Outcome as TheOutcome}
use Rattle.jrn_record.specs.declared.records.Record.{Record}
use Rattle.gw_ledger.specs.declared.entry.Entry.{Entry as TheEntry}
use Rattle.gw_ledger.specs.declared.entry.Found.{Found}
use Rattle.gw_ledger.specs.declared.entry.Found.TheVariants.{Entry}
use Rattle.gw_ledger.specs.Slots.{entry_at}
use Rattle.gw_ledger.specs.Sums.{one_if}
use Rattle.xlate.specs.Reply.{header_of, result_body_of}
use Rattle.gw_owes.specs.declared.terminal.Service.{Service}
use Rattle.gw_owes.specs.declared.terminal.Service.TheVariants.{Transaction, EndOfDay, Display}
use Rattle.gw_owes.specs.declared.terminal.Standing.{Standing}
use Rattle.gw_owes.specs.declared.terminal.Standing.TheVariants.{Unlinked, Registering, Enquiring, Ready, Serving, Aside}
use Rattle.gw_owes.specs.declared.terminal.Terminal.{Terminal}
use Rattle.gw_owes.specs.Calls.{Sending, CutTill, LinkPt}
use Rattle.gw_owes.specs.Waits.{asks_pending}
use Rattle.gw_owes.specs.Deadlines.{is_due, is_late, due_row, late_row}
use Rattle.gw_owes.specs.DeviceLaws.{owes_device_request, MeansToTill, GoesToTill, EachShownIsRequested, IsForTill, IsShownItem, OnlyShownIsRequested, NoLinkRequests, CountsRequest, EachRequestCounts, EachLinkLeavesNumber, EachTillGoneLeavesNumber, requests_in_step, requests_along, number_after, EachRunCounts}
use Rattle.gw_owes.specs.DeviceRequests.{greatest_device_number, next_device_number, key_of_service, device_request_of, device_request_in, device_row, requests_device}
use Rattle.gw_owes.specs.Diagnosis.{NamedTerminal, diagnosis_reply, named_terminal}
use Rattle.gw_owes.specs.Displays.{display_result, reply_of_display, serving_display}
use Rattle.gw_owes.specs.Greeting.{greeting, sending_calls, greet_decoded}
use Rattle.gw_owes.specs.Handling.{meaning_at, taking, registering, enquiring, consequence, taken_row, handle_row}
use Rattle.gw_owes.specs.Items.{RoundItem, Crowded, Message, Asked, Unframed, Gone, Greet, Handle, Serve, Queue, NextWaiting, Oversized, LinkLost, Late, Overdue, Due}
use Rattle.gw_owes.specs.KeptReplies.{found_by_status, found_for, kept_reply, repeated_reply, status_reply_at}
use Rattle.gw_owes.specs.Links.{LinkEvent, LinkIsMade, LinkHasFailed, LinkIsLost, cutting, is_linked, link_row}
use Rattle.gw_owes.specs.PaymentLaws.{is_device_request}
use Rattle.gw_owes.specs.ReadAs.{ReadAs, Request, Silent, NoMessage, NoJson}
use Rattle.gw_owes.specs.Payments.{serve_row}
use Rattle.gw_owes.specs.Reconciliations.{reply_to_settled, serving_day, settle_calls, settled_of}
use Rattle.gw_owes.specs.Replies.{display_reply, format_failure, header_of_reply, malformed_output, refused_results, reply_to_fault, reply_to_malformed}
use Rattle.gw_owes.specs.Reply.{ReplyValue, Plain, Finished, Display as DisplayReply, Print, Reject}
use Rattle.gw_owes.specs.Reports.{Report, on_record, outcome_reported, report_of_open, report_against}
use Rattle.gw_owes.specs.Requests.{abort_reply, reply_at, reply_to}
use Rattle.gw_owes.specs.Row.{Known, Row, owing, owing_nothing, owing_where}
use Rattle.gw_owes.specs.Rows.{asked_row, row_of}
use Rattle.gw_owes.specs.Serving.{approved_outcome, approved_row, at_rest, breaking, reply_to_outcome, resolves, serving_transaction, staying}
use Rattle.gw_owes.specs.Steps.{StepResult, KeptReply, Fails, Begins, Waits, reply_of_result}
use Rattle.gw_owes.specs.TerminalLaws.{owes_cut}
use Rattle.gw_owes.specs.TerminalRows.{terminal_of, terminal_row}
use Rattle.gw_owes.specs.Transcript.{TerminalStep, HandlesItem, ChangesLink, ChangesWaits, StepAt, core_after, core_along, core_with_cut, known_after, known_before, known_new}
use Rattle.gw_owes.specs.Terminals.{terminal_becomes, reply_calls_to, reply_to_lost, reply_to_unfinished, registers, unlinks}
use Rattle.gw_owes.proofs.HandlingLemmas.{by-where, each-handled, each-linked, each-terminal, handled-is, means-taken}
use Rattle.gw_owes.specs.WaitingRows.{next_waiting_row, overdue_row, queue_row}
use Rattle.gw_owes.proofs.NextLemmas.{each-next, each-overdue, each-queued}
use Rattle.gw_owes.proofs.PaymentLemmas.{each-served}
use Rattle.gw_owes.proofs.SetLemmas.{new-is-there, same-some}

-- ---- exactly one

-- the row of a message that is shown or printed, while what is served has a key and its till is there
taken-requests : (known : Known) (number : ℕ) (terminal : Terminal) (meant : Heard) (message : MessageValue) (till : ℕ) (service : Service) (last : ℕ) (key : Key) (request : ReplyValue) → terminal.asker ≡ Some till
    → terminal.standing ≡ Serving service last → key_of_service known.kept service ≡ Some key → device_request_of meant message known.core.device_requests key ≡ Some request
    → taken_row known number terminal meant message ≡ requests_device known number terminal till request
taken-requests known number terminal meant message till service last key request asks serves keyed is = ap (λ (row : Option Row). unwrap_or row (consequence known number terminal meant terminal.standing)) row_is
  where
    row_is : device_row known number terminal meant message ≡ Some (requests_device known number terminal till request)
    row_is =
        ap (λ (asker : Option ℕ). option_and_then (λ to. option_map (requests_device known number terminal to) (device_request_in known terminal.standing meant message)) asker) asks
        ∙ (ap (λ (standing : Standing). option_map (requests_device known number terminal till) (device_request_in known standing meant message)) serves
        ∙ (ap (λ (of_served : Option Key). option_map (requests_device known number terminal till) (option_and_then (device_request_of meant message known.core.device_requests) of_served)) keyed
        ∙ ap (option_map (requests_device known number terminal till)) is))

goes-to-till : (known : Known) (number : ℕ) (apdu : ApduValue) (meant : Heard) (till : ℕ) (key : Key) (at : MeansToTill known number apdu meant till key) (request : ReplyValue) → meant ≢ heard.Stray
    → device_request_of meant at.means.message known.core.device_requests key ≡ Some request → GoesToTill number at.service at.last till request (handle_row known number apdu)
goes-to-till known number apdu meant till key at request some is = subst (GoesToTill number at.service at.last till request) (sym row_is) (record {
  goes_on = record { terminal = taken; found = new-is-there known.core.terminals number terminal taken at.means.found; standing_is = at.means.standing_is; calls_are = refl };
  none_more = refl;
})
  where
    terminal : Terminal
    terminal = at.terminal

    message : MessageValue
    message = at.means.message

    taken : Terminal
    taken = taking terminal message known.moment

    row_is : handle_row known number apdu ≡ requests_device known number taken till request
    row_is =
        handled-is known number apdu terminal message at.means.found (ap is_linked at.means.standing_is) at.means.decoded
        ∙ (ap (λ (b : Bool). owing_where b known (taken_row known number taken (meaning_at terminal message) message)) (means-taken terminal message meant at.means.means some)
        ∙ taken-requests known number taken (meaning_at terminal message) message till at.service at.last key request at.asker_is at.means.standing_is at.key_is
        (ap (λ (m : Heard). device_request_of m message known.core.device_requests key) at.means.means ∙ is))

pub each-shown-requested : EachShownIsRequested
each-shown-requested known number apdu till key = record {
  status = λ intermediate_status at. goes-to-till known number apdu (heard.Note intermediate_status) till key at _ (λ e. cc) refl;
  line = λ at. goes-to-till known number apdu heard.Line till key at _ (λ e. cc) refl;
  block = λ at. goes-to-till known number apdu heard.Block till key at _ (λ e. cc) refl;
}

-- ---- replies that are none

-- the reply is a device request, where there is one
abbrev is_device_reply : Option ReplyValue → Bool
is_device_reply None = false
is_device_reply (Some reply) = is_device_request reply

-- a reply that is none owes none
calls-none : (asker : Option ℕ) (reply : Option ReplyValue) → is_device_reply reply ≡ false → owes_device_request (reply_calls_to asker reply) ≡ false
calls-none None reply none = refl
calls-none (Some till) None none = refl
calls-none (Some till) (Some reply) none = ap (λ (b : Bool). b || false) none

finished-none : (header : Header) (body : Option ResultBody) → is_device_reply (option_map (Finished header) body) ≡ false
finished-none header None = refl
finished-none header (Some body) = refl

kept-none : (found : Option Found) → is_device_reply (option_and_then kept_reply found) ≡ false
kept-none None = refl
kept-none (Some found) = finished-none (header_of found) (result_body_of found)

outcome-none : (kept : List Record) (slot : ℕ) (outcome : TheOutcome) → is_device_reply (reply_to_outcome kept slot outcome) ≡ false
outcome-none kept slot outcome = by-entry (entry_at kept slot)
  where
    by-entry : (entry : Option TheEntry) → is_device_reply (option_and_then (λ (e : TheEntry). kept_reply (Entry (record e { result = Some outcome }))) entry) ≡ false
    by-entry None = refl
    by-entry (Some entry) = finished-none _ (result_body_of (Entry (record entry { result = Some outcome })))

result-none : (kept : List Record) (header : Header) (result : StepResult) → is_device_reply (reply_of_result kept header result) ≡ false
result-none kept header KeptReply = kept-none (found_for kept header)
result-none kept header (Fails condition) = refl
result-none kept header Begins = refl
result-none kept header Waits = refl

results-none : (header : Header) (results : Option (List Shown)) → is_device_reply (display_reply header results) ≡ false
results-none header None = refl
results-none header (Some results) = refl

display-none : (header : Header) (outputs : List Output) (result : StepResult) → is_device_reply (reply_of_display header outputs result) ≡ false
display-none header outputs KeptReply = refl
display-none header outputs (Fails condition) = results-none header (refused_results condition outputs)
display-none header outputs Begins = refl
display-none header outputs Waits = refl

abort-none : (is_served : Bool) (known : Known) (header : Header) → is_device_reply (abort_reply is_served known header) ≡ false
abort-none true known header = refl
abort-none false known header = refl

repeated-none : (header : Header) (found : Found) (body : Option ResultBody) → is_device_request (repeated_reply header found body) ≡ false
repeated-none header found None = refl
repeated-none header found (Some body) = refl

status-none : (header : Header) (found : Option Found) (served : Bool) → is_device_request (status_reply_at header found served) ≡ false
status-none header (Some found) served = repeated-none header found (result_body_of found)
status-none header None true = refl
status-none header None false = refl

diagnosis-none : (header : Header) (named : Option NamedTerminal) → is_device_request (diagnosis_reply header named) ≡ false
diagnosis-none header None = refl
diagnosis-none header (Some named) = refl

reply-none : (named : Option NamedTerminal) (known : Known) (header : Header) (request : SaleRequest) → is_device_reply (reply_at named known header request) ≡ false
reply-none named known header requests.Login = result-none known.kept header _
reply-none named known header requests.Logout = result-none known.kept header _
reply-none named known header (requests.Payment ask) = result-none known.kept header _
reply-none named known header (requests.Reversal ask) = result-none known.kept header _
reply-none named known header (requests.Abort reference) = abort-none _ known header
reply-none named known header (requests.Status reference) = status-none header (found_by_status known.kept header reference) (asks_pending known.core header reference)
reply-none named known header (requests.Reconciliation period) = result-none known.kept header _
reply-none named known header (requests.Display outputs) = display-none header outputs (display_result outputs named)
reply-none named known header (requests.Print qualifier) = refl
reply-none named known header requests.Diagnosis = diagnosis-none header named

malformed-none : (moment : ℕ) (header : Header) (path : List ℕ) → is_device_request (reply_to_malformed moment header path) ≡ false
malformed-none moment header path = by-tests (bytes_eq header.category (codes "Abort")) (bytes_eq header.category (codes "Display")) (bytes_eq header.category (codes "Print"))
  where
    by-tests : (abort display print : Bool) → is_device_request (if abort then Reject header.sale header.poi (pos moment) (details.Body path) else
        (if display then DisplayReply (header_of_reply header) (malformed_output path ∷ []) else
        (if print then Print (header_of_reply header) (codes "Document") (format_failure path) else
        Plain (header_of_reply header) (format_failure path)))) ≡ false
    by-tests true display print = refl
    by-tests false true print = refl
    by-tests false false true = refl
    by-tests false false false = refl

fault-none : (name : List ℕ) (moment : ℕ) (fault : SaleFault) → is_device_request (reply_to_fault name moment fault) ≡ false
fault-none name moment (NoHeader path) = refl
fault-none name moment (Missing header path) = malformed-none moment header path
fault-none name moment (Wrong header path) = malformed-none moment header path
fault-none name moment (Unserved header) = refl

read-none : (known : Known) (as_read : ReadAs) → is_device_reply (reply_to known as_read) ≡ false
read-none known (Request header request) = reply-none (named_terminal known.core header.poi) known header request
read-none known Silent = refl
read-none known (NoMessage fault) = fault-none known.setup.name known.moment fault
read-none known (NoJson fault) = refl

settled-none : (kept : List Record) (asker : Option ℕ) (settled : TheSettled) → owes_device_request (settle_calls kept asker settled) ≡ false
settled-none kept asker settled = calls-none asker (reply_to_settled kept settled) refl

-- ---- rows that owe none

-- the row owes no device request, and leaves their number
record RequestsNone (known : Known) (row : Row) : Type 0 where
  none : owes_device_request row.calls ≡ false
  same : row.core.device_requests ≡ known.core.device_requests

nothing-none : (known : Known) → RequestsNone known (owing_nothing known)
nothing-none known = record { none = refl; same = refl }

stays-none : (known : Known) (number : ℕ) (terminal : Terminal) → RequestsNone known (staying known number terminal)
stays-none known number terminal = record { none = refl; same = refl }

breaks-none : (known : Known) (number : ℕ) (terminal : Terminal) → RequestsNone known (breaking known number terminal)
breaks-none known number terminal = record { none = refl; same = refl }

replies-none : (known : Known) (number : ℕ) (new : Terminal) (asker : Option ℕ) (reply : Option ReplyValue) → is_device_reply reply ≡ false → RequestsNone known (terminal_becomes known number new (reply_calls_to asker reply))
replies-none known number new asker reply none = record { none = calls-none asker reply none; same = refl }

resolves-none : (known : Known) (number : ℕ) (terminal : Terminal) (standing : Standing) (outcome : TheOutcome) → RequestsNone known (resolves known number terminal standing outcome)
resolves-none known number terminal standing outcome = record { none = calls-none terminal.asker (reply_to_outcome known.kept outcome.slot outcome) (outcome-none known.kept outcome.slot outcome); same = refl }

rests-none : (known : Known) (number : ℕ) (terminal : Terminal) (standing : Standing) → RequestsNone known (terminal_becomes known number (at_rest terminal standing) [])
rests-none known number terminal standing = record { none = refl; same = refl }

registering-none : (known : Known) (number : ℕ) (terminal : Terminal) (meant : Heard) → RequestsNone known (registering known number terminal meant)
registering-none known number terminal (heard.Begun stop) = stays-none known number terminal
registering-none known number terminal (heard.Note intermediate_status) = stays-none known number terminal
registering-none known number terminal heard.Line = stays-none known number terminal
registering-none known number terminal heard.Block = stays-none known number terminal
registering-none known number terminal heard.Seen = stays-none known number terminal
registering-none known number terminal (heard.Approved figures) = stays-none known number terminal
registering-none known number terminal heard.Done = record { none = refl; same = refl }
registering-none known number terminal (heard.Told reported approved result_code) = stays-none known number terminal
registering-none known number terminal (heard.Declined result_code reported) = breaks-none known number terminal
registering-none known number terminal heard.Unclear = breaks-none known number terminal
registering-none known number terminal heard.Stray = stays-none known number terminal

opened-none : (known : Known) (number : ℕ) (terminal : Terminal) (report : Report) (entry : TheEntry) → RequestsNone known (report_of_open known number terminal report entry)
opened-none known number terminal report entry = by-number (nat_le entry.intent.before report.trace)
  where
    by-number : (least : Bool) → RequestsNone known (if least then resolves known number terminal (Ready report.trace) (outcome_reported entry report known.moment) else terminal_becomes known number (at_rest terminal (Aside entry.intent.before report.trace)) [])
    by-number true = resolves-none known number terminal (Ready report.trace) (outcome_reported entry report known.moment)
    by-number false = rests-none known number terminal (Aside entry.intent.before report.trace)

report-none : (known : Known) (number : ℕ) (terminal : Terminal) (opened : Option TheEntry) (last : ℕ) (report : Report) → RequestsNone known (report_against opened last known number terminal report)
report-none known number terminal None last report = rests-none known number terminal _
report-none known number terminal (Some entry) last report = opened-none known number terminal report entry

enquiring-none : (known : Known) (number : ℕ) (terminal : Terminal) (meant : Heard) → RequestsNone known (enquiring known number terminal meant)
enquiring-none known number terminal (heard.Begun stop) = stays-none known number terminal
enquiring-none known number terminal (heard.Note intermediate_status) = stays-none known number terminal
enquiring-none known number terminal heard.Line = stays-none known number terminal
enquiring-none known number terminal heard.Block = stays-none known number terminal
enquiring-none known number terminal heard.Seen = stays-none known number terminal
enquiring-none known number terminal (heard.Approved figures) = stays-none known number terminal
enquiring-none known number terminal heard.Done = stays-none known number terminal
enquiring-none known number terminal (heard.Told reported approved result_code) = report-none known number terminal (on_record known.kept terminal.pt.poi).opened (on_record known.kept terminal.pt.poi).last _
enquiring-none known number terminal (heard.Declined result_code reported) = breaks-none known number terminal
enquiring-none known number terminal heard.Unclear = breaks-none known number terminal
enquiring-none known number terminal heard.Stray = stays-none known number terminal

approved-none : (known : Known) (number : ℕ) (terminal : Terminal) (slot last : ℕ) (figures : Figures) → RequestsNone known (approved_row known number terminal slot last figures)
approved-none known number terminal slot last figures = by-number (nat_lt last figures.number)
  where
    by-number : (above : Bool) → RequestsNone known (if above then resolves known number terminal (Ready figures.number) (approved_outcome slot figures known.moment) else terminal_becomes known number (at_rest terminal (Aside last figures.number)) [])
    by-number true = resolves-none known number terminal (Ready figures.number) (approved_outcome slot figures known.moment)
    by-number false = rests-none known number terminal (Aside last figures.number)

transaction-none : (known : Known) (number : ℕ) (terminal : Terminal) (slot last : ℕ) (meant : Heard) → RequestsNone known (serving_transaction known number terminal slot last meant)
transaction-none known number terminal slot last (heard.Begun true) = record { none = refl; same = refl }
transaction-none known number terminal slot last (heard.Begun false) = stays-none known number terminal
transaction-none known number terminal slot last (heard.Note intermediate_status) = stays-none known number terminal
transaction-none known number terminal slot last heard.Line = stays-none known number terminal
transaction-none known number terminal slot last heard.Block = stays-none known number terminal
transaction-none known number terminal slot last heard.Seen = stays-none known number terminal
transaction-none known number terminal slot last (heard.Approved figures) = approved-none known number terminal slot last figures
transaction-none known number terminal slot last heard.Done = stays-none known number terminal
transaction-none known number terminal slot last (heard.Told reported approved result_code) = stays-none known number terminal
transaction-none known number terminal slot last (heard.Declined result_code reported) = resolves-none known number terminal _ _
transaction-none known number terminal slot last heard.Unclear = breaks-none known number terminal
transaction-none known number terminal slot last heard.Stray = stays-none known number terminal

day-none : (known : Known) (number : ℕ) (terminal : Terminal) (last : ℕ) (header : Header) (meant : Heard) → RequestsNone known (serving_day known number terminal last header meant)
day-none known number terminal last header (heard.Begun true) = record { none = refl; same = refl }
day-none known number terminal last header (heard.Begun false) = stays-none known number terminal
day-none known number terminal last header (heard.Note intermediate_status) = stays-none known number terminal
day-none known number terminal last header heard.Line = stays-none known number terminal
day-none known number terminal last header heard.Block = stays-none known number terminal
day-none known number terminal last header heard.Seen = stays-none known number terminal
day-none known number terminal last header (heard.Approved figures) = stays-none known number terminal
day-none known number terminal last header heard.Done = record { none = settled-none known.kept terminal.asker (settled_of hows.Acquirer header terminal.pt.currency known.moment); same = refl }
day-none known number terminal last header (heard.Told reported approved result_code) = stays-none known number terminal
day-none known number terminal last header (heard.Declined result_code reported) = replies-none known number _ terminal.asker _ refl
day-none known number terminal last header heard.Unclear = breaks-none known number terminal
day-none known number terminal last header heard.Stray = stays-none known number terminal

showing-none : (known : Known) (number : ℕ) (terminal : Terminal) (last : ℕ) (header : Header) (results : Option (List Shown)) (meant : Heard) → RequestsNone known (serving_display known number terminal last header results meant)
showing-none known number terminal last header results (heard.Begun stop) = stays-none known number terminal
showing-none known number terminal last header results (heard.Note intermediate_status) = stays-none known number terminal
showing-none known number terminal last header results heard.Line = stays-none known number terminal
showing-none known number terminal last header results heard.Block = stays-none known number terminal
showing-none known number terminal last header results heard.Seen = stays-none known number terminal
showing-none known number terminal last header results (heard.Approved figures) = stays-none known number terminal
showing-none known number terminal last header results heard.Done = replies-none known number _ terminal.asker _ (results-none header _)
showing-none known number terminal last header results (heard.Told reported approved result_code) = stays-none known number terminal
showing-none known number terminal last header results (heard.Declined result_code reported) = replies-none known number _ terminal.asker _ (results-none header _)
showing-none known number terminal last header results heard.Unclear = breaks-none known number terminal
showing-none known number terminal last header results heard.Stray = stays-none known number terminal

consequence-none : (known : Known) (number : ℕ) (terminal : Terminal) (meant : Heard) (standing : Standing) → RequestsNone known (consequence known number terminal meant standing)
consequence-none known number terminal meant (Unlinked due) = nothing-none known
consequence-none known number terminal meant Registering = registering-none known number terminal meant
consequence-none known number terminal meant Enquiring = enquiring-none known number terminal meant
consequence-none known number terminal meant (Ready last) = stays-none known number terminal
consequence-none known number terminal meant (Serving (Transaction slot) last) = transaction-none known number terminal slot last meant
consequence-none known number terminal meant (Serving (EndOfDay header period) last) = day-none known number terminal last header meant
consequence-none known number terminal meant (Serving (Display header results) last) = showing-none known number terminal last header results meant
consequence-none known number terminal meant (Aside before reported) = stays-none known number terminal

-- ---- the row of a message

-- the row owes one, for such a message
record RequestsOne (known : Known) (item : RoundItem) (row : Row) : Type 0 where
  is_item : IsShownItem known item
  one : owes_device_request row.calls ≡ true
  next : row.core.device_requests ≡ next_device_number known.core.device_requests

-- what is shown or printed becomes one, and is for the till
request-is-one : (meant : Heard) (message : MessageValue) (number : ℕ) (key : Key) (request : ReplyValue) → device_request_of meant message number key ≡ Some request → (is_device_request request ≡ true) × IsForTill meant
request-is-one (heard.Begun stop) message number key request is = absurd cc
request-is-one (heard.Note intermediate_status) message number key request is = (ap is_device_request (sym (same-some _ request is)), tt)
request-is-one heard.Line message number key request is = (ap is_device_request (sym (same-some _ request is)), tt)
request-is-one heard.Block message number key request is = (ap is_device_request (sym (same-some _ request is)), tt)
request-is-one heard.Seen message number key request is = absurd cc
request-is-one (heard.Approved figures) message number key request is = absurd cc
request-is-one heard.Done message number key request is = absurd cc
request-is-one (heard.Told reported approved result_code) message number key request is = absurd cc
request-is-one (heard.Declined result_code reported) message number key request is = absurd cc
request-is-one heard.Unclear message number key request is = absurd cc
request-is-one heard.Stray message number key request is = absurd cc

handled : (known : Known) (number : ℕ) (apdu : ApduValue) → RequestsNone known (handle_row known number apdu) ⊎ RequestsOne known (Handle number apdu) (handle_row known number apdu)
handled known number apdu =
    each-handled (λ row. RequestsNone known row ⊎ RequestsOne known (Handle number apdu) row) known number apdu (inl (nothing-none known))
    (λ terminal message found linked is taken. inl (consequence-none known number (taking terminal message known.moment) (meaning_at terminal message) terminal.standing))
    (λ terminal message found linked is taken at stays.
    let one = request-is-one (meaning_at terminal message) message known.core.device_requests at.key at.request at.request_is in
    inr (record {
      is_item = record {
        number = number;
        apdu = apdu;
        item_is = refl;
        meant = meaning_at terminal message;
        till = at.till;
        key = at.key;
        at = record {
          terminal = terminal;
          service = at.service;
          last = at.last;
          means = record { found = found; standing_is = at.standing_is; message = message; decoded = is; means = refl };
          asker_is = at.asker_is;
          key_is = at.key_is;
        };
        for_till = one.1;
      };
      one = ap (λ (b : Bool). b || false) one.0;
      next = refl;
    }))

-- ---- every other row

greet-none : (known : Known) (number : ℕ) (decoded : Result MessageValue PtFault) → RequestsNone known (greet_decoded known number decoded)
greet-none known number (Ok message) = each-linked (RequestsNone known) known number (λ terminal. owing known (sending_calls number (greeting message))) (nothing-none known) (λ terminal found linked. by-sending (greeting message))
  where
    by-sending : (sending : Option Sending) → RequestsNone known (owing known (sending_calls number sending))
    by-sending None = record { none = refl; same = refl }
    by-sending (Some sending) = record { none = refl; same = refl }
greet-none known number (Err fault) = each-linked (RequestsNone known) known number (λ terminal. cutting known number) (nothing-none known) (λ terminal found linked. record { none = refl; same = refl })

served-none : (known : Known) (number till : ℕ) (header : Header) (request : SaleRequest) → RequestsNone known (serve_row known number till header request)
served-none known number till header request = each-served (RequestsNone known) known number till header request (record {
  none = nothing-none known;
  begins = λ terminal last asking at. record { none = refl; same = refl };
  sent = λ terminal talk at may. record { none = refl; same = refl };
  wished = λ terminal talk at may. record { none = refl; same = refl };
  session = λ session. record { none = refl; same = refl };
  settles = λ terminal at. record { none = settled-none known.kept (Some till) (settled_of hows.Sale header terminal.pt.currency known.moment); same = refl };
  day = λ terminal last at. record { none = refl; same = refl };
  displays = λ terminal last outputs command at. record { none = refl; same = refl };
})

queue-none : (known : Known) (number till : ℕ) (header : Header) (request : SaleRequest) → RequestsNone known (queue_row known number till header request)
queue-none known number till header request = each-queued (RequestsNone known) known number till header request (record {
  none = nothing-none known;
  joins = λ terminal key at. record { none = refl; same = refl };
  taken = λ wait at. record { none = refl; same = refl };
})

overdue-none : (known : Known) (key : Key) → RequestsNone known (overdue_row known key)
overdue-none known key = each-overdue (RequestsNone known) known key (record { none = nothing-none known; taken = λ wait waits overdue. record { none = refl; same = refl } })

next-none : (known : Known) (number : ℕ) → RequestsNone known (next_waiting_row known number)
next-none known number = each-next (RequestsNone known) known number (record {
  none = nothing-none known;
  refused = λ terminal last wait condition first is. record { none = refl; same = refl };
  begins = λ terminal last wait asking at. record { none = refl; same = refl };
  day = λ terminal last wait at. record { none = refl; same = refl };
  left = λ terminal last wait first. record { none = refl; same = refl };
})

service-reply-none : (service : Service) → is_device_reply (reply_to_unfinished service) ≡ false
service-reply-none (Transaction slot) = refl
service-reply-none (EndOfDay header period) = refl
service-reply-none (Display header results) = results-none header results

lost-reply-none : (standing : Standing) → is_device_reply (reply_to_lost standing) ≡ false
lost-reply-none (Unlinked due) = refl
lost-reply-none Registering = refl
lost-reply-none Enquiring = refl
lost-reply-none (Ready last) = refl
lost-reply-none (Serving service last) = service-reply-none service
lost-reply-none (Aside before reported) = refl

lost-none : (known : Known) (number : ℕ) → RequestsNone known (link_row known number LinkIsLost)
lost-none known number =
    each-terminal (RequestsNone known) known number (unlinks known number) (nothing-none known) (λ terminal found. replies-none known number _ terminal.asker (reply_to_lost terminal.standing) (lost-reply-none terminal.standing))

link-none : (known : Known) (number : ℕ) (event : LinkEvent) → RequestsNone known (link_row known number event)
link-none known number LinkIsMade = each-terminal (RequestsNone known) known number (registers known number) (nothing-none known) (λ terminal found. record { none = refl; same = refl })
link-none known number LinkHasFailed = lost-none known number
link-none known number LinkIsLost = lost-none known number

late-none : (known : Known) (number : ℕ) → RequestsNone known (late_row known number)
late-none known number =
    each-terminal (RequestsNone known) known number (λ terminal. owing_where (is_late known.moment terminal.talk) known (cutting known number)) (nothing-none known)
    (λ terminal found. by-where (RequestsNone known) known (cutting known number) (is_late known.moment terminal.talk) (nothing-none known) (λ late. record { none = refl; same = refl }))

due-none : (known : Known) (number : ℕ) → RequestsNone known (due_row known number)
due-none known number =
    each-terminal (RequestsNone known) known number (λ terminal. owing_where (is_due known.moment terminal.standing) known (owing known (LinkPt number ∷ []))) (nothing-none known)
    (λ terminal found. by-where (RequestsNone known) known (owing known (LinkPt number ∷ [])) (is_due known.moment terminal.standing) (nothing-none known) (λ due. record { none = refl; same = refl }))

row-requests : (tills : List Connection) (known : Known) (item : RoundItem) → RequestsNone known (row_of tills known item) ⊎ RequestsOne known item (row_of tills known item)
row-requests tills known (Crowded till) = inl (record { none = refl; same = refl })
row-requests tills known (Message till bytes) = inl (nothing-none known)
row-requests tills known (Asked till as_read) =
    inl (by-where (RequestsNone known) known (asked_row known till as_read) (is_connected tills till) (nothing-none known) (λ there. record { none = calls-none (Some till) (reply_to known as_read) (read-none known as_read); same = refl }))
row-requests tills known (Unframed till) = inl (by-where (RequestsNone known) known (owing known (CutTill till ∷ [])) (is_connected tills till) (nothing-none known) (λ there. record { none = refl; same = refl }))
row-requests tills known (Gone till) = inl (record { none = refl; same = refl })
row-requests tills known (Greet number apdu) = inl (greet-none known number (decode_pt_message apdu))
row-requests tills known (Handle number apdu) = handled known number apdu
row-requests tills known (Serve number till header request) = inl (served-none known number till header request)
row-requests tills known (Queue number till header request) = inl (queue-none known number till header request)
row-requests tills known (NextWaiting number) = inl (next-none known number)
row-requests tills known (Oversized number) = inl (each-linked (RequestsNone known) known number (λ terminal. cutting known number) (nothing-none known) (λ terminal found linked. record { none = refl; same = refl }))
row-requests tills known (LinkLost number) = inl (lost-none known number)
row-requests tills known (Late number) = inl (late-none known number)
row-requests tills known (Overdue key) = inl (overdue-none known key)
row-requests tills known (Due number) = inl (due-none known number)

-- ---- the laws

pub only-shown-requested : OnlyShownIsRequested
only-shown-requested tills known item owes = by-either (row-requests tills known item)
  where
    by-either : RequestsNone known (row_of tills known item) ⊎ RequestsOne known item (row_of tills known item) → IsShownItem known item
    by-either (inl none) = let e : false ≡ true = sym none.none ∙ owes in absurd cc
    by-either (inr one) = one.is_item

pub no-link-requests : NoLinkRequests
no-link-requests known number event = (link-none known number event).none

pub each-link-leaves-number : EachLinkLeavesNumber
each-link-leaves-number known number event = (link-none known number event).same

-- the number after one
next-below : (greatest number : ℕ) → number ≢ greatest → (if number == greatest then 0 else number + 1) ≡ number + 1
next-below greatest number apart = by-test (number == greatest) refl
  where
    by-test : (test : Bool) → (number == greatest) ≡ test → (if test then 0 else number + 1) ≡ number + 1
    by-test true is = absurd (apart (eqb-true number greatest is))
    by-test false is = refl

next-at : (greatest number : ℕ) → number ≡ greatest → (if number == greatest then 0 else number + 1) ≡ 0
next-at greatest number same = ap (λ (b : Bool). if b then 0 else number + 1) (eq-eqb number greatest same)

pub each-request-counts : EachRequestCounts
each-request-counts tills known item = by-either (row-requests tills known item)
  where
    row : Row
    row = row_of tills known item

    by-either : RequestsNone known row ⊎ RequestsOne known item row → CountsRequest known.core.device_requests row.core.device_requests (owes_device_request row.calls)
    by-either (inl none) = record {
      one_more_is = λ owes apart. let e : false ≡ true = sym none.none ∙ owes in absurd cc;
      begins_anew = λ owes same. let e : false ≡ true = sym none.none ∙ owes in absurd cc;
      stays = λ owes. none.same;
    }
    by-either (inr one) = record {
      one_more_is = λ owes apart. one.next ∙ next-below greatest_device_number known.core.device_requests apart;
      begins_anew = λ owes same. one.next ∙ next-at greatest_device_number known.core.device_requests same;
      stays = λ owes. let e : true ≡ false = sym one.one ∙ owes in absurd cc;
    }

-- ---- along a run

terminal-requests : (known : Known) (item : RoundItem) → RequestsNone known (terminal_row known item) ⊎ RequestsOne known item (terminal_row known item)
terminal-requests known (Crowded till) = inl (nothing-none known)
terminal-requests known (Message till bytes) = inl (nothing-none known)
terminal-requests known (Asked till as_read) = inl (nothing-none known)
terminal-requests known (Unframed till) = inl (nothing-none known)
terminal-requests known (Gone till) = inl (nothing-none known)
terminal-requests known (Greet number apdu) = row-requests [] known (Greet number apdu)
terminal-requests known (Handle number apdu) = row-requests [] known (Handle number apdu)
terminal-requests known (Serve number till header request) = row-requests [] known (Serve number till header request)
terminal-requests known (Queue number till header request) = inl (nothing-none known)
terminal-requests known (NextWaiting number) = row-requests [] known (NextWaiting number)
terminal-requests known (Oversized number) = row-requests [] known (Oversized number)
terminal-requests known (LinkLost number) = row-requests [] known (LinkLost number)
terminal-requests known (Late number) = row-requests [] known (Late number)
terminal-requests known (Overdue key) = inl (nothing-none known)
terminal-requests known (Due number) = row-requests [] known (Due number)

-- a cut leaves the number
cut-leaves : (known : Known) (row : Row) (number : Option ℕ) → (core_with_cut known row number).device_requests ≡ row.core.device_requests
cut-leaves known row None = refl
cut-leaves known row (Some number) = by-cut (owes_cut row.calls)
  where
    by-cut : (cuts : Bool) → (if cuts then (link_row (record known { core = row.core }) number LinkIsLost).core else row.core).device_requests ≡ row.core.device_requests
    by-cut true = each-link-leaves-number (record known { core = row.core }) number LinkIsLost
    by-cut false = refl

-- the number after a step
step-counts : (known : Known) (step : TerminalStep) → (core_after known step).device_requests ≡ number_after (one_if (requests_in_step known step)) known.core.device_requests
step-counts known (HandlesItem item) = cut-leaves known (terminal_row known item) (terminal_of item) ∙ by-either (terminal-requests known item)
  where
    row : Row
    row = terminal_row known item

    by-either : RequestsNone known row ⊎ RequestsOne known item row → row.core.device_requests ≡ number_after (one_if (owes_device_request row.calls)) known.core.device_requests
    by-either (inl none) = none.same ∙ ap (λ (owes : Bool). number_after (one_if owes) known.core.device_requests) (sym none.none)
    by-either (inr one) = one.next ∙ ap (λ (owes : Bool). number_after (one_if owes) known.core.device_requests) (sym one.one)
step-counts known (ChangesLink number event) = each-link-leaves-number known number event
step-counts known (ChangesWaits waits) = refl

number-after-both : (owes : Bool) (more number : ℕ) → number_after more (number_after (one_if owes) number) ≡ number_after (one_if owes + more) number
number-after-both true more number = let same : suc more ≡ 1 + more = omega arith in ap (λ (owed : ℕ). number_after owed number) same
number-after-both false more number = let same : more ≡ 0 + more = omega arith in ap (λ (owed : ℕ). number_after owed number) same

steps-count : (known : Known) (steps : List StepAt) → (core_along known steps).device_requests ≡ number_after (requests_along known steps) known.core.device_requests
steps-count known [] = refl
steps-count known (first ∷ rest) =
    let before : Known = known_before known first in
    let more : ℕ = requests_along (known_after known first) rest in
    steps-count (known_after known first) rest
    ∙ (ap (number_after more) (step-counts before first.step) ∙ number-after-both (requests_in_step before first.step) more known.core.device_requests)

-- as long as they aren't more than the greatest
counts-on : (greatest : ℕ) (next : ℕ → ℕ) → ((number : ℕ) → number ≢ greatest → next number ≡ number + 1) → (after : ℕ → ℕ → ℕ) → ((number : ℕ) → after zero number ≡ number)
    → ((more number : ℕ) → after (suc more) number ≡ after more (next number)) → (more number : ℕ) → number + more ≤ greatest → after more number ≡ number + more
counts-on greatest next below after none one zero number fits = none number ∙ arith-zero number
  where
    arith-zero : (n : ℕ) → n ≡ n + zero
    arith-zero n = omega arith
counts-on greatest next below after none one (suc more) number fits =
    let apart : number ≢ greatest = λ same. omega (arith, fits, same) in
    one more number ∙ (ap (after more) (below number apart) ∙ (counts-on greatest next below after none one more (number + 1) (omega (arith, fits)) ∙ moved number more))
  where
    moved : (n m : ℕ) → n + 1 + m ≡ n + suc m
    moved n m = omega arith

from-zero : (greatest owed : ℕ) → ((owed_then : ℕ) → 0 + owed_then ≤ greatest → number_after owed_then 0 ≡ 0 + owed_then) → owed ≤ greatest → number_after owed 0 ≡ owed
from-zero greatest owed counted few = let same : 0 + owed ≡ owed = omega arith in counted owed (subst (λ (n : ℕ). n ≤ greatest) (sym same) few) ∙ same

pub each-run-counts : EachRunCounts
each-run-counts setup kept steps = record {
  after = steps-count (known_new setup kept) steps;
  few = λ few.
      steps-count (known_new setup kept) steps
      ∙ from-zero greatest_device_number (requests_along (known_new setup kept) steps)
      (λ owed. counts-on greatest_device_number next_device_number (λ number apart. next-below greatest_device_number number apart) number_after (λ number. refl) (λ more number. refl) owed 0) few;
}

pub each-till-gone-leaves-number : EachTillGoneLeavesNumber
each-till-gone-leaves-number core till = refl
