-- The few forms that a row takes: what a message of a terminal means, and what a till's message begins.
use Rattle.std.proofs.Common.{◌≡◌, ℕ, Bool, true, false, List, [], ◌∷◌, refl}
use Rattle.std.specs.Prelude.{nat_lt, nat_le, if◌then◌else◌, Option, Some, None, Ok}
use Rattle.gw_base.specs.declared.figures.Figures.{Figures}
use Rattle.zvt_apdu.specs.Grammar.{ApduValue}
use Rattle.zvt_msg.specs.Message.{MessageValue}
use Rattle.zvt_msg.specs.MessageDecode.{decode_pt_message}
use Rattle.zvt_talk.specs.Came.{is_taken}
use Rattle.zvt_talk.specs.declared.meaning.Heard.{Heard}
use Rattle.zvt_talk.specs.declared.meaning.Heard.TheVariants as heard
use Rattle.jrn_record.specs.declared.records.Outcome.{Outcome as TheOutcome}
use Rattle.jrn_record.specs.declared.records.Settled.{Settled as TheSettled}
use Rattle.gw_ledger.specs.declared.entry.Entry.{Entry as TheEntry}
use Rattle.sale_values.specs.declared.header.Header.{Header}
use Rattle.sale_values.specs.declared.request.Reference.{Reference}
use Rattle.sale_values.specs.declared.request.SaleRequest.{SaleRequest}
use Rattle.sale_values.specs.declared.request.SaleRequest.TheVariants as requests
use Rattle.sale_values.specs.Key.{key_of}
use Rattle.sale_reply.specs.declared.reply.Shown.{Shown}
use Rattle.gw_owes.specs.DeviceRequests.{requests_device}
use Rattle.gw_owes.specs.Diagnosis.{NamedTerminal, named_terminal}
use Rattle.gw_owes.specs.Displays.{display_result, serving_display}
use Rattle.gw_owes.specs.Handling.{taking, meaning_at, enquires, registering, enquiring, serving, consequence, handle_row}
use Rattle.gw_owes.specs.Core.{Wait}
use Rattle.gw_owes.specs.Items.{RoundItem, Serve, Queue}
use Rattle.gw_owes.specs.Links.{is_linked}
use Rattle.gw_owes.specs.ReadAs.{ReadAs, Request, Silent, NoMessage, NoJson}
use Rattle.gw_owes.specs.Reconciliations.{settle_calls, serving_day}
use Rattle.gw_owes.specs.Reply.{ReplyValue}
use Rattle.gw_owes.specs.Reports.{Report, on_record, standing_reported, outcome_reported, report_of_open, report_against}
use Rattle.gw_owes.specs.Requests.{abort_items, begun_at, begun_by}
use Rattle.gw_owes.specs.Row.{Known, Row, owing_nothing}
use Rattle.gw_owes.specs.Serving.{at_rest, done_with, staying, breaking, stops, resolves, approved_outcome, approved_row, serving_transaction}
use Rattle.gw_owes.specs.SessionRows.{session_result}
use Rattle.gw_owes.specs.Steps.{StepResult, KeptReply, Fails, Begins, Waits, step_result, item_of_result, items_of_result}
use Rattle.gw_owes.specs.Stops.{serves_key, stop_items_at}
use Rattle.gw_owes.specs.Terminals.{terminal_at, terminal_becomes, reply_calls_to}
use Rattle.gw_owes.specs.Transcript.{Carried, Wished, wished_of, wished_for}
use Rattle.gw_owes.specs.Waits.{waiting_with}
use Rattle.gw_owes.specs.declared.terminal.Service.{Service}
use Rattle.gw_owes.specs.declared.terminal.Service.TheVariants.{Transaction, EndOfDay, Display}
use Rattle.gw_owes.specs.declared.terminal.Standing.{Standing}
use Rattle.gw_owes.specs.declared.terminal.Standing.TheVariants.{Unlinked, Registering, Enquiring, Ready, Serving, Aside}
use Rattle.gw_owes.specs.declared.terminal.Terminal.{Terminal}
use Rattle.gw_owes.proofs.HandlingLemmas.{each-handled}

-- ---- what a message means

-- something holds of each form that the consequence of a message may have
pub record EachForm (P : Row → Type 0) (known : Known) (number : ℕ) (terminal : Terminal) : Type 0 where
  pub nothing : P (owing_nothing known)
  pub stays : P (staying known number terminal)
  pub cuts : P (breaking known number terminal)
  pub stops : P (stops known number terminal)
  pub enquires : P (enquires known number terminal)
  -- its dialogue is over, and nothing is kept
  pub rests : (standing : Standing) → is_linked standing ≡ true → P (terminal_becomes known number (at_rest terminal standing) [])
  -- what it serves has its end
  pub resolves : (standing : Standing) (outcome : TheOutcome) → is_linked standing ≡ true → P (resolves known number terminal standing outcome)
  -- its end of day is done, and settled
  pub settles : (last : ℕ) (settled : TheSettled) → P (terminal_becomes known number (done_with terminal (Ready last)) (settle_calls known.kept terminal.asker settled))
  -- its end of day is declined, or its display ends: nothing is kept, and its till gets the reply, where there is one
  pub replies : (last : ℕ) (reply : Option ReplyValue) → P (terminal_becomes known number (done_with terminal (Ready last)) (reply_calls_to terminal.asker reply))
  -- what it shows or prints is shown or printed at its till
  pub requests : (till : ℕ) (request : ReplyValue) → terminal.asker ≡ Some till → P (requests_device known number terminal till request)

module _ (P : Row → Type 0) (known : Known) (number : ℕ) (terminal : Terminal) (each : EachForm P known number terminal) where
  form-registering : (meant : Heard) → P (registering known number terminal meant)
  form-registering (heard.Begun stop) = each.stays
  form-registering (heard.Note intermediate_status) = each.stays
  form-registering heard.Line = each.stays
  form-registering heard.Block = each.stays
  form-registering heard.Seen = each.stays
  form-registering (heard.Approved figures) = each.stays
  form-registering heard.Done = each.enquires
  form-registering (heard.Told reported approved result_code) = each.stays
  form-registering (heard.Declined result_code reported) = each.cuts
  form-registering heard.Unclear = each.cuts
  form-registering heard.Stray = each.stays

  -- a report while a payment or a reversal is open
  form-of-open : (report : Report) (entry : TheEntry) → P (report_of_open known number terminal report entry)
  form-of-open report entry = by_test (nat_le entry.intent.before report.trace)
    where
      by_test : (test : Bool)
          → P (if test then resolves known number terminal (Ready report.trace) (outcome_reported entry report known.moment) else terminal_becomes known number (at_rest terminal (Aside entry.intent.before report.trace)) [])
      by_test true = each.resolves (Ready report.trace) (outcome_reported entry report known.moment) refl
      by_test false = each.rests (Aside entry.intent.before report.trace) refl

  form-report : (last : ℕ) (report : Report) (opened : Option TheEntry) → P (report_against opened last known number terminal report)
  form-report last report None = each.rests (standing_reported last report.trace) (by_test (nat_le last report.trace))
    where
      by_test : (test : Bool) → is_linked (if test then Ready report.trace else Aside last report.trace) ≡ true
      by_test true = refl
      by_test false = refl
  form-report last report (Some entry) = form-of-open report entry

  form-enquiring : (meant : Heard) → P (enquiring known number terminal meant)
  form-enquiring (heard.Begun stop) = each.stays
  form-enquiring (heard.Note intermediate_status) = each.stays
  form-enquiring heard.Line = each.stays
  form-enquiring heard.Block = each.stays
  form-enquiring heard.Seen = each.stays
  form-enquiring (heard.Approved figures) = each.stays
  form-enquiring heard.Done = each.stays
  form-enquiring (heard.Told trace approved result_code) =
      form-report (on_record known.kept terminal.pt.poi).last (record { trace = trace; approved = approved; result_code = result_code }) (on_record known.kept terminal.pt.poi).opened
  form-enquiring (heard.Declined result_code reported) = each.cuts
  form-enquiring heard.Unclear = each.cuts
  form-enquiring heard.Stray = each.stays

  form-approved : (slot last : ℕ) (figures : Figures) → P (approved_row known number terminal slot last figures)
  form-approved slot last figures = by_test (nat_lt last figures.number)
    where
      by_test : (test : Bool)
          → P (if test then resolves known number terminal (Ready figures.number) (approved_outcome slot figures known.moment) else terminal_becomes known number (at_rest terminal (Aside last figures.number)) [])
      by_test true = each.resolves (Ready figures.number) (approved_outcome slot figures known.moment) refl
      by_test false = each.rests (Aside last figures.number) refl

  form-transaction : (slot last : ℕ) (meant : Heard) → P (serving_transaction known number terminal slot last meant)
  form-transaction slot last (heard.Begun true) = each.stops
  form-transaction slot last (heard.Begun false) = each.stays
  form-transaction slot last (heard.Note intermediate_status) = each.stays
  form-transaction slot last heard.Line = each.stays
  form-transaction slot last heard.Block = each.stays
  form-transaction slot last heard.Seen = each.stays
  form-transaction slot last (heard.Approved figures) = form-approved slot last figures
  form-transaction slot last heard.Done = each.stays
  form-transaction slot last (heard.Told reported approved result_code) = each.stays
  form-transaction slot last (heard.Declined result_code reported) = each.resolves _ _ refl
  form-transaction slot last heard.Unclear = each.cuts
  form-transaction slot last heard.Stray = each.stays

  form-day : (last : ℕ) (header : Header) (meant : Heard) → P (serving_day known number terminal last header meant)
  form-day last header (heard.Begun true) = each.stops
  form-day last header (heard.Begun false) = each.stays
  form-day last header (heard.Note intermediate_status) = each.stays
  form-day last header heard.Line = each.stays
  form-day last header heard.Block = each.stays
  form-day last header heard.Seen = each.stays
  form-day last header (heard.Approved figures) = each.stays
  form-day last header heard.Done = each.settles last _
  form-day last header (heard.Told reported approved result_code) = each.stays
  form-day last header (heard.Declined result_code reported) = each.replies last _
  form-day last header heard.Unclear = each.cuts
  form-day last header heard.Stray = each.stays

  form-display : (last : ℕ) (header : Header) (results : Option (List Shown)) (meant : Heard) → P (serving_display known number terminal last header results meant)
  form-display last header results (heard.Begun stop) = each.stays
  form-display last header results (heard.Note intermediate_status) = each.stays
  form-display last header results heard.Line = each.stays
  form-display last header results heard.Block = each.stays
  form-display last header results heard.Seen = each.stays
  form-display last header results (heard.Approved figures) = each.stays
  form-display last header results heard.Done = each.replies last _
  form-display last header results (heard.Told reported approved result_code) = each.stays
  form-display last header results (heard.Declined result_code reported) = each.replies last _
  form-display last header results heard.Unclear = each.cuts
  form-display last header results heard.Stray = each.stays

  form-serving : (service : Service) (last : ℕ) (meant : Heard) → P (serving known number terminal service last meant)
  form-serving (Transaction slot) last meant = form-transaction slot last meant
  form-serving (EndOfDay header period) last meant = form-day last header meant
  form-serving (Display header results) last meant = form-display last header results meant

  pub form-consequence : (meant : Heard) (standing : Standing) → P (consequence known number terminal meant standing)
  form-consequence meant (Unlinked due) = each.nothing
  form-consequence meant Registering = form-registering meant
  form-consequence meant Enquiring = form-enquiring meant
  form-consequence meant (Ready last) = each.stays
  form-consequence meant (Serving service last) = form-serving service last meant
  form-consequence meant (Aside before reported) = each.stays

-- what holds of nothing owed, and of each form for each terminal that is linked and has taken the message, holds of what the message leaves and owes
pub form-handled : (P : Row → Type 0) (known : Known) (number : ℕ) (apdu : ApduValue) → P (owing_nothing known)
    → ((terminal : Terminal) (message : MessageValue) → terminal_at known number ≡ Some terminal → is_linked terminal.standing ≡ true → decode_pt_message apdu ≡ Ok message → is_taken message ≡ true
    → EachForm P known number (taking terminal message known.moment))
    → P (handle_row known number apdu)
form-handled P known number apdu none each =
    each-handled P known number apdu none
    (λ terminal message found linked is taken.
    form-consequence P known number (taking terminal message known.moment) (each terminal message found linked is taken) (meaning_at terminal message) terminal.standing)
    (λ terminal message found linked is taken at stays. (each terminal message found linked is taken).requests at.till at.request at.asker_is)

-- ---- what a till's message begins

-- what holds of no item, of the one with which the request is begun at a terminal, or stops what that serves, and of the one with which it joins those that wait, or takes one of them out, holds of what a message begins
module _ (P : List RoundItem → Type 0) (known : Known) (till : ℕ) (none : P []) where
  form-result : (header : Header) (request : SaleRequest) (number : ℕ) (given : StepResult) → P (Serve number till header request ∷ []) → P (Queue number till header request ∷ []) → P (item_of_result till header request number given)
  form-result header request number KeptReply serves queues = none
  form-result header request number (Fails condition) serves queues = none
  form-result header request number Begins serves queues = serves
  form-result header request number Waits serves queues = queues

  form-results : (header : Header) (request : SaleRequest) (named : Option NamedTerminal) (given : StepResult) → ((number : ℕ) → P (Serve number till header request ∷ [])) → ((number : ℕ) → P (Queue number till header request ∷ []))
      → P (items_of_result till header request named given)
  form-results header request None given serves queues = none
  form-results header request (Some named) given serves queues = form-result header request named.number given (serves named.number) (queues named.number)

  form-stop-where : (test : Bool) (item : RoundItem) → P (item ∷ []) → P (if test then item ∷ [] else [])
  form-stop-where true item some = some
  form-stop-where false item some = none

  form-stop : (header : Header) (reference : Reference) (named : Option NamedTerminal) → ((number : ℕ) → P (Serve number till header (requests.Abort reference) ∷ [])) → P (stop_items_at known till header reference named)
  form-stop header reference None some = none
  form-stop header reference (Some named) some =
      form-stop-where (serves_key known.kept (key_of header reference) named.terminal) (Serve named.number till header (requests.Abort reference)) (some named.number)

  form-abort : (header : Header) (reference : Reference) (waits : Option Wait) → ((number : ℕ) → P (Serve number till header (requests.Abort reference) ∷ [])) → ((number : ℕ) → P (Queue number till header (requests.Abort reference) ∷ []))
      → P (abort_items known till header reference waits)
  form-abort header reference None serves queues = form-stop header reference (named_terminal known.core (key_of header reference).poi) serves
  form-abort header reference (Some wait) serves queues = queues wait.pt

  form-begun-at : (named : Option NamedTerminal) (header : Header) (request : SaleRequest) → ((number : ℕ) → P (Serve number till header request ∷ [])) → ((number : ℕ) → P (Queue number till header request ∷ [])) → P (begun_at named known till header request)
  form-begun-at named header requests.Login serves queues = form-results header requests.Login named (session_result known header requests.Login named) serves queues
  form-begun-at named header requests.Logout serves queues = form-results header requests.Logout named (session_result known header requests.Logout named) serves queues
  form-begun-at named header (requests.Payment ask) serves queues = form-results header (requests.Payment ask) named (step_result known header (requests.Payment ask) named) serves queues
  form-begun-at named header (requests.Reversal ask) serves queues = form-results header (requests.Reversal ask) named (step_result known header (requests.Reversal ask) named) serves queues
  form-begun-at named header (requests.Abort reference) serves queues = form-abort header reference (waiting_with (key_of header reference) known.core.waits) serves queues
  form-begun-at named header (requests.Status reference) serves queues = none
  form-begun-at named header (requests.Reconciliation period) serves queues = form-results header (requests.Reconciliation period) named (step_result known header (requests.Reconciliation period) named) serves queues
  form-begun-at named header (requests.Display outputs) serves queues = form-results header (requests.Display outputs) named (display_result outputs named) serves queues
  form-begun-at named header (requests.Print qualifier) serves queues = none
  form-begun-at named header requests.Diagnosis serves queues = none

  pub form-begun : (as_read : ReadAs) → ((number : ℕ) (header : Header) (request : SaleRequest) → as_read ≡ Request header request → P (Serve number till header request ∷ []))
      → ((number : ℕ) (header : Header) (request : SaleRequest) → as_read ≡ Request header request → P (Queue number till header request ∷ [])) → P (begun_by known till as_read)
  form-begun (Request header request) serves queues = form-begun-at (named_terminal known.core header.poi) header request (λ number. serves number header request refl) (λ number. queues number header request refl)
  form-begun Silent serves queues = none
  form-begun (NoMessage fault) serves queues = none
  form-begun (NoJson fault) serves queues = none

-- ---- what a request wishes

-- what holds of no stop that is wished, and of one, holds of what a request wishes
pub form-wished : (P : List Carried → Type 0) (known : Known) (number : ℕ) (header : Header) (request : SaleRequest) → P [] → P (Wished ∷ []) → P (wished_for known number header request)
form-wished P known number header requests.Login none some = none
form-wished P known number header requests.Logout none some = none
form-wished P known number header (requests.Payment ask) none some = none
form-wished P known number header (requests.Reversal ask) none some = none
form-wished P known number header (requests.Abort reference) none some = by_terminal (terminal_at known number)
  where
    by_serves : (test : Bool) → P (if test then Wished ∷ [] else [])
    by_serves true = some
    by_serves false = none

    by_terminal : (terminal : Option Terminal) → P (wished_of known.kept (key_of header reference) terminal)
    by_terminal None = none
    by_terminal (Some terminal) = by_serves (serves_key known.kept (key_of header reference) terminal)
form-wished P known number header (requests.Status reference) none some = none
form-wished P known number header (requests.Reconciliation period) none some = none
form-wished P known number header (requests.Display outputs) none some = none
form-wished P known number header (requests.Print qualifier) none some = none
form-wished P known number header requests.Diagnosis none some = none
