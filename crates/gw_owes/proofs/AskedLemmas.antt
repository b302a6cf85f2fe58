-- What a till asks: what is accepted begins, an Abort stops what is served, and a repeated request begins nothing.
use Rattle.std.proofs.Common.{◌≡◌, ◌⊎◌, ℕ, [], ◌∷◌, refl, sym, ◌∙◌, ap, subst, inl, inr, Bool, true, false}
use Rattle.std.specs.Prelude.{not, List, Option, Some, None, Result, Ok, Err, ◌&&◌, ◌||◌, is_some, option_and_then, if◌then◌else◌}
use Rattle.std.proofs.lemmas.Bool.{or_from, or_right}
use Rattle.gw_base.specs.declared.condition.Condition.TheVariants.{Busy, NotAllowed, UnavailableDevice, UnavailableService}
use Rattle.gw_base.specs.declared.key.Key.{Key}
use Rattle.gw_site.specs.Outside.{is_connected}
use Rattle.sale_values.specs.declared.header.Header.{Header}
use Rattle.sale_values.specs.declared.names.Period.{Period}
use Rattle.sale_values.specs.declared.request.Output.{Output}
use Rattle.sale_values.specs.declared.request.SaleRequest.{SaleRequest}
use Rattle.sale_values.specs.declared.request.SaleRequest.TheVariants as requests
use Rattle.zvt_apdu.specs.Grammar.{ApduValue}
use Rattle.zvt_msg.specs.declared.fault.PtFault.{PtFault}
use Rattle.zvt_msg.specs.Message.{MessageValue}
use Rattle.zvt_msg.specs.MessageDecode.{decode_pt_message}
use Rattle.jrn_record.specs.declared.records.Outcome.{Outcome as TheOutcome}
use Rattle.gw_ledger.specs.declared.entry.Found.{Found}
use Rattle.gw_owes.specs.Calls.{LinkPt, CutTill}
use Rattle.gw_owes.specs.Core.{Wait}
use Rattle.gw_owes.specs.Days.{asks_day, is_day_key, named_serves_day, serves_day}
use Rattle.gw_owes.specs.Deadlines.{is_late, is_due}
use Rattle.gw_owes.specs.Diagnosis.{NamedTerminal, named_terminal}
use Rattle.gw_owes.specs.Displays.{display_result, reply_of_display}
use Rattle.gw_owes.specs.Greeting.{greeting, sending_calls, greet_decoded}
use Rattle.gw_owes.specs.Handling.{handle_row}
use Rattle.gw_owes.specs.Items.{Crowded, Message, Asked, Unframed, Gone, Greet, Handle, Serve, Queue, NextWaiting, Oversized, LinkLost, Late, Overdue, Due}
use Rattle.gw_owes.specs.KeptReplies.{found_for, is_open_found, is_open_key}
use Rattle.gw_owes.specs.Links.{cutting}
use Rattle.gw_owes.specs.ReadAs.{ReadAs, Request, Silent, NoMessage, NoJson}
use Rattle.gw_owes.specs.Requests.{abort_items, begun_by, reply_to, abort_reply}
use Rattle.gw_owes.specs.Row.{Known, Row, owing, owing_where}
use Rattle.gw_owes.specs.Rows.{row_of, asked_row}
use Rattle.gw_owes.specs.Sessions.{is_one_too_many, is_session}
use Rattle.gw_owes.specs.SessionRows.{session_result}
use Rattle.gw_owes.specs.Steps.{StepResult, KeptReply, Fails, Begins, Waits, is_beginning, is_waiting_result, is_unavailable, is_ready, step_result, reply_of_result, items_of_result, service_items}
use Rattle.gw_owes.specs.Terminals.{unlinks, reply_calls_to}
use Rattle.gw_owes.specs.WaitingRows.{next_waiting_row}
use Rattle.gw_owes.specs.Waits.{is_pending_key, repeats_waiting, waiting_for, waiting_with}
use Rattle.gw_owes.specs.PaymentLaws.{BeginsThere, EachAcceptedBegins, RepeatBeginsNothing, AsksNoTerminal, EachAskedSendsNoTerminal, BeginsSomething, LooksAtNext, OnlyAskedBegins, EachAskedBegins, KeyOfDayIsNotAllowed, is_transaction_request}
use Rattle.gw_owes.proofs.HandlingLemmas.{by-where, each-terminal, each-linked}
use Rattle.gw_owes.proofs.NextLemmas.{each-next, each-overdue, each-queued}
use Rattle.gw_owes.proofs.PaymentLemmas.{each-served, passes-steps, waits-steps}
use Rattle.sale_values.specs.declared.request.Reference.{Reference}
use Rattle.sale_values.specs.Key.{key_of}
use Rattle.gw_ledger.specs.declared.entry.Entry.{Entry as TheEntry}
use Rattle.gw_ledger.specs.Fold.{found_of}
use Rattle.xlate.specs.Display.{show}
use Rattle.xlate.specs.Reply.{outcome_body}
use Rattle.gw_owes.specs.declared.terminal.Standing.{Standing}
use Rattle.gw_owes.specs.StepLaws.{has_steps}
use Rattle.gw_owes.specs.Stops.{serves_any, serves_entry, serves_key, stop_items_at}
use Rattle.gw_owes.proofs.PaymentLawLemmas.{IsPlainOrEnds, reply-sends, reply-keeps, handle-resolves, apart}
use Rattle.gw_owes.proofs.StepLemmas.{each-service-has-steps, pending-otherwise-result}

-- ---- what is accepted begins

-- what a request with steps begins is what the steps say
steps-begin : (known : Known) (till : ℕ) (header : Header) (request : SaleRequest) → has_steps request ≡ true
    → begun_by known till (Request header request) ≡ service_items known till header request (named_terminal known.core header.poi)
steps-begin known till header requests.Login steps = absurd cc
steps-begin known till header requests.Logout steps = absurd cc
steps-begin known till header (requests.Payment payment) steps = refl
steps-begin known till header (requests.Reversal reversal) steps = refl
steps-begin known till header (requests.Abort reference) steps = absurd cc
steps-begin known till header (requests.Status reference) steps = absurd cc
steps-begin known till header (requests.Reconciliation period) steps = refl
steps-begin known till header (requests.Display outputs) steps = absurd cc
steps-begin known till header (requests.Print qualifier) steps = absurd cc
steps-begin known till header requests.Diagnosis steps = absurd cc

pub each-accepted-begins : EachAcceptedBegins
each-accepted-begins tills known till header request named there named_is steps accepted =
    subst (λ (holds : Bool). BeginsThere till header request named.number (owing_where holds known (asked_row known till (Request header request)))) (sym there)
    (record { items_are = items; no_reply = ap (reply_calls_to (Some till)) reply })
  where
    items : begun_by known till (Request header request) ≡ Serve named.number till header request ∷ []
    items =
        steps-begin known till header request steps ∙ ap (λ (found : Option NamedTerminal). items_of_result till header request found (step_result known header request found)) named_is
        ∙ ap (λ (result : StepResult). items_of_result till header request (Some named) result) accepted

    reply : reply_to known (Request header request) ≡ None
    reply =
        each-service-has-steps known header request steps ∙ ap (λ (found : Option NamedTerminal). reply_of_result known.kept header (step_result known header request found)) named_is
        ∙ ap (λ (result : StepResult). reply_of_result known.kept header result) accepted

-- ---- what a till asks

pub asked-sends-none : EachAskedSendsNoTerminal
asked-sends-none tills known till as_read =
    by-where (λ (row : Row). AsksNoTerminal row.calls) known (asked_row known till as_read) (is_connected tills till) (record { sends_none = refl; keeps_none = refl })
    (λ there. record { sends_none = reply-sends (Some till) (reply_to known as_read); keeps_none = reply-keeps (Some till) (reply_to known as_read) })

-- a payment and a reversal have steps
transaction-steps : (request : SaleRequest) → is_transaction_request request ≡ true → has_steps request ≡ true
transaction-steps requests.Login is = absurd cc
transaction-steps requests.Logout is = absurd cc
transaction-steps (requests.Payment payment) is = refl
transaction-steps (requests.Reversal reversal) is = refl
transaction-steps (requests.Abort reference) is = absurd cc
transaction-steps (requests.Status reference) is = absurd cc
transaction-steps (requests.Reconciliation period) is = absurd cc
transaction-steps (requests.Display outputs) is = absurd cc
transaction-steps (requests.Print qualifier) is = absurd cc
transaction-steps requests.Diagnosis is = absurd cc

-- a request waits for the terminal that its POIID names
record WaitsRequest (known : Known) (till : ℕ) (header : Header) (request : SaleRequest) (row : Row) : Type 0 where
  pub unknown : found_for known.kept header ≡ None
  pub named : NamedTerminal
  pub named_is : named_terminal known.core header.poi ≡ Some named
  pub not_pending : is_pending_key known.core header (Some named) ≡ false
  pub waits : step_result known header request (Some named) ≡ Waits
  pub items_are : row.items ≡ Queue named.number till header request ∷ []
  pub no_reply : row.calls ≡ []

-- a request begins at the terminal that its POIID names
record BeginsRequest (known : Known) (till : ℕ) (header : Header) (request : SaleRequest) (row : Row) : Type 0 where
  pub unknown : found_for known.kept header ≡ None
  pub named : NamedTerminal
  pub named_is : named_terminal known.core header.poi ≡ Some named
  pub not_pending : is_pending_key known.core header (Some named) ≡ false
  pub items_are : row.items ≡ Serve named.number till header request ∷ []
  pub no_reply : row.calls ≡ []

-- the row of a request, by the terminal that is named and what the steps say
abbrev row-by : Known → ℕ → Header → SaleRequest → Option NamedTerminal → StepResult → Row
row-by known till header request named result =
    record { core = known.core; calls = reply_calls_to (Some till) (reply_of_result known.kept header result); items = items_of_result till header request named result }

begins-by : (known : Known) (till : ℕ) (header : Header) (request : SaleRequest) (named : Option NamedTerminal) (result : StepResult) → named_terminal known.core header.poi ≡ named → step_result known header request named ≡ result
    → ((row-by known till header request named result).items ≡ [])
    ⊎ (BeginsRequest known till header request (row-by known till header request named result) ⊎ WaitsRequest known till header request (row-by known till header request named result))
begins-by known till header request None result named_is is = inl refl
begins-by known till header request (Some named) KeptReply named_is is = inl refl
begins-by known till header request (Some named) (Fails condition) named_is is = inl refl
begins-by known till header request (Some named) Begins named_is is =
    let passed = passes-steps known header request (Some named) (ap is_beginning is) in
    inr (inl (record { unknown = passed.unknown; named = named; named_is = named_is; not_pending = passed.not_pending; items_are = refl; no_reply = refl }))
begins-by known till header request (Some named) Waits named_is is =
    let passed = waits-steps known header request (Some named) (ap is_waiting_result is) in
    inr (inr (record { unknown = passed.unknown; named = named; named_is = named_is; not_pending = passed.not_pending; waits = is; items_are = refl; no_reply = refl }))

-- what a message of a till begins, also to stop another
abbrev BeginsOrStops : Known → ℕ → ReadAs → Row → Type 0
BeginsOrStops known till as_read row = (row.items ≡ []) ⊎ BeginsSomething known till as_read row

queues-by : (known : Known) (till : ℕ) (header : Header) (request : SaleRequest) (row : Row) → has_steps request ≡ true → WaitsRequest known till header request row → BeginsOrStops known till (Request header request) row
queues-by known till header request row steps waits = inr (inr (inr (inr (inr (inr (inl (record {
  header = header;
  request = request;
  request_is = refl;
  steps = steps;
  unknown = waits.unknown;
  named = waits.named;
  named_is = waits.named_is;
  not_pending = waits.not_pending;
  waits = waits.waits;
  items_are = waits.items_are;
  no_reply = waits.no_reply;
})))))))

transaction-only : (known : Known) (till : ℕ) (header : Header) (request : SaleRequest) (row : Row) → is_transaction_request request ≡ true → (row.items ≡ []) ⊎ (BeginsRequest known till header request row ⊎ WaitsRequest known till header request row)
    → BeginsOrStops known till (Request header request) row
transaction-only known till header request row transaction (inl none) = inl none
transaction-only known till header request row transaction (inr (inr waits)) = queues-by known till header request row (transaction-steps request transaction) waits
transaction-only known till header request row transaction (inr (inl begins)) = inr (inl (record {
  header = header;
  request = request;
  request_is = refl;
  transaction = transaction;
  unknown = begins.unknown;
  named = begins.named;
  named_is = begins.named_is;
  not_pending = begins.not_pending;
  items_are = begins.items_are;
  no_reply = begins.no_reply;
}))

reconciles-by : (known : Known) (till : ℕ) (header : Header) (period : Period) (row : Row) → (row.items ≡ []) ⊎ (BeginsRequest known till header (requests.Reconciliation period) row ⊎ WaitsRequest known till header (requests.Reconciliation period) row)
    → BeginsOrStops known till (Request header (requests.Reconciliation period)) row
reconciles-by known till header period row (inl none) = inl none
reconciles-by known till header period row (inr (inr waits)) = queues-by known till header (requests.Reconciliation period) row refl waits
reconciles-by known till header period row (inr (inl begins)) = inr (inr (inr (inr (inl (record {
  header = header;
  period = period;
  request_is = refl;
  unknown = begins.unknown;
  named = begins.named;
  named_is = begins.named_is;
  not_pending = begins.not_pending;
  items_are = begins.items_are;
  no_reply = begins.no_reply;
})))))

-- ---- a Display

-- the row of a Display, by the terminal that is named and what its steps say
abbrev display-row-by : Known → ℕ → Header → List Output → Option NamedTerminal → StepResult → Row
display-row-by known till header outputs named result =
    record { core = known.core; calls = reply_calls_to (Some till) (reply_of_display header outputs result); items = items_of_result till header (requests.Display outputs) named result }

-- a Display doesn't wait
shown-waits-not : (unnamed none unavailable ready : Bool)
    → is_waiting_result (if unnamed then Fails UnavailableDevice else (if none then Fails UnavailableDevice else (if unavailable then Fails UnavailableDevice else (if ready then Begins else Fails Busy)))) ≡ false
shown-waits-not true none unavailable ready = refl
shown-waits-not false true unavailable ready = refl
shown-waits-not false false true ready = refl
shown-waits-not false false false true = refl
shown-waits-not false false false false = refl

shows-by : (known : Known) (till : ℕ) (header : Header) (outputs : List Output) (named : Option NamedTerminal) (result : StepResult) → is_waiting_result result ≡ false → named_terminal known.core header.poi ≡ named
    → BeginsOrStops known till (Request header (requests.Display outputs)) (display-row-by known till header outputs named result)
shows-by known till header outputs None result waits named_is = inl refl
shows-by known till header outputs (Some named) KeptReply waits named_is = inl refl
shows-by known till header outputs (Some named) (Fails condition) waits named_is = inl refl
shows-by known till header outputs (Some named) Waits waits named_is = absurd (apart (sym waits))
shows-by known till header outputs (Some named) Begins waits named_is =
    inr (inr (inr (inr (inr (inl (record { header = header; outputs = outputs; request_is = refl; named = named; named_is = named_is; items_are = refl; no_reply = refl }))))))

-- ---- an Abort

-- what is open has no reply yet
unresolved-open : (entry : TheEntry) (result : Option TheOutcome) (serves : Bool) → (not (is_some result) && serves) ≡ true → not (is_some (option_and_then (outcome_body entry) result)) ≡ true
unresolved-open entry None serves is = refl
unresolved-open entry (Some outcome) serves is = absurd cc

served-open : (standing : Standing) (found : Option Found) → serves_any standing found ≡ true → is_open_found found ≡ true
served-open standing None serves = absurd cc
served-open standing (Some (Found.Entry entry)) serves = unresolved-open entry entry.result (serves_entry entry standing) serves
served-open standing (Some (Found.Closed closed)) serves = absurd cc

-- what serves a key is open, or is an end of day that is served, so that it is pending
serving-aborts : (standing : Standing) (found : Option Found) (key : Key) (waits : Bool) → (serves_any standing found || serves_day key standing) ≡ true → (is_open_found found || (serves_day key standing || waits)) ≡ true
serving-aborts standing found key waits serves = by-either (serves_any standing found) refl serves
  where
    by-either : (any : Bool) → serves_any standing found ≡ any → (any || serves_day key standing) ≡ true → (is_open_found found || (serves_day key standing || waits)) ≡ true
    by-either true any is = ap (λ (b : Bool). b || (serves_day key standing || waits)) (served-open standing found any)
    by-either false any is = or_right (is_open_found found) (serves_day key standing || waits) (ap (λ (b : Bool). b || waits) is)

-- the row of an Abort of a key that doesn't wait, whether the terminal of this number serves the key, and whether the key is open or pending
abbrev abort-row : Known → ℕ → Header → Reference → Bool → Bool → ℕ → Row
abort-row known till header reference open_key serves number =
    record { core = known.core; calls = reply_calls_to (Some till) (abort_reply open_key known header); items = if serves then Serve number till header (requests.Abort reference) ∷ [] else [] }

stops-served : (known : Known) (till : ℕ) (header : Header) (reference : Reference) (named : NamedTerminal) (open_key serves : Bool) → waiting_with (key_of header reference) known.core.waits ≡ None
    → named_terminal known.core (key_of header reference).poi ≡ Some named → serves_key known.kept (key_of header reference) named.terminal ≡ serves → (serves ≡ true → open_key ≡ true)
    → BeginsOrStops known till (Request header (requests.Abort reference)) (abort-row known till header reference open_key serves named.number)
stops-served known till header reference named open_key false no_wait named_is serves opens = inl refl
stops-served known till header reference named open_key true no_wait named_is serves opens = inr (inr (inl (record {
  header = header;
  reference = reference;
  request_is = refl;
  named = named;
  named_is = named_is;
  no_wait = no_wait;
  serves = serves;
  items_are = refl;
  no_reply = ap (λ (is_open : Bool). reply_calls_to (Some till) (abort_reply is_open known header)) (opens refl);
})))

-- the row of an Abort, by what waits under its key, and by the terminal that is named
abbrev abort-row-at : Known → ℕ → Header → Reference → Option Wait → Option NamedTerminal → Row
abort-row-at known till header reference waiting named =
    record {
      core = known.core;
      calls = reply_calls_to (Some till) (abort_reply (is_open_key known.kept header reference || (named_serves_day (key_of header reference) named || is_some waiting)) known header);
      items = abort_items known till header reference waiting;
    }

stops-by : (known : Known) (till : ℕ) (header : Header) (reference : Reference) (named : Option NamedTerminal) → waiting_with (key_of header reference) known.core.waits ≡ None
    → named_terminal known.core (key_of header reference).poi ≡ named
    → BeginsOrStops known till (Request header (requests.Abort reference)) (record {
      core = known.core;
      calls = reply_calls_to (Some till) (abort_reply (is_open_key known.kept header reference || (named_serves_day (key_of header reference) named || false)) known header);
      items = stop_items_at known till header reference named;
    })
stops-by known till header reference None no_wait named_is = inl refl
stops-by known till header reference (Some named) no_wait named_is =
    stops-served known till header reference named (is_open_key known.kept header reference || (serves_day (key_of header reference) named.terminal.standing || false)) (serves_key known.kept (key_of header reference) named.terminal)
    no_wait named_is refl (λ serves. serving-aborts named.terminal.standing (found_of known.kept (key_of header reference)) (key_of header reference) false serves)

-- what waits is taken out
aborts-by : (known : Known) (till : ℕ) (header : Header) (reference : Reference) (waiting : Option Wait) → waiting_with (key_of header reference) known.core.waits ≡ waiting
    → BeginsOrStops known till (Request header (requests.Abort reference)) (abort-row-at known till header reference waiting (named_terminal known.core (key_of header reference).poi))
aborts-by known till header reference None no_wait = stops-by known till header reference (named_terminal known.core (key_of header reference).poi) no_wait refl
aborts-by known till header reference (Some wait) waits = inr (inr (inr (inr (inr (inr (inr (record {
  header = header;
  reference = reference;
  request_is = refl;
  wait = wait;
  waits = waits;
  items_are = refl;
  no_reply =
      ap (λ (is_open : Bool). reply_calls_to (Some till) (abort_reply is_open known header))
      (or_right (is_open_key known.kept header reference) _ (or_right (named_serves_day (key_of header reference) (named_terminal known.core (key_of header reference).poi)) true refl));
})))))))

-- ---- a Login and a Logout

-- neither waits
session-waits-not : (unnamed too_many : Bool) → is_waiting_result (if unnamed then Fails UnavailableDevice else (if too_many then Fails UnavailableService else Begins)) ≡ false
session-waits-not true too_many = refl
session-waits-not false true = refl
session-waits-not false false = refl

logs-by : (known : Known) (till : ℕ) (header : Header) (request : SaleRequest) (named : Option NamedTerminal) (result : StepResult) → is_session request ≡ true → is_waiting_result result ≡ false → named_terminal known.core header.poi ≡ named
    → BeginsOrStops known till (Request header request) (row-by known till header request named result)
logs-by known till header request None result session waits named_is = inl refl
logs-by known till header request (Some named) KeptReply session waits named_is = inl refl
logs-by known till header request (Some named) (Fails condition) session waits named_is = inl refl
logs-by known till header request (Some named) Begins session waits named_is =
    inr (inr (inr (inl (record { header = header; request = request; request_is = refl; session = session; named = named; named_is = named_is; items_are = refl; no_reply = refl }))))
logs-by known till header request (Some named) Waits session waits named_is = absurd (apart (sym waits))

-- ---- each message of a till

request-begins : (known : Known) (till : ℕ) (header : Header) (request : SaleRequest) → BeginsOrStops known till (Request header request) (asked_row known till (Request header request))
request-begins known till header requests.Login =
    logs-by known till header requests.Login (named_terminal known.core header.poi) (session_result known header requests.Login (named_terminal known.core header.poi)) refl (session-waits-not (not (is_some (named_terminal known.core header.poi))) (is_one_too_many known.core header requests.Login)) refl
request-begins known till header requests.Logout =
    logs-by known till header requests.Logout (named_terminal known.core header.poi) (session_result known header requests.Logout (named_terminal known.core header.poi)) refl (session-waits-not (not (is_some (named_terminal known.core header.poi))) (is_one_too_many known.core header requests.Logout)) refl
request-begins known till header (requests.Payment payment) =
    transaction-only known till header (requests.Payment payment) _ refl (begins-by known till header (requests.Payment payment) (named_terminal known.core header.poi) _ refl refl)
request-begins known till header (requests.Reversal reversal) =
    transaction-only known till header (requests.Reversal reversal) _ refl (begins-by known till header (requests.Reversal reversal) (named_terminal known.core header.poi) _ refl refl)
request-begins known till header (requests.Abort reference) = aborts-by known till header reference (waiting_with (key_of header reference) known.core.waits) refl
request-begins known till header (requests.Status reference) = inl refl
request-begins known till header (requests.Reconciliation period) =
    reconciles-by known till header period _ (begins-by known till header (requests.Reconciliation period) (named_terminal known.core header.poi) _ refl refl)
request-begins known till header (requests.Display outputs) =
    shows-by known till header outputs (named_terminal known.core header.poi) (display_result outputs (named_terminal known.core header.poi))
    (shown-waits-not (not (is_some (named_terminal known.core header.poi))) (not (is_some (show outputs))) (is_unavailable (named_terminal known.core header.poi)) (is_ready (named_terminal known.core header.poi))) refl
request-begins known till header (requests.Print qualifier) = inl refl
request-begins known till header requests.Diagnosis = inl refl

message-begins : (known : Known) (till : ℕ) (as_read : ReadAs) → BeginsOrStops known till as_read (asked_row known till as_read)
message-begins known till (Request header request) = request-begins known till header request
message-begins known till Silent = inl refl
message-begins known till (NoMessage fault) = inl refl
message-begins known till (NoJson fault) = inl refl

pub asked-begins : EachAskedBegins
asked-begins tills known till as_read = by-where (BeginsOrStops known till as_read) known (asked_row known till as_read) (is_connected tills till) (inl refl) (λ there. message-begins known till as_read)

header-same : (header other : Header) (request another : SaleRequest) → Request header request ≡ Request other another → header ≡ other
header-same header other request another same = cc

request-same : (header other : Header) (request another : SaleRequest) → Request header request ≡ Request other another → request ≡ another
request-same header other request another same = cc

some-found : (found : Found) → Some found ≡ None → ⊥
some-found found e = cc

pub repeat-begins-nothing : RepeatBeginsNothing
repeat-begins-nothing tills known till header request found is no_abort no_display no_session = by-either (asked-begins tills known till (Request header request))
  where
    -- one that begins on a key that isn't on record has this header
    known-key : (other : Header) (another : SaleRequest) → Request header request ≡ Request other another → found_for known.kept other ≡ None → ⊥
    known-key other another same unknown = some-found found (sym is ∙ ap (λ (h : Header). found_for known.kept h) (header-same header other request another same) ∙ unknown)

    by-either : BeginsOrStops known till (Request header request) (row_of tills known (Asked till (Request header request))) → (row_of tills known (Asked till (Request header request))).items ≡ []
    by-either (inl none) = none
    by-either (inr (inl begins)) = absurd (known-key begins.header begins.request begins.request_is begins.unknown)
    by-either (inr (inr (inl stops))) = absurd (no_abort stops.reference (request-same header stops.header request (requests.Abort stops.reference) stops.request_is))
    by-either (inr (inr (inr (inl logs)))) = absurd (apart (sym no_session ∙ ap is_session (request-same header logs.header request logs.request logs.request_is) ∙ logs.session))
    by-either (inr (inr (inr (inr (inl reconciles))))) = absurd (known-key reconciles.header (requests.Reconciliation reconciles.period) reconciles.request_is reconciles.unknown)
    by-either (inr (inr (inr (inr (inr (inl shows)))))) = absurd (no_display shows.outputs (request-same header shows.header request (requests.Display shows.outputs) shows.request_is))
    by-either (inr (inr (inr (inr (inr (inr (inl queues))))))) = absurd (known-key queues.header queues.request queues.request_is queues.unknown)
    by-either (inr (inr (inr (inr (inr (inr (inr takes))))))) = absurd (no_abort takes.reference (request-same header takes.header request (requests.Abort takes.reference) takes.request_is))

-- ---- the key of an end of day

-- a key that doesn't wait is pending only as that of an end of day, for which no payment and no reversal asks
no-day-again : (day : Bool) (request : SaleRequest) → is_transaction_request request ≡ true → (day && asks_day request) ≡ false
no-day-again false request is = refl
no-day-again true requests.Login is = absurd cc
no-day-again true requests.Logout is = absurd cc
no-day-again true (requests.Payment payment) is = refl
no-day-again true (requests.Reversal reversal) is = refl
no-day-again true (requests.Abort reference) is = absurd cc
no-day-again true (requests.Status reference) is = absurd cc
no-day-again true (requests.Reconciliation period) is = absurd cc
no-day-again true (requests.Display outputs) is = absurd cc
no-day-again true (requests.Print qualifier) is = absurd cc
no-day-again true requests.Diagnosis is = absurd cc

-- nor is what waits under it asked for again
none-again : (known : Known) (header : Header) (request : SaleRequest) (waiting : Option Wait) → waiting ≡ None → repeats_waiting known.kept header.poi request waiting ≡ false
none-again known header request None none = refl
none-again known header request (Some wait) none = absurd cc

day-result : (known : Known) (header : Header) (request : SaleRequest) (named : NamedTerminal) → is_transaction_request request ≡ true → found_for known.kept header ≡ None → waiting_for known.core header ≡ None
    → is_day_key header (Some named) ≡ true → step_result known header request (Some named) ≡ Fails NotAllowed
day-result known header request named is none no_wait day =
    pending-otherwise-result known header request (Some named) none (ap (λ (b : Bool). b || is_some (waiting_for known.core header)) day)
    (or_from (is_day_key header (Some named) && asks_day request) _ (no-day-again (is_day_key header (Some named)) request is) (none-again known header request (waiting_for known.core header) no_wait))

pub key-of-day-not-allowed : KeyOfDayIsNotAllowed
key-of-day-not-allowed known header request named is named_is none no_wait day =
    each-service-has-steps known header request (transaction-steps request is)
    ∙ ap (λ (found : Option NamedTerminal). reply_of_result known.kept header (step_result known header request found)) named_is
    ∙ ap (reply_of_result known.kept header) (day-result known header request named is none no_wait day)

-- ---- no other item begins anything

handle-items : (known : Known) (number : ℕ) (apdu : ApduValue) → (handle_row known number apdu).items ≡ []
handle-items known number apdu = by-either (handle-resolves known number apdu)
  where
    by-either : IsPlainOrEnds known number apdu (handle_row known number apdu) → (handle_row known number apdu).items ≡ []
    by-either (inl plain) = plain.items
    by-either (inr (ends, items)) = items

greet-items : (known : Known) (number : ℕ) (decoded : Result MessageValue PtFault) → (greet_decoded known number decoded).items ≡ []
greet-items known number (Ok message) = each-linked (λ (row : Row). row.items ≡ []) known number (λ terminal. owing known (sending_calls number (greeting message))) refl (λ terminal found linked. refl)
greet-items known number (Err fault) = each-linked (λ (row : Row). row.items ≡ []) known number (λ terminal. cutting known number) refl (λ terminal found linked. refl)

-- the row brings no item
abbrev BringsNone : Row → Type 0
BringsNone row = row.items ≡ []

next-items : (known : Known) (number : ℕ) → ((next_waiting_row known number).items ≡ []) ⊎ LooksAtNext (NextWaiting number) (next_waiting_row known number)
next-items known number = each-next (λ (row : Row). (row.items ≡ []) ⊎ LooksAtNext (NextWaiting number) row) known number (record {
  none = inl refl;
  refused = λ terminal last wait condition first refused. inr (record { number = number; item_is = refl; items_are = refl });
  begins = λ terminal last wait asking at. inl refl;
  day = λ terminal last wait at. inl refl;
  left = λ terminal last wait first. inl refl;
})

pub only-asked-begins : OnlyAskedBegins
only-asked-begins tills known (Crowded till) other = inl refl
only-asked-begins tills known (Message till bytes) other = inl refl
only-asked-begins tills known (Asked till as_read) other = absurd (apart (sym other))
only-asked-begins tills known (Unframed till) other = inl (by-where BringsNone known (owing known (CutTill till ∷ [])) (is_connected tills till) refl (λ there. refl))
only-asked-begins tills known (Gone till) other = inl refl
only-asked-begins tills known (Greet number apdu) other = inl (greet-items known number (decode_pt_message apdu))
only-asked-begins tills known (Handle number apdu) other = inl (handle-items known number apdu)
only-asked-begins tills known (Serve number till header request) other =
    inl (each-served BringsNone known number till header request (record {
      none = refl;
      begins = λ terminal last asking at. refl;
      sent = λ terminal talk at may. refl;
      wished = λ terminal talk at may. refl;
      session = λ success. refl;
      settles = λ terminal at. refl;
      day = λ terminal last at. refl;
      displays = λ terminal last outputs command at. refl;
    }))
only-asked-begins tills known (Queue number till header request) other =
    inl (each-queued BringsNone known number till header request (record { none = refl; joins = λ terminal key at. refl; taken = λ wait at. refl }))
only-asked-begins tills known (NextWaiting number) other = next-items known number
only-asked-begins tills known (Oversized number) other = inl (each-linked BringsNone known number (λ terminal. cutting known number) refl (λ terminal found linked. refl))
only-asked-begins tills known (LinkLost number) other = inl (each-terminal BringsNone known number (unlinks known number) refl (λ terminal found. refl))
only-asked-begins tills known (Late number) other =
    inl (each-terminal BringsNone known number (λ terminal. owing_where (is_late known.moment terminal.talk) known (cutting known number)) refl
    (λ terminal found. by-where BringsNone known (cutting known number) (is_late known.moment terminal.talk) refl (λ late. refl)))
only-asked-begins tills known (Overdue key) other = inl (each-overdue BringsNone known key (record { none = refl; taken = λ wait waits overdue. refl }))
only-asked-begins tills known (Due number) other =
    inl (each-terminal BringsNone known number (λ terminal. owing_where (is_due known.moment terminal.standing) known (owing known (LinkPt number ∷ []))) refl
    (λ terminal found. by-where BringsNone known (owing known (LinkPt number ∷ [])) (is_due known.moment terminal.standing) refl (λ due. refl)))
