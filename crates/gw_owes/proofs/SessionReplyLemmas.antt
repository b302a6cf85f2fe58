-- Lemmas of tills that are logged out: what they get, and who gets it.
use Rattle.std.proofs.Common.{◌≡◌, ℕ, Bool, true, false, List, [], ◌∷◌, refl, sym, ◌∙◌, ap}
use Rattle.std.proofs.lemmas.Bool.{or_parts}
use Rattle.std.specs.Prelude.{drop, option_map, option_and_then, ◌&&◌, ◌||◌, if◌then◌else◌, Option, Some, None}
use Rattle.std.specs.List.{list_any}
use Rattle.gw_base.specs.declared.condition.Condition.{Condition}
use Rattle.gw_base.specs.declared.condition.Condition.TheVariants.{Aborted, Busy, Cancel, InProgress, InsertedCard, InvalidCard, LoggedOut, MessageFormat, NotAllowed, NotFound, Refusal, UnavailableDevice, UnavailableService}
use Rattle.gw_site.specs.Outside.{Connection, is_connected}
use Rattle.sale_values.specs.declared.header.Header.{Header}
use Rattle.sale_values.specs.declared.request.SaleRequest.{SaleRequest}
use Rattle.sale_values.specs.declared.request.SaleRequest.TheVariants as requests
use Rattle.sale_values.specs.declared.request.Output.{Output}
use Rattle.sale_values.specs.Key.{key_of}
use Rattle.sale_reply.specs.declared.reply.Shown.{Shown}
use Rattle.sale_reply.specs.declared.reply.Told.{Told as ResultBody}
use Rattle.jrn_record.specs.declared.records.Record.{Record}
use Rattle.gw_ledger.specs.declared.entry.Found.{Found}
use Rattle.xlate.specs.Reply.{header_of, result_body_of}
use Rattle.gw_owes.specs.Content.{has_same_content}
use Rattle.gw_owes.specs.Diagnosis.{NamedTerminal, named_terminal, diagnosis_reply}
use Rattle.gw_owes.specs.Displays.{display_result, reply_of_display}
use Rattle.gw_owes.specs.Items.{Asked}
use Rattle.gw_owes.specs.KeptReplies.{found_for, found_by_status, is_finished, is_open_key, kept_reply, repeated_reply, status_reply_at}
use Rattle.gw_owes.specs.ReadAs.{Request}
use Rattle.gw_owes.specs.Reply.{ReplyValue, Plain, Finished, Repeated, Diagnosis, Display, Print, DisplayRequest, PrintRequest, Reject}
use Rattle.gw_owes.specs.Replies.{display_reply, refused_results}
use Rattle.gw_owes.specs.Requests.{abort_reply, request_reply}
use Rattle.gw_owes.specs.Row.{Known, Row, owing_where}
use Rattle.gw_owes.specs.Rows.{asked_row, row_of}
use Rattle.gw_owes.specs.SessionLaws.{IsOfLoggedOut, LoggedOutFails, OnlyLoggedOutFails}
use Rattle.gw_owes.specs.SessionRows.{session_reply}
use Rattle.gw_owes.specs.Sessions.{is_logged_out, is_one_too_many}
use Rattle.gw_owes.specs.StepLaws.{has_steps}
use Rattle.gw_owes.specs.Steps.{StepResult, RequestStep, KeptReply, Fails, Begins, Waits, first_result, items_of_result, reply_of_result, result_at_queue, service_reply, step_result, steps}
use Rattle.gw_owes.specs.Terminals.{reply_calls_to}
use Rattle.gw_owes.specs.Waits.{asks_pending, is_pending, is_pending_again, is_pending_key, is_queue_full}
use Rattle.gw_owes.proofs.StepLemmas.{not-pending-result}

-- ---- a till that is logged out

-- what a request with steps owes as it is read, by its steps' result at the terminal that is named
abbrev asked_steps : Known → ℕ → Header → SaleRequest → Option NamedTerminal → StepResult → Row
asked_steps known till header request named result =
    record { core = known.core; calls = reply_calls_to (Some till) (reply_of_result known.kept header result); items = items_of_result till header request named result }

-- the row of one, of a till that is there
asked-is : (tills : List Connection) (known : Known) (till : ℕ) (header : Header) (request : SaleRequest) (named : Option NamedTerminal) → is_connected tills till ≡ true → has_steps request ≡ true
    → named_terminal known.core header.poi ≡ named → row_of tills known (Asked till (Request header request)) ≡ asked_steps known till header request named (step_result known header request named)
asked-is tills known till header requests.Login named there steps named_is = absurd cc
asked-is tills known till header requests.Logout named there steps named_is = absurd cc
asked-is tills known till header (requests.Payment ask) named there steps named_is =
    ap (λ b. owing_where b known (asked_row known till (Request header (requests.Payment ask)))) there
    ∙ ap (λ (n : Option NamedTerminal). asked_steps known till header (requests.Payment ask) n (step_result known header (requests.Payment ask) n)) named_is
asked-is tills known till header (requests.Reversal ask) named there steps named_is =
    ap (λ b. owing_where b known (asked_row known till (Request header (requests.Reversal ask)))) there
    ∙ ap (λ (n : Option NamedTerminal). asked_steps known till header (requests.Reversal ask) n (step_result known header (requests.Reversal ask) n)) named_is
asked-is tills known till header (requests.Abort reference) named there steps named_is = absurd cc
asked-is tills known till header (requests.Status reference) named there steps named_is = absurd cc
asked-is tills known till header (requests.Reconciliation period) named there steps named_is =
    ap (λ b. owing_where b known (asked_row known till (Request header (requests.Reconciliation period)))) there
    ∙ ap (λ (n : Option NamedTerminal). asked_steps known till header (requests.Reconciliation period) n (step_result known header (requests.Reconciliation period) n)) named_is
asked-is tills known till header (requests.Display outputs) named there steps named_is = absurd cc
asked-is tills known till header (requests.Print qualifier) named there steps named_is = absurd cc
asked-is tills known till header requests.Diagnosis named there steps named_is = absurd cc

-- the steps after the seventh, on a key that isn't on record
abbrev later_steps : Known → Header → SaleRequest → NamedTerminal → List RequestStep
later_steps known header request named = drop 7 (steps known header request None (Some named))

-- the result of the steps, by whether what waits or is served is asked for again, whether the key is that of it, and whether the till is logged out
abbrev result_by : Known → Header → SaleRequest → NamedTerminal → Bool → Bool → Bool → StepResult
result_by known header request named again pending out =
    if again then Fails InProgress else (if pending then Fails NotAllowed else (if out then Fails LoggedOut else first_result (result_at_queue known (Some named)) (later_steps known header request named)))

pub logged-out-fails : LoggedOutFails
logged-out-fails tills known till header request there of_till = record { reply = ap (λ (row : Row). row.calls) row_is; none_more = ap (λ (row : Row). row.items) row_is }
  where
    named : NamedTerminal
    named = of_till.named

    row_is : row_of tills known (Asked till (Request header request)) ≡ asked_steps known till header request (Some named) (Fails LoggedOut)
    row_is =
        asked-is tills known till header request (Some named) there of_till.steps of_till.named_is
        ∙ ap (asked_steps known till header request (Some named))
        (not-pending-result known header request (Some named) of_till.unknown of_till.not_pending ∙ ap (result_by known header request named false false) of_till.logged_out)

-- ---- no other

-- the condition is `LoggedOut`
abbrev is_logout : Condition → Bool
is_logout Aborted = false
is_logout Busy = false
is_logout Cancel = false
is_logout InProgress = false
is_logout InsertedCard = false
is_logout InvalidCard = false
is_logout LoggedOut = true
is_logout MessageFormat = false
is_logout NotAllowed = false
is_logout NotFound = false
is_logout Refusal = false
is_logout UnavailableDevice = false
is_logout UnavailableService = false

abbrev is_any_logout : Option Condition → Bool
is_any_logout None = false
is_any_logout (Some condition) = is_logout condition

-- the reply is a Failure with `LoggedOut`
abbrev says_logout : Option ReplyValue → Bool
says_logout None = false
says_logout (Some (Plain header verdict)) = is_any_logout verdict.condition
says_logout (Some (Finished header result)) = false
says_logout (Some (Repeated header repeated result)) = false
says_logout (Some (Diagnosis header status)) = false
says_logout (Some (Display header outputs)) = false
says_logout (Some (Print header qualifier verdict)) = false
says_logout (Some (DisplayRequest header code)) = false
says_logout (Some (PrintRequest header lines)) = false
says_logout (Some (Reject sale poi moment detail)) = false

-- the result is that Failure
abbrev fails_logout : StepResult → Bool
fails_logout KeptReply = false
fails_logout (Fails condition) = is_logout condition
fails_logout Begins = false
fails_logout Waits = false

-- where no step has that Failure, nor what comes after them, their result isn't it
none-fails : (otherwise : StepResult) (table : List RequestStep) → fails_logout otherwise ≡ false → list_any (λ (step : RequestStep). fails_logout step.result) table ≡ false
    → fails_logout (first_result otherwise table) ≡ false
none-fails otherwise [] last none = last
none-fails otherwise (step ∷ table) last none =
    let p = or_parts (fails_logout step.result) _ none in by-test p.0 (none-fails otherwise table last p.1) step.applies
  where
    by-test : fails_logout step.result ≡ false → fails_logout (first_result otherwise table) ≡ false → (applies : Bool) → fails_logout (if applies then step.result else first_result otherwise table) ≡ false
    by-test own later true = own
    by-test own later false = later

never : {A : Type 0} (b : Bool) → b ≡ false → b ≡ true → A
never b is_false is_true = let e : false ≡ true = sym is_false ∙ is_true in absurd cc

-- a result's reply is that Failure exactly where the result is
kept-says : (found : Option Found) → says_logout (option_and_then kept_reply found) ≡ false
kept-says None = refl
kept-says (Some found) = by-body (result_body_of found)
  where
    by-body : (body : Option ResultBody) → says_logout (option_map (Finished (header_of found)) body) ≡ false
    by-body None = refl
    by-body (Some body) = refl

result-says : (kept : List Record) (header : Header) (result : StepResult) → says_logout (reply_of_result kept header result) ≡ fails_logout result
result-says kept header KeptReply = kept-says (found_for kept header)
result-says kept header (Fails condition) = refl
result-says kept header Begins = refl
result-says kept header Waits = refl

-- steps with that result are of a till that is logged out
steps-of : (known : Known) (header : Header) (request : SaleRequest) (named : Option NamedTerminal) → has_steps request ≡ true → named_terminal known.core header.poi ≡ named
    → fails_logout (step_result known header request named) ≡ true → IsOfLoggedOut known header request
steps-of known header request named asks named_is fails = by-found (found_for known.kept header) refl named named_is fails
  where
    on-record : (same replied : Bool) → fails_logout (if same && replied then KeptReply else (if same then Fails InProgress else Fails NotAllowed)) ≡ false
    on-record true true = refl
    on-record true false = refl
    on-record false replied = refl

    -- what comes after the steps
    full-says : (full : Bool) → fails_logout (if full then Fails Busy else Waits) ≡ false
    full-says true = refl
    full-says false = refl

    -- what holds where the till is logged out, and the key doesn't wait and isn't that of an end of day
    both : (there : NamedTerminal) (again pending out : Bool) → fails_logout (result_by known header request there again pending out) ≡ true → (pending ≡ false) × (out ≡ true)
    both there true pending out so = absurd cc
    both there false true out so = absurd cc
    both there false false true so = (refl, refl)
    both there false false false so = never _ (none-fails (result_at_queue known (Some there)) (later_steps known header request there) (full-says (is_queue_full known (Some there))) refl) so

    nowhere : (again pending : Bool) → fails_logout (if again then Fails InProgress else (if pending then Fails NotAllowed else Fails UnavailableDevice)) ≡ false
    nowhere true pending = refl
    nowhere false true = refl
    nowhere false false = refl

    by-found : (found : Option Found) → found_for known.kept header ≡ found → (there : Option NamedTerminal) → named_terminal known.core header.poi ≡ there
        → fails_logout (first_result (result_at_queue known there) (steps known header request found there)) ≡ true → IsOfLoggedOut known header request
    by-found None unknown None is so = never _ (nowhere (is_pending_again known header request None) (is_pending_key known.core header None)) so
    by-found None unknown (Some there) is so =
        let why = both there (is_pending_again known header request (Some there)) (is_pending_key known.core header (Some there)) (is_logged_out known.core header.sale header.poi) so in
        record { steps = asks; unknown = unknown; named = there; named_is = is; not_pending = why.0; logged_out = why.1 }
    by-found (Some found) unknown there is so = never _ (on-record (has_same_content known.kept request found) (is_finished found)) so

service-of : (known : Known) (header : Header) (request : SaleRequest) → has_steps request ≡ true → says_logout (service_reply known header request (named_terminal known.core header.poi)) ≡ true → IsOfLoggedOut known header request
service-of known header request asks says =
    steps-of known header request (named_terminal known.core header.poi) asks refl (sym (result-says known.kept header (step_result known header request (named_terminal known.core header.poi))) ∙ says)

-- a Login or a Logout doesn't get it
session-says : (known : Known) (header : Header) (request : SaleRequest) (named : Option NamedTerminal) → says_logout (session_reply known header request named) ≡ false
session-says known header request None = refl
session-says known header request (Some named) = by-many (is_one_too_many known.core header request)
  where
    by-many : (too_many : Bool) → says_logout (reply_of_result known.kept header (if too_many then Fails UnavailableService else Begins)) ≡ false
    by-many true = refl
    by-many false = refl

-- nor does another request without steps
abort-says : (known : Known) (header : Header) (is_open : Bool) → says_logout (abort_reply is_open known header) ≡ false
abort-says known header true = refl
abort-says known header false = refl

status-says : (header : Header) (found : Option Found) (served : Bool) → says_logout (Some (status_reply_at header found served)) ≡ false
status-says header None true = refl
status-says header None false = refl
status-says header (Some found) served = by-body (result_body_of found)
  where
    by-body : (body : Option ResultBody) → says_logout (Some (repeated_reply header found body)) ≡ false
    by-body None = refl
    by-body (Some body) = refl

display-says : (header : Header) (results : Option (List Shown)) → says_logout (display_reply header results) ≡ false
display-says header None = refl
display-says header (Some results) = refl

-- nor does a Display, by its steps' result
shown-says : (header : Header) (outputs : List Output) (result : StepResult) → says_logout (reply_of_display header outputs result) ≡ false
shown-says header outputs KeptReply = refl
shown-says header outputs (Fails condition) = display-says header (refused_results condition outputs)
shown-says header outputs Begins = refl
shown-says header outputs Waits = refl

diagnosis-says : (header : Header) (named : Option NamedTerminal) → says_logout (Some (diagnosis_reply header named)) ≡ false
diagnosis-says header None = refl
diagnosis-says header (Some named) = refl

only-of : (known : Known) (header : Header) (request : SaleRequest) → says_logout (request_reply known header request) ≡ true → IsOfLoggedOut known header request
only-of known header requests.Login says = never _ (session-says known header requests.Login (named_terminal known.core header.poi)) says
only-of known header requests.Logout says = never _ (session-says known header requests.Logout (named_terminal known.core header.poi)) says
only-of known header (requests.Payment ask) says = service-of known header (requests.Payment ask) refl says
only-of known header (requests.Reversal ask) says = service-of known header (requests.Reversal ask) refl says
only-of known header (requests.Abort reference) says = never _ (abort-says known header (is_open_key known.kept header reference || is_pending known.core (key_of header reference))) says
only-of known header (requests.Status reference) says = never _ (status-says header (found_by_status known.kept header reference) (asks_pending known.core header reference)) says
only-of known header (requests.Reconciliation period) says = service-of known header (requests.Reconciliation period) refl says
only-of known header (requests.Display outputs) says = never _ (shown-says header outputs (display_result outputs (named_terminal known.core header.poi))) says
only-of known header (requests.Print qualifier) says = absurd cc
only-of known header requests.Diagnosis says = never _ (diagnosis-says header (named_terminal known.core header.poi)) says

pub only-logged-out-fails : OnlyLoggedOutFails
only-logged-out-fails known header request is = only-of known header request (ap says_logout is)
