-- What a request leaves and owes that a terminal serves: each case of it, by its request, and why it is so.
use Rattle.std.proofs.Common.{◌≡◌, ℕ, refl, ap, Bool, true, false}
use Rattle.std.specs.Prelude.{is_some, not, ◌&&◌, ◌||◌, if◌then◌else◌, List, [], ◌∷◌, Option, Some, None}
use Rattle.gw_base.specs.declared.key.Key.{Key}
use Rattle.sale_values.specs.declared.header.Header.{Header}
use Rattle.sale_values.specs.declared.names.Period.{Period}
use Rattle.sale_values.specs.declared.names.Period.TheVariants.{SaleReconciliation, AcquirerSynchronisation, AcquirerReconciliation, PreviousReconciliation}
use Rattle.sale_values.specs.declared.request.Output.{Output}
use Rattle.sale_values.specs.declared.request.Reference.{Reference}
use Rattle.sale_values.specs.declared.request.SaleRequest.{SaleRequest}
use Rattle.sale_values.specs.declared.request.SaleRequest.TheVariants as requests
use Rattle.sale_values.specs.Key.{key_of}
use Rattle.zvt_msg.specs.declared.command.Command.{Command}
use Rattle.zvt_talk.specs.Talk.{TalkFacts}
use Rattle.zvt_talk.specs.TalkSteps.{may_send_stop}
use Rattle.gw_base.specs.declared.condition.Condition.TheVariants.{Busy, InProgress, LoggedOut, NotAllowed, NotFound, UnavailableDevice, UnavailableService}
use Rattle.jrn_record.specs.declared.records.How.TheVariants as hows
use Rattle.jrn_record.specs.declared.records.Record.{Record}
use Rattle.gw_ledger.specs.declared.entry.Entry.{Entry as TheEntry}
use Rattle.gw_ledger.specs.declared.entry.Found.{Found}
use Rattle.gw_ledger.specs.declared.entry.Found.TheVariants.{Entry, Closed}
use Rattle.gw_ledger.specs.Fold.{found_of}
use Rattle.gw_ledger.specs.Keys.{is_key}
use Rattle.xlate.specs.Display.{show}
use Rattle.gw_owes.specs.declared.terminal.Service.{Service}
use Rattle.gw_owes.specs.declared.terminal.Service.TheVariants.{Transaction, EndOfDay, Display}
use Rattle.gw_owes.specs.declared.terminal.Standing.{Standing}
use Rattle.gw_owes.specs.declared.terminal.Standing.TheVariants.{Unlinked, Registering, Enquiring, Ready, Serving, Aside}
use Rattle.gw_owes.specs.declared.terminal.Terminal.{Terminal}
use Rattle.gw_owes.specs.AbortLaws.{IsStoppable}
use Rattle.gw_owes.specs.Calls.{Ask, SendTill, SendPt}
use Rattle.gw_owes.specs.Days.{serves_day}
use Rattle.gw_owes.specs.Diagnosis.{NamedTerminal}
use Rattle.gw_owes.specs.Displays.{asked_to_show, display_result, display_row, shows, shows_in}
use Rattle.gw_owes.specs.KeptReplies.{found_for, own_key}
use Rattle.gw_owes.specs.Payments.{Asking, asking_of, beginning_row, begins_asking, begins_in, begins_request, serve_row}
use Rattle.gw_owes.specs.Reconciliations.{asked_for_day, begins_day, begins_period, day_command, reconciliation_row, settle_calls, settled_of}
use Rattle.gw_owes.specs.Reversals.{names_irreversible, names_none}
use Rattle.gw_owes.specs.Row.{Known, Row, owing, owing_nothing, becoming}
use Rattle.gw_owes.specs.Serving.{staying, stops}
use Rattle.gw_owes.specs.Sessions.{is_logged_out, is_session, pairs_after}
use Rattle.gw_owes.specs.SessionRows.{session_result, session_row, success_reply}
use Rattle.gw_owes.specs.Steps.{StepResult, KeptReply, Fails, Begins, Waits, is_repeated, has_reply, is_unserved, asks_other_currency, asks_transaction, is_used_up, lacks_room, asks_settling, is_unavailable, is_ready, is_beginning, is_waiting_result, step_result}
use Rattle.gw_owes.specs.Stops.{serves_entry, serves_any, serves_key, stop_row, stops_key, wishes_stop, wishing}
use Rattle.gw_owes.specs.Terminals.{terminal_at, of_terminal, terminal_becomes}
use Rattle.gw_owes.specs.Waits.{is_pending_again, is_pending_key, is_queue_full}
use Rattle.gw_owes.proofs.HandlingLemmas.{by-where, each-terminal}

-- ---- what begins

-- why a terminal begins what a request asks for: it is there and ready, the steps of the request say so, and this is asked for
pub record BeginsAt (known : Known) (number : ℕ) (header : Header) (request : SaleRequest) (terminal : Terminal) (last : ℕ) (asking : Asking) : Type 0 where
  pub found : terminal_at known number ≡ Some terminal
  pub standing_is : terminal.standing ≡ Ready last
  pub begins_is : is_beginning (step_result known header request (Some (record { number = number; terminal = terminal }))) ≡ true
  pub asking_is : asking_of known header request terminal last ≡ Some asking

-- what holds of nothing owed, and of the beginning of what is asked for, holds of it where anything is asked for
begun-asking : (P : Row → Type 0) (known : Known) (number till : ℕ) (terminal : Terminal) (last : ℕ) (asked : Option Asking) → P (owing_nothing known)
    → ((asking : Asking) → asked ≡ Some asking → P (beginning_row known number till terminal last asking.intent asking.original)) → P (begins_asking known number till terminal last asked)
begun-asking P known number till terminal last None none some = none
begun-asking P known number till terminal last (Some asking) none some = some asking refl

begun-in : (P : Row → Type 0) (known : Known) (number till : ℕ) (header : Header) (request : SaleRequest) (terminal : Terminal) (standing : Standing) → P (owing_nothing known)
    → ((last : ℕ) (asking : Asking) → standing ≡ Ready last → asking_of known header request terminal last ≡ Some asking → P (beginning_row known number till terminal last asking.intent asking.original))
    → P (begins_in known number till header request terminal standing)
begun-in P known number till header request terminal (Unlinked due) none some = none
begun-in P known number till header request terminal Registering none some = none
begun-in P known number till header request terminal Enquiring none some = none
begun-in P known number till header request terminal (Ready last) none some =
    begun-asking P known number till terminal last (asking_of known header request terminal last) none (λ asking is. some last asking refl is)
begun-in P known number till header request terminal (Serving service last) none some = none
begun-in P known number till header request terminal (Aside before reported) none some = none

begun : (P : Row → Type 0) (known : Known) (number till : ℕ) (header : Header) (request : SaleRequest) → P (owing_nothing known)
    → ((terminal : Terminal) (last : ℕ) (asking : Asking) → BeginsAt known number header request terminal last asking → P (beginning_row known number till terminal last asking.intent asking.original))
    → P (of_terminal known (begins_request known number till header request) (terminal_at known number))
begun P known number till header request none some =
    each-terminal P known number (begins_request known number till header request) none
    (λ terminal found. by-where P known (begins_in known number till header request terminal terminal.standing)
    (is_beginning (step_result known header request (Some (record { number = number; terminal = terminal })))) none
    (λ begins_is. begun-in P known number till header request terminal terminal.standing none
    (λ last asking standing asks. some terminal last asking (record { found = found; standing_is = standing; begins_is = begins_is; asking_is = asks }))))

-- ---- what is stopped

-- what may be stopped is served, with this last trace number
pub record ServesStoppable (standing : Standing) : Type 0 where
  pub service : Service
  pub last : ℕ
  pub standing_is : standing ≡ Serving service last
  pub stoppable : IsStoppable service

entry-served : (entry : TheEntry) (standing : Standing) → serves_entry entry standing ≡ true → ServesStoppable standing
entry-served entry (Unlinked due) serves = absurd cc
entry-served entry Registering serves = absurd cc
entry-served entry Enquiring serves = absurd cc
entry-served entry (Ready last) serves = absurd cc
entry-served entry (Serving (Transaction slot) last) serves = record { service = Transaction slot; last = last; standing_is = refl; stoppable = tt }
entry-served entry (Serving (EndOfDay header period) last) serves = absurd cc
entry-served entry (Serving (Display header results) last) serves = absurd cc
entry-served entry (Aside before reported) serves = absurd cc

open-served : (entry : TheEntry) (standing : Standing) (is_open : Bool) → (is_open && serves_entry entry standing) ≡ true → ServesStoppable standing
open-served entry standing false serves = absurd cc
open-served entry standing true serves = entry-served entry standing serves

any-served : (standing : Standing) (found : Option Found) → serves_any standing found ≡ true → ServesStoppable standing
any-served standing None serves = absurd cc
any-served standing (Some (Entry entry)) serves = open-served entry standing (not (is_some entry.result)) serves
any-served standing (Some (Closed closed)) serves = absurd cc

-- a terminal serves an end of day, whose request has this key
pub record ServesDay (key : Key) (standing : Standing) : Type 0 where
  pub header : Header
  pub period : Period
  pub last : ℕ
  pub standing_is : standing ≡ Serving (EndOfDay header period) last
  pub key_is : is_key key (own_key header) ≡ true

-- a terminal that serves the end of day of a key serves one
pub day-served : (key : Key) (standing : Standing) → serves_day key standing ≡ true → ServesDay key standing
day-served key (Unlinked due) serves = absurd cc
day-served key Registering serves = absurd cc
day-served key Enquiring serves = absurd cc
day-served key (Ready last) serves = absurd cc
day-served key (Serving (Transaction slot) last) serves = absurd cc
day-served key (Serving (EndOfDay header period) last) serves = record { header = header; period = period; last = last; standing_is = refl; key_is = serves }
day-served key (Serving (Display header results) last) serves = absurd cc
day-served key (Aside before reported) serves = absurd cc

either-served : (key : Key) (standing : Standing) (found : Option Found) (any : Bool) → serves_any standing found ≡ any → (any || serves_day key standing) ≡ true → ServesStoppable standing
either-served key standing found true any serves = any-served standing found any
either-served key standing found false any serves =
    let day = day-served key standing serves in
    record { service = EndOfDay day.header day.period; last = day.last; standing_is = day.standing_is; stoppable = tt }

-- a terminal that serves a key serves a payment, a reversal or an end of day
pub key-served : (kept : List Record) (key : Key) (terminal : Terminal) → serves_key kept key terminal ≡ true → ServesStoppable terminal.standing
key-served kept key terminal serves = either-served key terminal.standing (found_of kept key) (serves_any terminal.standing (found_of kept key)) refl serves

-- why a terminal is to stop what it serves: it is there, and serves the payment, the reversal or the end of day of the key that an Abort names, in this dialogue
pub record StopsAt (known : Known) (number : ℕ) (header : Header) (request : SaleRequest) (terminal : Terminal) (talk : TalkFacts) : Type 0 where
  pub reference : Reference
  pub request_is : request ≡ requests.Abort reference
  pub found : terminal_at known number ≡ Some terminal
  pub serves : serves_key known.kept (key_of header reference) terminal ≡ true
  pub service : Service
  pub last : ℕ
  pub standing_is : terminal.standing ≡ Serving service last
  pub stoppable : IsStoppable service
  pub talk_is : terminal.talk ≡ Some talk

-- what holds of nothing owed, of a stop that is sent and of one that is wished alone, holds of a wish
wish : (P : Row → Type 0) (known : Known) (number : ℕ) (terminal : Terminal) (runs : Option TalkFacts) → P (owing_nothing known)
    → ((talk : TalkFacts) → runs ≡ Some talk → may_send_stop talk.phase ≡ true → P (stops known number (wishing terminal talk)))
    → ((talk : TalkFacts) → runs ≡ Some talk → may_send_stop talk.phase ≡ false → P (staying known number (wishing terminal talk)))
    → P (wishes_stop known number terminal runs)
wish P known number terminal None none sent wished = none
wish P known number terminal (Some talk) none sent wished = by-test (may_send_stop talk.phase) refl
  where
    by-test : (test : Bool) → may_send_stop talk.phase ≡ test → P (if test then stops known number (wishing terminal talk) else staying known number (wishing terminal talk))
    by-test true is = sent talk refl is
    by-test false is = wished talk refl is

-- what holds of nothing owed, and of each stop, holds of the row of an Abort
pub each-stopped : (P : Row → Type 0) (known : Known) (number : ℕ) (header : Header) (reference : Reference) → P (owing_nothing known)
    → ((terminal : Terminal) (talk : TalkFacts) → StopsAt known number header (requests.Abort reference) terminal talk → may_send_stop talk.phase ≡ true → P (stops known number (wishing terminal talk)))
    → ((terminal : Terminal) (talk : TalkFacts) → StopsAt known number header (requests.Abort reference) terminal talk → may_send_stop talk.phase ≡ false → P (staying known number (wishing terminal talk)))
    → P (stop_row known number header reference)
each-stopped P known number header reference none sent wished =
    each-terminal P known number (stops_key known number (key_of header reference)) none
    (λ terminal found. by-where P known (wishes_stop known number terminal terminal.talk) (serves_key known.kept (key_of header reference) terminal) none
    (λ serves. wish P known number terminal terminal.talk none
    (λ talk runs may. sent terminal talk (at terminal talk found serves runs) may)
    (λ talk runs may. wished terminal talk (at terminal talk found serves runs) may)))
  where
    at : (terminal : Terminal) (talk : TalkFacts) → terminal_at known number ≡ Some terminal → serves_key known.kept (key_of header reference) terminal ≡ true → terminal.talk ≡ Some talk
        → StopsAt known number header (requests.Abort reference) terminal talk
    at terminal talk found serves runs =
        let served = key-served known.kept (key_of header reference) terminal serves in
        record { reference = reference; request_is = refl; found = found; serves = serves; service = served.service; last = served.last; standing_is = served.standing_is; stoppable = served.stoppable; talk_is = runs }

-- ---- who logs in and out

-- why a Login or a Logout succeeds: its terminal is there, and the steps say so
pub record BeginsSession (known : Known) (number : ℕ) (header : Header) (request : SaleRequest) : Type 0 where
  pub terminal : Terminal
  pub found : terminal_at known number ≡ Some terminal
  pub begins_is : is_beginning (session_result known header request (Some (record { number = number; terminal = terminal }))) ≡ true
  pub session_is : is_session request ≡ true

-- what holds of nothing owed, and of a success, holds of the row of a Login or a Logout
pub session-served : (P : Row → Type 0) (known : Known) (number till : ℕ) (header : Header) (request : SaleRequest) → is_session request ≡ true → P (owing_nothing known)
    → (BeginsSession known number header request → P (becoming (record known.core { logged_out = pairs_after known.core header request }) (SendTill till (success_reply header) ∷ [])))
    → P (of_terminal known (session_row known number till header request) (terminal_at known number))
session-served P known number till header request is none session =
    each-terminal P known number (session_row known number till header request) none
    (λ terminal found. by-where P known (becoming (record known.core { logged_out = pairs_after known.core header request }) (SendTill till (success_reply header) ∷ []))
    (is_beginning (session_result known header request (Some (record { number = number; terminal = terminal })))) none
    (λ begins_is. session (record { terminal = terminal; found = found; begins_is = begins_is; session_is = is })))

-- ---- what is settled, and ends of day

-- why a reconciliation of the till's own is settled: its terminal is there, and the steps say so
pub record SettlesAt (known : Known) (number : ℕ) (header : Header) (request : SaleRequest) (terminal : Terminal) : Type 0 where
  pub request_is : request ≡ requests.Reconciliation SaleReconciliation
  pub found : terminal_at known number ≡ Some terminal
  pub begins_is : is_beginning (step_result known header request (Some (record { number = number; terminal = terminal }))) ≡ true

-- what it leaves and owes then
abbrev pub settled_row : Known → ℕ → Header → Terminal → Row
settled_row known till header terminal = owing known (settle_calls known.kept (Some till) (settled_of hows.Sale header terminal.pt.currency known.moment))

-- why a terminal begins an end of day: it is there and ready, and the steps say so
pub record BeginsDayAt (known : Known) (number : ℕ) (header : Header) (request : SaleRequest) (terminal : Terminal) (last : ℕ) : Type 0 where
  pub request_is : request ≡ requests.Reconciliation AcquirerReconciliation
  pub found : terminal_at known number ≡ Some terminal
  pub standing_is : terminal.standing ≡ Ready last
  pub begins_is : is_beginning (step_result known header request (Some (record { number = number; terminal = terminal }))) ≡ true

-- what it leaves and owes then
abbrev pub day_row : Known → ℕ → ℕ → Header → Terminal → ℕ → Row
day_row known number till header terminal last =
    terminal_becomes known number (asked_for_day known till terminal last header) (SendPt number (Ask (day_command terminal.pt)) ∷ [])

day-in : (P : Row → Type 0) (known : Known) (number till : ℕ) (header : Header) (terminal : Terminal) (standing : Standing) → P (owing_nothing known)
    → ((last : ℕ) → standing ≡ Ready last → P (day_row known number till header terminal last)) → P (begins_day known number till header terminal standing)
day-in P known number till header terminal (Unlinked due) none some = none
day-in P known number till header terminal Registering none some = none
day-in P known number till header terminal Enquiring none some = none
day-in P known number till header terminal (Ready last) none some = some last refl
day-in P known number till header terminal (Serving service last) none some = none
day-in P known number till header terminal (Aside before reported) none some = none

period-in : (P : Row → Type 0) (known : Known) (number till : ℕ) (header : Header) (period : Period) (terminal : Terminal) → P (owing_nothing known)
    → (period ≡ SaleReconciliation → P (settled_row known till header terminal))
    → ((last : ℕ) → period ≡ AcquirerReconciliation → terminal.standing ≡ Ready last → P (day_row known number till header terminal last))
    → P (begins_period known number till header period terminal)
period-in P known number till header SaleReconciliation terminal none settles day = settles refl
period-in P known number till header AcquirerSynchronisation terminal none settles day = none
period-in P known number till header AcquirerReconciliation terminal none settles day = day-in P known number till header terminal terminal.standing none (λ last ready. day last refl ready)
period-in P known number till header PreviousReconciliation terminal none settles day = none

-- what holds of nothing owed, of what is settled and of an end of day that begins, holds of the row of a Reconciliation
pub each-reconciled : (P : Row → Type 0) (known : Known) (number till : ℕ) (header : Header) (period : Period) → P (owing_nothing known)
    → ((terminal : Terminal) → SettlesAt known number header (requests.Reconciliation period) terminal → P (settled_row known till header terminal))
    → ((terminal : Terminal) (last : ℕ) → BeginsDayAt known number header (requests.Reconciliation period) terminal last → P (day_row known number till header terminal last))
    → P (of_terminal known (reconciliation_row known number till header period) (terminal_at known number))
each-reconciled P known number till header period none settles day =
    each-terminal P known number (reconciliation_row known number till header period) none
    (λ terminal found. by-where P known (begins_period known number till header period terminal)
    (is_beginning (step_result known header (requests.Reconciliation period) (Some (record { number = number; terminal = terminal })))) none
    (λ begins_is. period-in P known number till header period terminal none
    (λ is. settles terminal (record { request_is = ap requests.Reconciliation is; found = found; begins_is = begins_is }))
    (λ last is ready. day terminal last (record { request_is = ap requests.Reconciliation is; found = found; standing_is = ready; begins_is = begins_is }))))

-- ---- what is shown

-- why a terminal begins to show outputs: it is there and ready, the steps of a Display say so, and this is what there is to show
pub record ShowsAt (known : Known) (number : ℕ) (header : Header) (request : SaleRequest) (terminal : Terminal) (last : ℕ) (outputs : List Output) (command : Command) : Type 0 where
  pub request_is : request ≡ requests.Display outputs
  pub found : terminal_at known number ≡ Some terminal
  pub standing_is : terminal.standing ≡ Ready last
  pub begins_is : is_beginning (display_result outputs (Some (record { number = number; terminal = terminal }))) ≡ true
  pub shown_is : show outputs ≡ Some command

-- what it leaves and owes then
abbrev pub shown_row : Known → ℕ → ℕ → Header → Terminal → ℕ → List Output → Command → Row
shown_row known number till header terminal last outputs command =
    terminal_becomes known number (asked_to_show known till terminal last header outputs command) (SendPt number (Ask command) ∷ [])

shown-some : (P : Row → Type 0) (known : Known) (number till : ℕ) (header : Header) (outputs : List Output) (terminal : Terminal) (last : ℕ) (asked : Option Command) → P (owing_nothing known)
    → ((command : Command) → asked ≡ Some command → P (shown_row known number till header terminal last outputs command)) → P (shows known number till header outputs terminal last asked)
shown-some P known number till header outputs terminal last None none some = none
shown-some P known number till header outputs terminal last (Some command) none some = some command refl

shown-in : (P : Row → Type 0) (known : Known) (number till : ℕ) (header : Header) (outputs : List Output) (terminal : Terminal) (standing : Standing) → P (owing_nothing known)
    → ((last : ℕ) (command : Command) → standing ≡ Ready last → show outputs ≡ Some command → P (shown_row known number till header terminal last outputs command))
    → P (shows_in known number till header outputs terminal standing)
shown-in P known number till header outputs terminal (Unlinked due) none some = none
shown-in P known number till header outputs terminal Registering none some = none
shown-in P known number till header outputs terminal Enquiring none some = none
shown-in P known number till header outputs terminal (Ready last) none some = shown-some P known number till header outputs terminal last (show outputs) none (λ command is. some last command refl is)
shown-in P known number till header outputs terminal (Serving service last) none some = none
shown-in P known number till header outputs terminal (Aside before reported) none some = none

-- what holds of nothing owed, and of what begins to be shown, holds of the row of a Display
pub each-shown : (P : Row → Type 0) (known : Known) (number till : ℕ) (header : Header) (outputs : List Output) → P (owing_nothing known)
    → ((terminal : Terminal) (last : ℕ) (command : Command) → ShowsAt known number header (requests.Display outputs) terminal last outputs command → P (shown_row known number till header terminal last outputs command))
    → P (of_terminal known (display_row known number till header outputs) (terminal_at known number))
each-shown P known number till header outputs none some =
    each-terminal P known number (display_row known number till header outputs) none
    (λ terminal found. by-where P known (shows_in known number till header outputs terminal terminal.standing)
    (is_beginning (display_result outputs (Some (record { number = number; terminal = terminal })))) none
    (λ begins_is. shown-in P known number till header outputs terminal terminal.standing none
    (λ last command ready is. some terminal last command (record { request_is = refl; found = found; standing_is = ready; begins_is = begins_is; shown_is = is }))))

-- ---- the row

-- This holds in each case of what a terminal serves: of nothing owed; of each payment and reversal that begins; of each stop, sent or wished alone; of each Login and Logout that succeeds; of each reconciliation that is settled; of each end of day and each display that begins.
pub record EachCase (P : Row → Type 0) (known : Known) (number till : ℕ) (header : Header) (request : SaleRequest) : Type 0 where
  pub none : P (owing_nothing known)
  pub begins : (terminal : Terminal) (last : ℕ) (asking : Asking) → BeginsAt known number header request terminal last asking → P (beginning_row known number till terminal last asking.intent asking.original)
  pub sent : (terminal : Terminal) (talk : TalkFacts) → StopsAt known number header request terminal talk → may_send_stop talk.phase ≡ true → P (stops known number (wishing terminal talk))
  pub wished : (terminal : Terminal) (talk : TalkFacts) → StopsAt known number header request terminal talk → may_send_stop talk.phase ≡ false → P (staying known number (wishing terminal talk))
  pub session : BeginsSession known number header request → P (becoming (record known.core { logged_out = pairs_after known.core header request }) (SendTill till (success_reply header) ∷ []))
  pub settles : (terminal : Terminal) → SettlesAt known number header request terminal → P (settled_row known till header terminal)
  pub day : (terminal : Terminal) (last : ℕ) → BeginsDayAt known number header request terminal last → P (day_row known number till header terminal last)
  pub displays : (terminal : Terminal) (last : ℕ) (outputs : List Output) (command : Command) → ShowsAt known number header request terminal last outputs command → P (shown_row known number till header terminal last outputs command)

-- what holds in each case holds of the row
pub each-served : (P : Row → Type 0) (known : Known) (number till : ℕ) (header : Header) (request : SaleRequest) → EachCase P known number till header request → P (serve_row known number till header request)
each-served P known number till header requests.Login cases = session-served P known number till header requests.Login refl cases.none cases.session
each-served P known number till header requests.Logout cases = session-served P known number till header requests.Logout refl cases.none cases.session
each-served P known number till header (requests.Payment payment) cases = begun P known number till header (requests.Payment payment) cases.none cases.begins
each-served P known number till header (requests.Reversal reversal) cases = begun P known number till header (requests.Reversal reversal) cases.none cases.begins
each-served P known number till header (requests.Abort reference) cases = each-stopped P known number header reference cases.none cases.sent cases.wished
each-served P known number till header (requests.Status reference) cases = cases.none
each-served P known number till header (requests.Reconciliation period) cases = each-reconciled P known number till header period cases.none cases.settles cases.day
each-served P known number till header (requests.Display outputs) cases = each-shown P known number till header outputs cases.none (λ terminal last command at. cases.displays terminal last outputs command at)
each-served P known number till header (requests.Print qualifier) cases = cases.none
each-served P known number till header requests.Diagnosis cases = cases.none

-- ---- what the steps say of a request that begins

-- the result of the seventeen steps, by whether each applies; the last two are about how many wait
abbrev result-of-table : Bool → Bool → Bool → Bool → Bool → Bool → Bool → Bool → Bool → Bool → Bool → Bool → Bool → Bool → Bool → Bool → Bool → StepResult
result-of-table kept in_progress other_content pending_again pending_key unnamed logged_out unserved other_currency no_original irreversible used_up no_room settling unavailable ready full =
    if kept then KeptReply else (if in_progress then Fails InProgress else (if other_content then Fails NotAllowed else (if pending_again then Fails InProgress else (if pending_key then Fails NotAllowed else (if unnamed then Fails UnavailableDevice else (if logged_out then Fails LoggedOut else (if unserved then Fails UnavailableService else (if other_currency then Fails NotAllowed else (if no_original then Fails NotFound else (if irreversible then Fails NotAllowed else (if used_up then Fails UnavailableService else (if no_room then Fails UnavailableService else (if settling then Begins else (if unavailable then Fails UnavailableDevice else (if ready then Begins else (if full then Fails Busy else Waits))))))))))))))))

-- no step before the last applies, and the terminal is ready, unless it isn't asked
pub record PassesSteps (known : Known) (header : Header) (request : SaleRequest) (named : Option NamedTerminal) : Type 0 where
  pub unknown : found_for known.kept header ≡ None
  pub not_pending : is_pending_key known.core header named ≡ false
  pub there : is_some named ≡ true
  pub logged_in : is_logged_out known.core header.sale header.poi ≡ false
  pub served : is_unserved request ≡ false
  pub currency : asks_other_currency request named ≡ false
  pub original : names_none known.kept header.poi request ≡ false
  pub reversible : names_irreversible known.kept header.poi request ≡ false
  pub number_left : (asks_transaction request && is_used_up known.kept header.poi named) ≡ false
  pub room : lacks_room known.setup.slots known.kept known.core ≡ false
  pub ready : (asks_settling request || is_ready named) ≡ true

-- no step applies, and fewer requests wait for the terminal than may
pub record WaitsSteps (known : Known) (header : Header) (request : SaleRequest) (named : Option NamedTerminal) : Type 0 where
  pub unknown : found_for known.kept header ≡ None
  pub not_pending : is_pending_key known.core header named ≡ false
  pub there : is_some named ≡ true
  pub logged_in : is_logged_out known.core header.sale header.poi ≡ false
  pub served : is_unserved request ≡ false
  pub currency : asks_other_currency request named ≡ false
  pub original : names_none known.kept header.poi request ≡ false
  pub reversible : names_irreversible known.kept header.poi request ≡ false
  pub number_left : (asks_transaction request && is_used_up known.kept header.poi named) ≡ false
  pub room : lacks_room known.setup.slots known.kept known.core ≡ false
  pub own : asks_settling request ≡ false
  pub available : is_unavailable named ≡ false
  pub not_ready : is_ready named ≡ false
  pub not_full : is_queue_full known named ≡ false

-- of the first thirteen steps none applies
record NoneApplies (kept in_progress other_content pending_again pending_key unnamed logged_out unserved other_currency no_original irreversible used_up no_room : Bool) : Type 0 where
  pub kept_is : kept ≡ false
  pub in_progress_is : in_progress ≡ false
  pub other_content_is : other_content ≡ false
  pub pending_again_is : pending_again ≡ false
  pub pending_key_is : pending_key ≡ false
  pub unnamed_is : unnamed ≡ false
  pub logged_out_is : logged_out ≡ false
  pub unserved_is : unserved ≡ false
  pub other_currency_is : other_currency ≡ false
  pub no_original_is : no_original ≡ false
  pub irreversible_is : irreversible ≡ false
  pub used_up_is : used_up ≡ false
  pub no_room_is : no_room ≡ false

-- where it begins, none of them applies, and the terminal isn't asked or is ready
only-last : (kept in_progress other_content pending_again pending_key unnamed logged_out unserved other_currency no_original irreversible used_up no_room settling unavailable ready full : Bool) → is_beginning (result-of-table kept in_progress other_content pending_again pending_key unnamed logged_out unserved other_currency no_original irreversible used_up no_room settling unavailable ready full) ≡ true
    → NoneApplies kept in_progress other_content pending_again pending_key unnamed logged_out unserved other_currency no_original irreversible used_up no_room × ((settling || ready) ≡ true)
only-last true in_progress other_content pending_again pending_key unnamed logged_out unserved other_currency no_original irreversible used_up no_room settling unavailable ready full begins_is = absurd cc
only-last false true other_content pending_again pending_key unnamed logged_out unserved other_currency no_original irreversible used_up no_room settling unavailable ready full begins_is = absurd cc
only-last false false true pending_again pending_key unnamed logged_out unserved other_currency no_original irreversible used_up no_room settling unavailable ready full begins_is = absurd cc
only-last false false false true pending_key unnamed logged_out unserved other_currency no_original irreversible used_up no_room settling unavailable ready full begins_is = absurd cc
only-last false false false false true unnamed logged_out unserved other_currency no_original irreversible used_up no_room settling unavailable ready full begins_is = absurd cc
only-last false false false false false true logged_out unserved other_currency no_original irreversible used_up no_room settling unavailable ready full begins_is = absurd cc
only-last false false false false false false true unserved other_currency no_original irreversible used_up no_room settling unavailable ready full begins_is = absurd cc
only-last false false false false false false false true other_currency no_original irreversible used_up no_room settling unavailable ready full begins_is = absurd cc
only-last false false false false false false false false true no_original irreversible used_up no_room settling unavailable ready full begins_is = absurd cc
only-last false false false false false false false false false true irreversible used_up no_room settling unavailable ready full begins_is = absurd cc
only-last false false false false false false false false false false true used_up no_room settling unavailable ready full begins_is = absurd cc
only-last false false false false false false false false false false false true no_room settling unavailable ready full begins_is = absurd cc
only-last false false false false false false false false false false false false true settling unavailable ready full begins_is = absurd cc
only-last false false false false false false false false false false false false false true unavailable ready full begins_is = (record { kept_is = refl; in_progress_is = refl; other_content_is = refl; pending_again_is = refl; pending_key_is = refl; unnamed_is = refl; logged_out_is = refl; unserved_is = refl; other_currency_is = refl; no_original_is = refl; irreversible_is = refl; used_up_is = refl; no_room_is = refl }, refl)
only-last false false false false false false false false false false false false false false true ready full begins_is = absurd cc
only-last false false false false false false false false false false false false false false false true full begins_is = (record { kept_is = refl; in_progress_is = refl; other_content_is = refl; pending_again_is = refl; pending_key_is = refl; unnamed_is = refl; logged_out_is = refl; unserved_is = refl; other_currency_is = refl; no_original_is = refl; irreversible_is = refl; used_up_is = refl; no_room_is = refl }, refl)
only-last false false false false false false false false false false false false false false false false true begins_is = absurd cc
only-last false false false false false false false false false false false false false false false false false begins_is = absurd cc

-- what is so of the others where it waits
record LastWaits (settling unavailable ready full : Bool) : Type 0 where
  pub settling_is : settling ≡ false
  pub unavailable_is : unavailable ≡ false
  pub ready_is : ready ≡ false
  pub full_is : full ≡ false

-- where it waits, no step applies
only-waits : (kept in_progress other_content pending_again pending_key unnamed logged_out unserved other_currency no_original irreversible used_up no_room settling unavailable ready full : Bool) → is_waiting_result (result-of-table kept in_progress other_content pending_again pending_key unnamed logged_out unserved other_currency no_original irreversible used_up no_room settling unavailable ready full) ≡ true
    → NoneApplies kept in_progress other_content pending_again pending_key unnamed logged_out unserved other_currency no_original irreversible used_up no_room × LastWaits settling unavailable ready full
only-waits true in_progress other_content pending_again pending_key unnamed logged_out unserved other_currency no_original irreversible used_up no_room settling unavailable ready full waits_is = absurd cc
only-waits false true other_content pending_again pending_key unnamed logged_out unserved other_currency no_original irreversible used_up no_room settling unavailable ready full waits_is = absurd cc
only-waits false false true pending_again pending_key unnamed logged_out unserved other_currency no_original irreversible used_up no_room settling unavailable ready full waits_is = absurd cc
only-waits false false false true pending_key unnamed logged_out unserved other_currency no_original irreversible used_up no_room settling unavailable ready full waits_is = absurd cc
only-waits false false false false true unnamed logged_out unserved other_currency no_original irreversible used_up no_room settling unavailable ready full waits_is = absurd cc
only-waits false false false false false true logged_out unserved other_currency no_original irreversible used_up no_room settling unavailable ready full waits_is = absurd cc
only-waits false false false false false false true unserved other_currency no_original irreversible used_up no_room settling unavailable ready full waits_is = absurd cc
only-waits false false false false false false false true other_currency no_original irreversible used_up no_room settling unavailable ready full waits_is = absurd cc
only-waits false false false false false false false false true no_original irreversible used_up no_room settling unavailable ready full waits_is = absurd cc
only-waits false false false false false false false false false true irreversible used_up no_room settling unavailable ready full waits_is = absurd cc
only-waits false false false false false false false false false false true used_up no_room settling unavailable ready full waits_is = absurd cc
only-waits false false false false false false false false false false false true no_room settling unavailable ready full waits_is = absurd cc
only-waits false false false false false false false false false false false false true settling unavailable ready full waits_is = absurd cc
only-waits false false false false false false false false false false false false false true unavailable ready full waits_is = absurd cc
only-waits false false false false false false false false false false false false false false true ready full waits_is = absurd cc
only-waits false false false false false false false false false false false false false false false true full waits_is = absurd cc
only-waits false false false false false false false false false false false false false false false false true waits_is = absurd cc
only-waits false false false false false false false false false false false false false false false false false waits_is = (record { kept_is = refl; in_progress_is = refl; other_content_is = refl; pending_again_is = refl; pending_key_is = refl; unnamed_is = refl; logged_out_is = refl; unserved_is = refl; other_currency_is = refl; no_original_is = refl; irreversible_is = refl; used_up_is = refl; no_room_is = refl }, record { settling_is = refl; unavailable_is = refl; ready_is = refl; full_is = refl })

none-found : (found : Option Found) → is_some found ≡ false → found ≡ None
none-found None none = refl
none-found (Some found) none = absurd cc

not-none : (named : Option NamedTerminal) → not (is_some named) ≡ false → is_some named ≡ true
not-none None none = absurd cc
not-none (Some named) none = refl

pub passes-steps : (known : Known) (header : Header) (request : SaleRequest) (named : Option NamedTerminal) → is_beginning (step_result known header request named) ≡ true → PassesSteps known header request named
passes-steps known header request named begins_is =
    let found = found_for known.kept header in
    let last = only-last (is_repeated known.kept request found && has_reply found) (is_repeated known.kept request found) (is_some found) (is_pending_again known header request named) (is_pending_key known.core header named) (not (is_some named))
    (is_logged_out known.core header.sale header.poi) (is_unserved request) (asks_other_currency request named) (names_none known.kept header.poi request) (names_irreversible known.kept header.poi request)
    (asks_transaction request && is_used_up known.kept header.poi named) (lacks_room known.setup.slots known.kept known.core) (asks_settling request) (is_unavailable named) (is_ready named) (is_queue_full known named) begins_is in
    record {
      unknown = none-found found last.0.other_content_is;
      not_pending = last.0.pending_key_is;
      there = not-none named last.0.unnamed_is;
      logged_in = last.0.logged_out_is;
      served = last.0.unserved_is;
      currency = last.0.other_currency_is;
      original = last.0.no_original_is;
      reversible = last.0.irreversible_is;
      number_left = last.0.used_up_is;
      room = last.0.no_room_is;
      ready = last.1;
    }

-- what the steps say of a request that waits
pub waits-steps : (known : Known) (header : Header) (request : SaleRequest) (named : Option NamedTerminal) → is_waiting_result (step_result known header request named) ≡ true → WaitsSteps known header request named
waits-steps known header request named waits_is =
    let found = found_for known.kept header in
    let last = only-waits (is_repeated known.kept request found && has_reply found) (is_repeated known.kept request found) (is_some found) (is_pending_again known header request named) (is_pending_key known.core header named) (not (is_some named))
    (is_logged_out known.core header.sale header.poi) (is_unserved request) (asks_other_currency request named) (names_none known.kept header.poi request) (names_irreversible known.kept header.poi request)
    (asks_transaction request && is_used_up known.kept header.poi named) (lacks_room known.setup.slots known.kept known.core) (asks_settling request) (is_unavailable named) (is_ready named) (is_queue_full known named) waits_is in
    record {
      unknown = none-found found last.0.other_content_is;
      not_pending = last.0.pending_key_is;
      there = not-none named last.0.unnamed_is;
      logged_in = last.0.logged_out_is;
      served = last.0.unserved_is;
      currency = last.0.other_currency_is;
      original = last.0.no_original_is;
      reversible = last.0.irreversible_is;
      number_left = last.0.used_up_is;
      room = last.0.no_room_is;
      own = last.1.settling_is;
      available = last.1.unavailable_is;
      not_ready = last.1.ready_is;
      not_full = last.1.full_is;
    }
