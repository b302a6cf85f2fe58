-- Laws of Login and Logout: what one gets, who is logged out, and what a till that is logged out gets.
use Rattle.std.specs.Prelude.{◌≡◌, ◌≤◌, ℕ, bytes_eq, is_some, not, Bool, true, false, ◌&&◌, ◌||◌, if◌then◌else◌, List, [], ◌∷◌, length, Option, Some, None, unwrap_or}
use Rattle.gw_base.specs.declared.condition.Condition.{Condition}
use Rattle.gw_base.specs.declared.condition.Condition.TheVariants.{LoggedOut, UnavailableDevice, UnavailableService}
use Rattle.gw_base.specs.declared.setup.Setup.{Setup}
use Rattle.gw_site.specs.Outside.{Connection, is_connected}
use Rattle.sale_values.specs.declared.header.Header.{Header}
use Rattle.sale_values.specs.declared.request.SaleRequest.{SaleRequest}
use Rattle.sale_values.specs.declared.request.SaleRequest.TheVariants as requests
use Rattle.jrn_record.specs.declared.records.Record.{Record}
use Rattle.gw_owes.specs.declared.terminal.Terminal.{Terminal}
use Rattle.gw_owes.specs.Calls.{OwedCall, SendTill, SendPt, CutTill, CutPt, LinkPt, WriteBody, WriteGate, WriteFirstGate, Sync}
use Rattle.gw_owes.specs.Core.{Core}
use Rattle.gw_owes.specs.Waits.{is_pending_key}
use Rattle.gw_owes.specs.Diagnosis.{NamedTerminal, named_terminal}
use Rattle.gw_owes.specs.Items.{RoundItem, Crowded, Message, Asked, Unframed, Gone, Greet, Handle, Serve, Queue, NextWaiting, Oversized, LinkLost, Late, Overdue, Due}
use Rattle.gw_owes.specs.KeptReplies.{found_for}
use Rattle.gw_owes.specs.Links.{LinkEvent, link_row}
use Rattle.gw_owes.specs.PaymentLaws.{BeginsThere}
use Rattle.gw_owes.specs.ReadAs.{Request}
use Rattle.gw_owes.specs.Reply.{ReplyValue, Plain, Finished, Repeated, Diagnosis, Display, Print, DisplayRequest, PrintRequest, Reject}
use Rattle.gw_owes.specs.Replies.{header_of_reply, failure_reply}
use Rattle.gw_owes.specs.Requests.{request_reply}
use Rattle.gw_owes.specs.Row.{Known, Row}
use Rattle.gw_owes.specs.Rows.{row_of}
use Rattle.gw_owes.specs.Sessions.{is_logged_out, is_session, most_logged_out}
use Rattle.gw_owes.specs.StepLaws.{has_steps}
use Rattle.gw_owes.specs.TerminalRows.{terminal_row}
use Rattle.gw_owes.specs.Terminals.{terminal_at}
use Rattle.gw_owes.specs.Transcript.{TerminalStep, HandlesItem, ChangesLink, ChangesWaits, StepAt, known_before, known_after, core_along, known_new}

-- ---- what a Login or a Logout gets

-- the request is a Logout of a pair that isn't logged out, while as many pairs are as may be
pub record IsOneTooMany (core : Core) (header : Header) (request : SaleRequest) : Type 0 where
  pub logout : request ≡ requests.Logout
  pub new_pair : is_logged_out core header.sale header.poi ≡ false
  pub full : most_logged_out ≤ length core.logged_out

-- the till gets a Failure for this reason, and nothing else comes of it
pub record FailsAlone (till : ℕ) (header : Header) (condition : Condition) (row : Row) : Type 0 where
  pub reply : row.calls ≡ SendTill till (failure_reply header condition) ∷ []
  pub none_more : row.items ≡ []

-- A Login or a Logout fails where its POIID isn't configured, and where it is one too many; else it is served at the terminal that its POIID names, and there is no reply yet.
pub record SessionIsReplied (known : Known) (till : ℕ) (header : Header) (request : SaleRequest) (row : Row) : Type 0 where
  pub unconfigured : named_terminal known.core header.poi ≡ None → FailsAlone till header UnavailableDevice row
  pub too_many : (named : NamedTerminal) → named_terminal known.core header.poi ≡ Some named → IsOneTooMany known.core header request → FailsAlone till header UnavailableService row
  pub served : (named : NamedTerminal) → named_terminal known.core header.poi ≡ Some named → (IsOneTooMany known.core header request → ⊥) → BeginsThere till header request named.number row

-- so it is of each, of a till that is there
abbrev pub EachSessionIsReplied : Type 0
EachSessionIsReplied =
    (tills : List Connection) (known : Known) (till : ℕ) (header : Header) (request : SaleRequest) → is_connected tills till ≡ true → is_session request ≡ true
    → SessionIsReplied known till header request (row_of tills known (Asked till (Request header request)))

-- one that is served succeeds: its till gets a Success, after a Logout the pair is logged out, and after a Login it isn't; nothing else changes
pub record SessionSucceeds (known : Known) (till : ℕ) (header : Header) (request : SaleRequest) (row : Row) : Type 0 where
  pub reply : row.calls ≡ SendTill till (Plain (header_of_reply header) (record { condition = None; path = None })) ∷ []
  pub none_more : row.items ≡ []
  pub logged_out : request ≡ requests.Logout → is_logged_out row.core header.sale header.poi ≡ true
  pub logged_in : request ≡ requests.Login → is_logged_out row.core header.sale header.poi ≡ false
  pub others_stay : row.core ≡ record known.core { logged_out = row.core.logged_out }

-- so it is of each that isn't one too many
abbrev pub EachServedSessionSucceeds : Type 0
EachServedSessionSucceeds =
    (tills : List Connection) (known : Known) (number till : ℕ) (header : Header) (request : SaleRequest) (terminal : Terminal) → is_session request ≡ true → terminal_at known number ≡ Some terminal
    → (IsOneTooMany known.core header request → ⊥) → SessionSucceeds known till header request (row_of tills known (Serve number till header request))

-- another SaleID at the same POIID, and the same SaleID at another, is logged out after it where it was before
abbrev pub EachOtherPairStays : Type 0
EachOtherPairStays =
    (tills : List Connection) (known : Known) (number till : ℕ) (header : Header) (request : SaleRequest) (sale poi : List ℕ) → is_session request ≡ true → (sale ≡ header.sale → poi ≡ header.poi → ⊥)
    → is_logged_out (row_of tills known (Serve number till header request)).core sale poi ≡ is_logged_out known.core sale poi

-- ---- what a till that is logged out gets

-- a Payment, a Reversal or a Reconciliation of a till that is logged out at the terminal that its POIID names, on a key that isn't on record, doesn't wait, and isn't that of the end of day that is served there
pub record IsOfLoggedOut (known : Known) (header : Header) (request : SaleRequest) : Type 0 where
  pub steps : has_steps request ≡ true
  pub unknown : found_for known.kept header ≡ None
  pub named : NamedTerminal
  pub named_is : named_terminal known.core header.poi ≡ Some named
  pub not_pending : is_pending_key known.core header (Some named) ≡ false
  pub logged_out : is_logged_out known.core header.sale header.poi ≡ true

-- it fails with `LoggedOut`
abbrev pub LoggedOutFails : Type 0
LoggedOutFails =
    (tills : List Connection) (known : Known) (till : ℕ) (header : Header) (request : SaleRequest) → is_connected tills till ≡ true → IsOfLoggedOut known header request
    → FailsAlone till header LoggedOut (row_of tills known (Asked till (Request header request)))

-- and no other request does
abbrev pub OnlyLoggedOutFails : Type 0
OnlyLoggedOutFails = (known : Known) (header : Header) (request : SaleRequest) → request_reply known header request ≡ Some (failure_reply header LoggedOut) → IsOfLoggedOut known header request

-- ---- along a run

-- the reply is a Success in a response object alone
abbrev pub is_plain_success : ReplyValue → Bool
is_plain_success (Plain header verdict) = not (is_some verdict.condition)
is_plain_success (Finished header result) = false
is_plain_success (Repeated header repeated result) = false
is_plain_success (Diagnosis header status) = false
is_plain_success (Display header outputs) = false
is_plain_success (Print header qualifier verdict) = false
is_plain_success (DisplayRequest header code) = false
is_plain_success (PrintRequest header lines) = false
is_plain_success (Reject sale poi moment detail) = false

-- one of these calls sends a till such a Success
abbrev pub sends_success : List OwedCall → Bool
sends_success [] = false
sends_success (SendTill till reply ∷ calls) = is_plain_success reply || sends_success calls
sends_success (SendPt number sending ∷ calls) = sends_success calls
sends_success (CutTill till ∷ calls) = sends_success calls
sends_success (CutPt number ∷ calls) = sends_success calls
sends_success (LinkPt number ∷ calls) = sends_success calls
sends_success (WriteBody slot the_record ∷ calls) = sends_success calls
sends_success (WriteGate slot the_record ∷ calls) = sends_success calls
sends_success (WriteFirstGate ∷ calls) = sends_success calls
sends_success (Sync ∷ calls) = sends_success calls

-- whether a request logs its pair out: a Logout does, a Login doesn't, and another request says nothing of it
abbrev pub logs_out : SaleRequest → Option Bool
logs_out requests.Login = Some false
logs_out requests.Logout = Some true
logs_out (requests.Payment ask) = None
logs_out (requests.Reversal ask) = None
logs_out (requests.Abort reference) = None
logs_out (requests.Status reference) = None
logs_out (requests.Reconciliation period) = None
logs_out (requests.Display outputs) = None
logs_out (requests.Print qualifier) = None
logs_out requests.Diagnosis = None

-- whether an item logs out this SaleID at this POIID, where it is a Login or a Logout of both
abbrev pub item_logs_out : List ℕ → List ℕ → RoundItem → Option Bool
item_logs_out sale poi (Crowded till) = None
item_logs_out sale poi (Message till bytes) = None
item_logs_out sale poi (Asked till as_read) = None
item_logs_out sale poi (Unframed till) = None
item_logs_out sale poi (Gone till) = None
item_logs_out sale poi (Greet number apdu) = None
item_logs_out sale poi (Handle number apdu) = None
item_logs_out sale poi (Serve number till header request) = if bytes_eq header.sale sale && bytes_eq header.poi poi then logs_out request else None
item_logs_out sale poi (Queue number till header request) = None
item_logs_out sale poi (NextWaiting number) = None
item_logs_out sale poi (Oversized number) = None
item_logs_out sale poi (LinkLost number) = None
item_logs_out sale poi (Late number) = None
item_logs_out sale poi (Overdue key) = None
item_logs_out sale poi (Due number) = None

-- whether a step logs it out, where it is a Login or a Logout that gets a Success
abbrev pub step_logs_out : List ℕ → List ℕ → Known → TerminalStep → Option Bool
step_logs_out sale poi known (HandlesItem item) = if sends_success (terminal_row known item).calls then item_logs_out sale poi item else None
step_logs_out sale poi known (ChangesLink number event) = None
step_logs_out sale poi known (ChangesWaits waits) = None

-- whether the last Login or Logout that gets a Success in these steps is a Logout; where there is none, this
abbrev pub last_logs_out : List ℕ → List ℕ → Known → Bool → List StepAt → Bool
last_logs_out sale poi known before [] = before
last_logs_out sale poi known before (first ∷ rest) = last_logs_out sale poi (known_after known first) (unwrap_or (step_logs_out sale poi (known_before known first) first.step) before) rest

-- after every list of steps from where a run begins, a SaleID is logged out at a POIID exactly where the last Login or Logout of both in this run that got a Success is a Logout
abbrev pub EachStepFollowsLast : Type 0
EachStepFollowsLast =
    (setup : Setup) (kept : List Record) (steps : List StepAt) (sale poi : List ℕ) → is_logged_out (core_along (known_new setup kept) steps) sale poi ≡ last_logs_out sale poi (known_new setup kept) false steps

-- and never more pairs are than may be
abbrev pub EachStepKeepsFew : Type 0
EachStepKeepsFew = (setup : Setup) (kept : List Record) (steps : List StepAt) → length (core_along (known_new setup kept) steps).logged_out ≤ most_logged_out

-- the item serves a Login or a Logout
abbrev pub serves_session : RoundItem → Bool
serves_session (Crowded till) = false
serves_session (Message till bytes) = false
serves_session (Asked till as_read) = false
serves_session (Unframed till) = false
serves_session (Gone till) = false
serves_session (Greet number apdu) = false
serves_session (Handle number apdu) = false
serves_session (Serve number till header request) = is_session request
serves_session (Queue number till header request) = false
serves_session (NextWaiting number) = false
serves_session (Oversized number) = false
serves_session (LinkLost number) = false
serves_session (Late number) = false
serves_session (Overdue key) = false
serves_session (Due number) = false

-- no other item changes who is logged out
abbrev pub EachOtherItemKeepsPairs : Type 0
EachOtherItemKeepsPairs = (tills : List Connection) (known : Known) (item : RoundItem) → serves_session item ≡ false → (row_of tills known item).core.logged_out ≡ known.core.logged_out

-- and no event of a link does
abbrev pub EachLinkKeepsPairs : Type 0
EachLinkKeepsPairs = (known : Known) (number : ℕ) (event : LinkEvent) → (link_row known number event).core.logged_out ≡ known.core.logged_out
