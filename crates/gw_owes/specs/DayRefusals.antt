-- Why a Reconciliation fails, or gets its reply again, or begins: each condition's cause, in the order of the steps.
use Rattle.std.specs.Prelude.{◌≡◌, ◌≢◌, ◌⊎◌, ℕ, true, false, List, [], Option, Some, None}
use Rattle.gw_base.specs.declared.condition.Condition.{Condition}
use Rattle.gw_base.specs.declared.condition.Condition.TheVariants.{Aborted, Busy, Cancel, InProgress, InsertedCard, InvalidCard, LoggedOut, MessageFormat, NotAllowed, NotFound, Refusal, UnavailableDevice, UnavailableService}
use Rattle.gw_site.specs.Outside.{Connection}
use Rattle.sale_values.specs.declared.header.Header.{Header}
use Rattle.sale_values.specs.declared.names.Period.{Period}
use Rattle.sale_values.specs.declared.names.Period.TheVariants.{SaleReconciliation, AcquirerReconciliation}
use Rattle.sale_values.specs.declared.request.SaleRequest.TheVariants as requests
use Rattle.sale_reply.specs.declared.reply.Told.{Told as ResultBody}
use Rattle.gw_ledger.specs.declared.entry.Found.{Found}
use Rattle.xlate.specs.Reply.{header_of, result_body_of}
use Rattle.gw_owes.specs.declared.terminal.Service.{Service}
use Rattle.gw_owes.specs.declared.terminal.Standing.TheVariants.{Ready, Serving}
use Rattle.gw_owes.specs.Content.{has_same_content}
use Rattle.gw_owes.specs.DayLaws.{PassesUpToStanding}
use Rattle.gw_owes.specs.Diagnosis.{NamedTerminal, named_terminal}
use Rattle.gw_owes.specs.Items.{Asked}
use Rattle.gw_owes.specs.KeptReplies.{found_for}
use Rattle.gw_owes.specs.ReadAs.{Request}
use Rattle.gw_owes.specs.Replies.{failure_reply}
use Rattle.gw_owes.specs.Reply.{Finished}
use Rattle.gw_owes.specs.Requests.{request_reply}
use Rattle.gw_owes.specs.ReversalLaws.{IsNewAtTerminal, IsNewOfTill, IsPendingAgain, IsPendingOtherwise, NamesNoTerminal}
use Rattle.gw_owes.specs.Row.{Known}
use Rattle.gw_owes.specs.Rows.{row_of}
use Rattle.gw_owes.specs.Sessions.{is_logged_out}
use Rattle.gw_owes.specs.Steps.{Waits, is_out_of_service, is_unserved_period, lacks_room, step_result}
use Rattle.gw_owes.specs.Waits.{is_queue_full}

-- ---- why it fails

-- the key is on record with other content
pub record IsOnRecordOtherwise (known : Known) (header : Header) (period : Period) : Type 0 where
  pub found : Found
  pub on_record : found_for known.kept header ≡ Some found
  pub other : has_same_content known.kept (requests.Reconciliation period) found ≡ false

-- its key is new, its till isn't logged out at the terminal that its POIID names, and its type is served
pub record IsOfServedType (known : Known) (header : Header) (period : Period) (named : Option NamedTerminal) : Type 0 where
  pub of_till : IsNewOfTill known header named
  pub served : is_unserved_period period ≡ false

-- it is an end of day, and passes its steps up to those about the standing of the terminal that its POIID names
pub record AsksTerminal (known : Known) (header : Header) (period : Period) (named : Option NamedTerminal) : Type 0 where
  pub terminal : NamedTerminal
  pub is_named : named ≡ Some terminal
  pub may : PassesUpToStanding known header terminal
  pub day : period ≡ AcquirerReconciliation

-- and that one takes no request: it isn't linked, it registers, it is enquired, or it is set aside
pub record FindsNoService (known : Known) (header : Header) (period : Period) (named : Option NamedTerminal) : Type 0 where
  pub asks : AsksTerminal known header period named
  pub out : is_out_of_service asks.terminal.terminal.standing ≡ true

-- and that one serves another request
pub record FindsServing (known : Known) (header : Header) (period : Period) (named : Option NamedTerminal) : Type 0 where
  pub asks : AsksTerminal known header period named
  pub service : Service
  pub last : ℕ
  pub serves : asks.terminal.terminal.standing ≡ Serving service last

-- Why a Reconciliation fails with this condition; it never fails with another. The causes have this order, and each says that none before it holds: the key is on record with other content; it waits or is that of the end of day that is served, and the same is asked for again, or anything else is; the POIID names no terminal; the till is logged out there; the type isn't served; there is no room; and of an end of day, the terminal takes no request, or it serves another and as many requests wait for it as may.
abbrev pub RefusesReconciliation : Known → Header → Period → Option NamedTerminal → Condition → Type 0
RefusesReconciliation known header period named Aborted = ⊥
RefusesReconciliation known header period named Busy = FindsServing known header period named × (is_queue_full known named ≡ true)
RefusesReconciliation known header period named Cancel = ⊥
RefusesReconciliation known header period named InProgress = IsPendingAgain known header (requests.Reconciliation period) named
RefusesReconciliation known header period named InsertedCard = ⊥
RefusesReconciliation known header period named InvalidCard = ⊥
RefusesReconciliation known header period named LoggedOut = IsNewAtTerminal known header named × (is_logged_out known.core header.sale header.poi ≡ true)
RefusesReconciliation known header period named MessageFormat = ⊥
RefusesReconciliation known header period named NotAllowed = IsOnRecordOtherwise known header period ⊎ IsPendingOtherwise known header (requests.Reconciliation period) named
RefusesReconciliation known header period named NotFound = ⊥
RefusesReconciliation known header period named Refusal = ⊥
RefusesReconciliation known header period named UnavailableDevice = NamesNoTerminal known header named ⊎ FindsNoService known header period named
RefusesReconciliation known header period named UnavailableService =
    (IsNewOfTill known header named × (is_unserved_period period ≡ true)) ⊎ (IsOfServedType known header period named × (lacks_room known.setup.slots known.kept known.core ≡ true))

-- ---- what becomes of it

-- it may begin: it is the till's own, or an end of day at a terminal that is ready
abbrev pub MayBeginAt : Period → NamedTerminal → Type 0
MayBeginAt period terminal = (period ≡ SaleReconciliation) ⊎ ((period ≡ AcquirerReconciliation) × ((last : ℕ) × (terminal.terminal.standing ≡ Ready last)))

-- it begins, and there is no reply yet
pub record ReconciliationIsBegun (known : Known) (header : Header) (period : Period) (named : Option NamedTerminal) : Type 0 where
  pub terminal : NamedTerminal
  pub is_named : named ≡ Some terminal
  pub may : PassesUpToStanding known header terminal
  pub at : MayBeginAt period terminal
  pub no_reply : request_reply known header (requests.Reconciliation period) ≡ None

-- it is an end of day that waits, since its terminal serves another request, and fewer wait for it than may; there is no reply yet
pub record ReconciliationWaits (known : Known) (header : Header) (period : Period) (named : Option NamedTerminal) : Type 0 where
  pub serving : FindsServing known header period named
  pub not_full : is_queue_full known named ≡ false
  pub waits : step_result known header (requests.Reconciliation period) named ≡ Waits
  pub no_reply : request_reply known header (requests.Reconciliation period) ≡ None

-- its key is on record with the same content, and it gets its reply again
pub record ReconciliationIsAgain (known : Known) (header : Header) (period : Period) : Type 0 where
  pub found : Found
  pub on_record : found_for known.kept header ≡ Some found
  pub same : has_same_content known.kept (requests.Reconciliation period) found ≡ true
  pub body : ResultBody
  pub kept : result_body_of found ≡ Some body
  pub replied : request_reply known header (requests.Reconciliation period) ≡ Some (Finished (header_of found) body)

-- it fails, for its reason
pub record ReconciliationFails (known : Known) (header : Header) (period : Period) (named : Option NamedTerminal) : Type 0 where
  pub condition : Condition
  pub cause : RefusesReconciliation known header period named condition
  pub replied : request_reply known header (requests.Reconciliation period) ≡ Some (failure_reply header condition)

-- each begins, waits, gets its reply again, or fails for one of these reasons
abbrev pub EachReconciliationIsReplied : Type 0
EachReconciliationIsReplied =
    (known : Known) (header : Header) (period : Period)
    → ReconciliationIsBegun known header period (named_terminal known.core header.poi)
    ⊎ (ReconciliationWaits known header period (named_terminal known.core header.poi)
    ⊎ (ReconciliationIsAgain known header period ⊎ ReconciliationFails known header period (named_terminal known.core header.poi)))

-- each fails with a condition where the condition's cause holds
abbrev pub EachDayCauseIsReplied : Type 0
EachDayCauseIsReplied =
    (known : Known) (header : Header) (period : Period) (condition : Condition) → RefusesReconciliation known header period (named_terminal known.core header.poi) condition
    → request_reply known header (requests.Reconciliation period) ≡ Some (failure_reply header condition)

-- and nowhere else
abbrev pub EachDayFailureHasCause : Type 0
EachDayFailureHasCause =
    (known : Known) (header : Header) (period : Period) (condition : Condition) → request_reply known header (requests.Reconciliation period) ≡ Some (failure_reply header condition)
    → RefusesReconciliation known header period (named_terminal known.core header.poi) condition

-- where a till's Reconciliation begins anything, it may begin, or else it waits
abbrev pub OnlyMayBegins : Type 0
OnlyMayBegins =
    (tills : List Connection) (known : Known) (till : ℕ) (header : Header) (period : Period) → (row_of tills known (Asked till (Request header (requests.Reconciliation period)))).items ≢ []
    → ReconciliationIsBegun known header period (named_terminal known.core header.poi) ⊎ ReconciliationWaits known header period (named_terminal known.core header.poi)
