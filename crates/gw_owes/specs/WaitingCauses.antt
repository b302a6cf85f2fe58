-- Why a till gets a Failure for a request that waited: each has its cause, and each cause its Failure.
use Rattle.std.specs.Prelude.{◌≡◌, ℕ, true, false, ◌&&◌, List, [], ◌∷◌, ◌++◌, Option, Some}
use Rattle.gw_base.specs.declared.condition.Condition.{Condition}
use Rattle.gw_base.specs.declared.condition.Condition.TheVariants.{Aborted, NotAllowed, NotFound, UnavailableService}
use Rattle.gw_base.specs.declared.condition.Condition.TheVariants as conditions
use Rattle.gw_base.specs.declared.key.Key.{Key}
use Rattle.gw_site.specs.Outside.{Connection}
use Rattle.sale_values.specs.declared.header.Header.{Header}
use Rattle.sale_values.specs.declared.request.Reference.{Reference}
use Rattle.sale_values.specs.declared.request.SaleRequest.{SaleRequest}
use Rattle.sale_values.specs.declared.request.SaleRequest.TheVariants as requests
use Rattle.sale_values.specs.Key.{key_of}
use Rattle.gw_owes.specs.declared.terminal.Terminal.{Terminal}
use Rattle.gw_owes.specs.Calls.{OwedCall, SendTill}
use Rattle.gw_owes.specs.Core.{Wait}
use Rattle.gw_owes.specs.Diagnosis.{NamedTerminal}
use Rattle.gw_owes.specs.Items.{RoundItem, Queue, NextWaiting, Overdue}
use Rattle.gw_owes.specs.Replies.{failure_reply}
use Rattle.gw_owes.specs.Reply.{ReplyValue}
use Rattle.gw_owes.specs.Reversals.{names_irreversible, names_none}
use Rattle.gw_owes.specs.Row.{Known}
use Rattle.gw_owes.specs.Rows.{row_of}
use Rattle.gw_owes.specs.Steps.{asks_transaction, is_ready_standing, is_used_up, refused_again}
use Rattle.gw_owes.specs.Terminals.{terminal_at}
use Rattle.gw_owes.specs.WaitingRows.{is_overdue}
use Rattle.gw_owes.specs.Waits.{first_waiting, queue_of, waiting_with}

-- ---- once its terminal is ready

-- its original is there, or it names none, and may be reversed
pub record HasItsOriginalStill (known : Known) (header : Header) (request : SaleRequest) : Type 0 where
  pub there : names_none known.kept header.poi request ≡ false
  pub reversible : names_irreversible known.kept header.poi request ≡ false

-- why a request that waits is refused for this reason once its terminal is ready: it is a reversal whose original isn't there, or may not be reversed; or else no trace number is left for it; and for no other reason
abbrev pub RefusesFirst : Known → Header → SaleRequest → Option NamedTerminal → Condition → Type 0
RefusesFirst known header request named conditions.Aborted = ⊥
RefusesFirst known header request named conditions.Busy = ⊥
RefusesFirst known header request named conditions.Cancel = ⊥
RefusesFirst known header request named conditions.InProgress = ⊥
RefusesFirst known header request named conditions.InsertedCard = ⊥
RefusesFirst known header request named conditions.InvalidCard = ⊥
RefusesFirst known header request named conditions.LoggedOut = ⊥
RefusesFirst known header request named conditions.MessageFormat = ⊥
RefusesFirst known header request named conditions.NotAllowed = (names_none known.kept header.poi request ≡ false) × (names_irreversible known.kept header.poi request ≡ true)
RefusesFirst known header request named conditions.NotFound = names_none known.kept header.poi request ≡ true
RefusesFirst known header request named conditions.Refusal = ⊥
RefusesFirst known header request named conditions.UnavailableDevice = ⊥
RefusesFirst known header request named conditions.UnavailableService = HasItsOriginalStill known header request × ((asks_transaction request && is_used_up known.kept header.poi named) ≡ true)

-- so it is exactly
pub record IsRefusedExactly (known : Known) (header : Header) (request : SaleRequest) (named : Option NamedTerminal) (condition : Condition) : Type 0 where
  pub cause : refused_again known header request named ≡ Some condition → RefusesFirst known header request named condition
  pub refused : RefusesFirst known header request named condition → refused_again known header request named ≡ Some condition

abbrev pub EachFirstIsRefusedExactly : Type 0
EachFirstIsRefusedExactly = (known : Known) (header : Header) (request : SaleRequest) (named : Option NamedTerminal) (condition : Condition) → IsRefusedExactly known header request named condition

-- ---- what tills get

-- why a till gets this where an item begins, terminals are ready, tills abort and deadlines come: always a Failure of a request of its own that waited
pub data WaitingCause (known : Known) (item : RoundItem) (till : ℕ) (reply : ReplyValue) : Type 0 where
  -- it was the first for a terminal that is ready, and a step that is asked again refuses it
  OfFirst : (number : ℕ) (terminal : Terminal) (wait : Wait) (condition : Condition) → item ≡ NextWaiting number → terminal_at known number ≡ Some terminal → is_ready_standing terminal.standing ≡ true
      → first_waiting (queue_of number known.core.waits) ≡ Some wait → RefusesFirst known wait.header wait.request (Some (record { number = number; terminal = terminal })) condition
      → till ≡ wait.till → reply ≡ failure_reply wait.header condition → WaitingCause known item till reply
  -- a till aborts its key
  OfAbort : (number by : ℕ) (header : Header) (reference : Reference) (wait : Wait) → item ≡ Queue number by header (requests.Abort reference) → waiting_with (key_of header reference) known.core.waits ≡ Some wait
      → till ≡ wait.till → reply ≡ failure_reply wait.header Aborted → WaitingCause known item till reply
  -- its deadline has come
  OfDeadline : (key : Key) (wait : Wait) → item ≡ Overdue key → waiting_with key known.core.waits ≡ Some wait → is_overdue known.moment wait ≡ true
      → till ≡ wait.till → reply ≡ failure_reply wait.header Aborted → WaitingCause known item till reply

-- the items of requests that wait
pub data IsOfWaiting (item : RoundItem) : Type 0 where
  First : (number : ℕ) → item ≡ NextWaiting number → IsOfWaiting item
  Queued : (number till : ℕ) (header : Header) (request : SaleRequest) → item ≡ Queue number till header request → IsOfWaiting item
  Deadline : (key : Key) → item ≡ Overdue key → IsOfWaiting item

-- each reply among their calls has such a cause, and is the only call
abbrev pub EachWaitingReplyHasCause : Type 0
EachWaitingReplyHasCause =
    (tills : List Connection) (known : Known) (item : RoundItem) (before : List OwedCall) (till : ℕ) (reply : ReplyValue) (more : List OwedCall) → IsOfWaiting item
    → (row_of tills known item).calls ≡ before ++ SendTill till reply ∷ more → WaitingCause known item till reply × ((row_of tills known item).calls ≡ SendTill till reply ∷ [])
