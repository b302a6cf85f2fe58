-- What a terminal needs for what begins there, and the row of it at this terminal.
use Rattle.std.specs.Prelude.{◌≡◌, ℕ, Bool, true, false, is_some, List, [], ◌∷◌, Option, Some, None}
use Rattle.jrn_record.specs.declared.records.Record.{Record}
use Rattle.jrn_record.specs.declared.records.Record.TheVariants.{Intent, Settled}
use Rattle.jrn_record.specs.declared.records.How.{How}
use Rattle.jrn_record.specs.declared.records.How.TheVariants as hows
use Rattle.sale_values.specs.declared.header.Header.{Header}
use Rattle.sale_values.specs.declared.names.Period.{Period}
use Rattle.sale_values.specs.declared.names.Period.TheVariants.{SaleReconciliation, AcquirerSynchronisation, AcquirerReconciliation, PreviousReconciliation}
use Rattle.sale_values.specs.declared.request.Output.{Output}
use Rattle.sale_values.specs.declared.request.PaymentAsk.{PaymentAsk}
use Rattle.sale_values.specs.declared.request.ReversalAsk.{ReversalAsk}
use Rattle.sale_values.specs.declared.request.SaleRequest.{SaleRequest}
use Rattle.sale_values.specs.declared.request.SaleRequest.TheVariants.{Login, Logout, Payment, Reversal, Abort, Status, Reconciliation, Display, Print, Diagnosis}
use Rattle.gw_base.specs.declared.condition.Condition.{Condition}
use Rattle.gw_base.specs.declared.key.Key.{Key}
use Rattle.gw_base.specs.declared.setup.Setup.{Setup}
use Rattle.sale_values.specs.Key.{key_of}
use Rattle.gw_ledger.specs.Fold.{found_of}
use Rattle.gw_ledger.specs.declared.entry.Entry.{Entry}
use Rattle.sale_reply.specs.Limits.{IsHeaderWithinLimits}
use Rattle.zvt_talk.specs.Talk.{TalkFacts}
use Rattle.zvt_talk.specs.TalkSteps.{may_send_stop}
use Rattle.xlate.specs.Ask.{IsApproval}
use Rattle.xlate.specs.Display.{show}
use Rattle.gw_owes.specs.declared.terminal.Service.{Service}
use Rattle.gw_owes.specs.declared.terminal.Service.TheVariants as services
use Rattle.gw_owes.specs.declared.terminal.Standing.{Standing}
use Rattle.gw_owes.specs.declared.terminal.Standing.TheVariants.{Unlinked, Registering, Enquiring, Ready, Serving, Aside}
use Rattle.gw_owes.specs.declared.terminal.Terminal.{Terminal}
use Rattle.gw_owes.specs.Displays.{shows_in}
use Rattle.gw_owes.specs.KeptReplies.{own_key}
use Rattle.gw_owes.specs.Payments.{begins_in, payment_intent}
use Rattle.gw_owes.specs.Reconciliations.{begins_period, settled_of}
use Rattle.gw_owes.specs.Reversals.{original_of, reversal_intent}
use Rattle.gw_owes.specs.Core.{Core as CoreValue, Wait}
use Rattle.gw_owes.specs.Items.{NextWaiting}
use Rattle.gw_owes.specs.Row.{Known, Row, owing_nothing, becoming}
use Rattle.gw_owes.specs.Steps.{is_ready_standing, refused_again}
use Rattle.gw_owes.specs.WaitingLaws.{may_wait}
use Rattle.gw_owes.specs.WaitingRows.{begins_from_queue, refusal_calls}
use Rattle.gw_owes.specs.Stops.{wishes_stop}
use Rattle.gw_core.specs.IsRow.{MayBeKept, known_with}

-- Inner: the terminal is ready, and the Intent of this payment may be kept next
pub record MayPay (kept : List Record) (moment : ℕ) (header : Header) (payment : PaymentAsk) (terminal : Terminal) : Type 0 where
  pub last : ℕ
  pub ready : terminal.standing ≡ Ready last
  pub next : MayBeKept kept (Intent (payment_intent header payment terminal.pt.currency last moment))

-- Inner: the terminal is ready, the original of this reversal is there and approved, and the Intent of the reversal may be kept next
pub record MayReverse (kept : List Record) (moment : ℕ) (header : Header) (reversal : ReversalAsk) (terminal : Terminal) : Type 0 where
  pub last : ℕ
  pub ready : terminal.standing ≡ Ready last
  pub original : Entry
  pub named : original_of kept header.poi reversal ≡ Some original
  pub approved : IsApproval original.result
  pub next : MayBeKept kept (Intent (reversal_intent header original last moment))

-- Inner: the Settled of a reconciliation at the terminal may be kept next
abbrev pub MaySettle : List Record → ℕ → How → Header → Terminal → Type 0
MaySettle kept moment how header terminal = MayBeKept kept (Settled (settled_of how header terminal.pt.currency moment))

-- Inner: the header of an end of day lies within its limits, and the records don't have its key
pub record MayEndDay (kept : List Record) (header : Header) : Type 0 where
  pub heading : IsHeaderWithinLimits header
  pub key : Key
  pub key_is : own_key header ≡ Some key
  pub unknown : found_of kept key ≡ None

-- Inner: a reconciliation of the till's own may be kept next, and a terminal that is to begin an end of day is ready
abbrev pub MayBeginPeriod : List Record → ℕ → Header → Period → Terminal → Type 0
MayBeginPeriod kept moment header SaleReconciliation terminal = MaySettle kept moment hows.Sale header terminal
MayBeginPeriod kept moment header AcquirerSynchronisation terminal = ⊥
MayBeginPeriod kept moment header AcquirerReconciliation terminal = is_ready_standing terminal.standing ≡ true
MayBeginPeriod kept moment header PreviousReconciliation terminal = ⊥

-- Inner: the terminal is ready, and there is something to show
pub record MayShow (outputs : List Output) (terminal : Terminal) : Type 0 where
  pub ready : is_ready_standing terminal.standing ≡ true
  pub shows : is_some (show outputs) ≡ true

-- Inner: a display is served
abbrev pub IsDisplay : Service → Type 0
IsDisplay (services.Transaction slot) = ⊥
IsDisplay (services.EndOfDay header period) = ⊥
IsDisplay (services.Display header results) = Unit {0}

-- Inner: a terminal of this standing serves a display
abbrev pub IsShowing : Standing → Type 0
IsShowing (Unlinked due) = ⊥
IsShowing Registering = ⊥
IsShowing Enquiring = ⊥
IsShowing (Ready last) = ⊥
IsShowing (Serving service last) = IsDisplay service
IsShowing (Aside before reported) = ⊥

-- Inner: the terminal has what it needs for what this request asks for
abbrev pub MayBegin : List Record → ℕ → Header → SaleRequest → Terminal → Type 0
MayBegin kept moment header Login terminal = ⊥
MayBegin kept moment header Logout terminal = ⊥
MayBegin kept moment header (Payment payment) terminal = MayPay kept moment header payment terminal
MayBegin kept moment header (Reversal reversal) terminal = MayReverse kept moment header reversal terminal
MayBegin kept moment header (Abort reference) terminal = Unit {0}
MayBegin kept moment header (Status reference) terminal = ⊥
MayBegin kept moment header (Reconciliation period) terminal = MayBeginPeriod kept moment header period terminal
MayBegin kept moment header (Display outputs) terminal = MayShow outputs terminal
MayBegin kept moment header (Print qualifier) terminal = ⊥
MayBegin kept moment header Diagnosis terminal = ⊥

-- Inner: what this request leaves and owes at this terminal, where it begins there
abbrev pub begun_row : Known → ℕ → ℕ → Header → Terminal → SaleRequest → Row
begun_row known number till header terminal Login = owing_nothing known
begun_row known number till header terminal Logout = owing_nothing known
begun_row known number till header terminal (Payment payment) = begins_in known number till header (Payment payment) terminal terminal.standing
begun_row known number till header terminal (Reversal reversal) = begins_in known number till header (Reversal reversal) terminal terminal.standing
begun_row known number till header terminal (Abort reference) = wishes_stop known number terminal terminal.talk
begun_row known number till header terminal (Status reference) = owing_nothing known
begun_row known number till header terminal (Reconciliation period) = begins_period known number till header period terminal
begun_row known number till header terminal (Display outputs) = shows_in known number till header outputs terminal terminal.standing
begun_row known number till header terminal (Print qualifier) = owing_nothing known
begun_row known number till header terminal Diagnosis = owing_nothing known

-- Inner: where a stop is wished in the dialogue that runs, it is sent now
abbrev pub sends_stop : Option TalkFacts → Bool
sends_stop None = false
sends_stop (Some talk) = may_send_stop talk.phase

-- Inner: an Abort names this key, and no other request names one
abbrev pub key_aborted : Header → SaleRequest → Option Key
key_aborted header Login = None
key_aborted header Logout = None
key_aborted header (Payment payment) = None
key_aborted header (Reversal reversal) = None
key_aborted header (Abort reference) = Some (key_of header reference)
key_aborted header (Status reference) = None
key_aborted header (Reconciliation period) = None
key_aborted header (Display outputs) = None
key_aborted header (Print qualifier) = None
key_aborted header Diagnosis = None

-- Inner: what a request that waits no longer leaves and owes: it is refused, and then the next one is looked at, or else it is begun
abbrev pub first_left_row : Known → ℕ → Terminal → Wait → Option Condition → Row
first_left_row known number terminal wait (Some condition) = record (becoming known.core (refusal_calls wait condition)) { items = NextWaiting number ∷ [] }
first_left_row known number terminal wait None = begins_from_queue known number wait.till wait.header wait.request terminal

-- Inner: by what its steps say that are asked again
abbrev pub leaves_queue : Known → ℕ → Wait → Terminal → Row
leaves_queue known number wait terminal = first_left_row known number terminal wait (refused_again known wait.header wait.request (Some (record { number = number; terminal = terminal })))

-- Inner: where it isn't refused, it may begin at the terminal of this number, and is a payment, a reversal or an end of day
pub record MayBeNext (kept : List Record) (moment number : ℕ) (wait : Wait) (terminal : Terminal) : Type 0 where
  pub begins : (setup : Setup) (core : CoreValue) → refused_again (known_with setup kept core moment) wait.header wait.request (Some (record { number = number; terminal = terminal })) ≡ None → MayBegin kept moment wait.header wait.request terminal
  pub may : may_wait wait.request
