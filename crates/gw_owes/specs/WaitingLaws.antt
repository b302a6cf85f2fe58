-- Laws of requests that wait: each waits once, under a key that is unknown; who waits first is begun first; and what takes one out takes that one alone.
use Rattle.std.specs.Prelude.{◌≡◌, ◌⊎◌, ◌≤◌, ℕ, true, false, if◌then◌else◌, List, [], ◌∷◌, ◌++◌, length, slice_get, Some, None}
use Rattle.gw_base.specs.declared.condition.Condition.{Condition}
use Rattle.gw_base.specs.declared.condition.Condition.TheVariants.{Aborted, InProgress, NotAllowed}
use Rattle.gw_base.specs.declared.setup.Setup.{Setup}
use Rattle.gw_site.specs.Outside.{Connection}
use Rattle.sale_values.specs.declared.header.Header.{Header}
use Rattle.sale_values.specs.declared.request.Reference.{Reference}
use Rattle.sale_values.specs.declared.request.SaleRequest.{SaleRequest}
use Rattle.sale_values.specs.declared.request.SaleRequest.TheVariants as requests
use Rattle.sale_values.specs.Key.{key_of}
use Rattle.jrn_record.specs.declared.records.Record.{Record}
use Rattle.gw_ledger.specs.Fold.{found_of}
use Rattle.gw_ledger.specs.Keys.{same_key}
use Rattle.gw_owes.specs.declared.terminal.Terminal.{Terminal}
use Rattle.gw_owes.specs.Calls.{SendTill, records_kept}
use Rattle.gw_owes.specs.Core.{Wait, new_core}
use Rattle.gw_owes.specs.Days.{asks_day, is_day_served}
use Rattle.gw_owes.specs.Diagnosis.{NamedTerminal, named_terminal}
use Rattle.gw_owes.specs.Items.{RoundItem, Queue, NextWaiting, Overdue}
use Rattle.gw_owes.specs.KeptReplies.{own_key}
use Rattle.gw_owes.specs.Links.{LinkEvent, link_row}
use Rattle.gw_owes.specs.RecordLaws.{IsInOrder, IsReadItem, KeepsInOrder}
use Rattle.gw_owes.specs.Replies.{failure_reply}
use Rattle.gw_owes.specs.Requests.{request_reply}
use Rattle.gw_owes.specs.Row.{Known, Row}
use Rattle.gw_owes.specs.Rows.{row_of}
use Rattle.gw_owes.specs.Steps.{Waits, asks_other_currency, asks_transaction, is_ready_standing, is_unserved, refused_again, step_result}
use Rattle.gw_owes.specs.Terminals.{core_without, terminal_at}
use Rattle.gw_owes.specs.WaitingRows.{begins_from_queue, is_overdue, next_waiting_row, wait_of}
use Rattle.gw_owes.specs.Waits.{asks_the_same, core_with_wait, core_without_wait, first_waiting, queue_of, waiting_for, waiting_with}

-- ---- what waits

-- the request is a payment, a reversal or an end of day, which alone wait for a terminal
abbrev pub may_wait : SaleRequest → Type 0
may_wait request = (is_unserved request ≡ false) × ((asks_transaction request ≡ true) ⊎ (asks_day request ≡ true))

-- what waits is in order: its key is its own, isn't on record and isn't that of an end of day that is served; it waits for the terminal that its POIID names, whose currency it has
pub record IsWaitInOrder (known : Known) (wait : Wait) : Type 0 where
  pub key : own_key wait.header ≡ Some wait.key
  pub unknown : found_of known.kept wait.key ≡ None
  pub no_day : is_day_served known.core wait.key ≡ false
  pub terminal : Terminal
  pub named : named_terminal known.core wait.key.poi ≡ Some (record { number = wait.pt; terminal = terminal })
  pub may : may_wait wait.request
  pub currency : asks_other_currency wait.request (Some (record { number = wait.pt; terminal = terminal })) ≡ false
  pub read : IsReadItem known.setup (Queue wait.pt wait.till wait.header wait.request)

-- each is; none waits twice; and no more wait for a terminal than may
pub record AreWaitsInOrder (known : Known) : Type 0 where
  pub each : (at : ℕ) (wait : Wait) → slice_get known.core.waits at ≡ Some wait → IsWaitInOrder known wait
  pub once : (one other : ℕ) (first second : Wait) → slice_get known.core.waits one ≡ Some first → slice_get known.core.waits other ≡ Some second → same_key first.key second.key ≡ true → one ≡ other
  pub few : (number : ℕ) → length (queue_of number known.core.waits) ≤ known.setup.line

-- so it stays with each item, and with the records that it keeps
abbrev pub EachRowKeepsWaits : Type 0
EachRowKeepsWaits =
    (tills : List Connection) (known : Known) (item : RoundItem) → IsInOrder known → AreWaitsInOrder known → IsReadItem known.setup item
    → AreWaitsInOrder (record known { core = (row_of tills known item).core; kept = known.kept ++ records_kept (row_of tills known item).calls })

-- so it stays with an event of a terminal's link
abbrev pub EachLinkKeepsWaits : Type 0
EachLinkKeepsWaits = (known : Known) (number : ℕ) (event : LinkEvent) → AreWaitsInOrder known → AreWaitsInOrder (record known { core = (link_row known number event).core })

-- once a till is gone, whose requests wait no longer
abbrev pub EachGoneKeepsWaits : Type 0
EachGoneKeepsWaits = (known : Known) (till : ℕ) → AreWaitsInOrder known → AreWaitsInOrder (record known { core = core_without known.core till })

-- and at each moment
abbrev pub EachMomentKeepsWaits : Type 0
EachMomentKeepsWaits = (known : Known) (moment : ℕ) → AreWaitsInOrder known → AreWaitsInOrder (record known { moment = moment })

-- nothing waits as a run begins
abbrev pub NewCoreHasNoneWaiting : Type 0
NewCoreHasNoneWaiting = (setup : Setup) (kept : List Record) (moment : ℕ) → AreWaitsInOrder (record { setup = setup; core = new_core setup; kept = kept; moment = moment })

-- ---- what a till gets

-- a request that joins is the last that waits, until its deadline, and nothing is owed for it yet
pub record JoinsQueue (known : Known) (till : ℕ) (header : Header) (request : SaleRequest) (number : ℕ) (row : Row) : Type 0 where
  pub wait : Wait
  pub key : own_key header ≡ Some wait.key
  pub wait_is : wait ≡ wait_of known number till header request wait.key
  pub core_is : row.core ≡ core_with_wait known.core wait
  pub no_calls : row.calls ≡ []
  pub no_items : row.items ≡ []

-- so does each whose steps say so
abbrev pub EachThatMayJoins : Type 0
EachThatMayJoins =
    (tills : List Connection) (known : Known) (till : ℕ) (header : Header) (request : SaleRequest) (named : NamedTerminal) → IsReadItem known.setup (Queue named.number till header request)
    → named_terminal known.core header.poi ≡ Some named → step_result known header request (Some named) ≡ Waits → JoinsQueue known till header request named.number (row_of tills known (Queue named.number till header request))

-- a request of the same kind on the key of one that waits is in progress where it asks for the same, and else isn't allowed
abbrev pub WaitingKeyIsReplied : Type 0
WaitingKeyIsReplied =
    (known : Known) (header : Header) (request : SaleRequest) (wait : Wait) → AreWaitsInOrder known → may_wait request → waiting_for known.core header ≡ Some wait
    → request_reply known header request ≡ Some (failure_reply header (if asks_the_same known.kept header.poi request wait.request then InProgress else NotAllowed))

-- a TransactionStatus of a key that waits gets that it is in progress
abbrev pub StatusOfWaitingIsInProgress : Type 0
StatusOfWaitingIsInProgress =
    (known : Known) (header : Header) (reference : Reference) (wait : Wait) → AreWaitsInOrder known → waiting_with (key_of header reference) known.core.waits ≡ Some wait
    → request_reply known header (requests.Status (Some reference)) ≡ Some (failure_reply header InProgress)

-- ---- what takes one out

-- this one waits no longer, and its till gets this Failure; the others wait in their order
pub record IsTakenOut (known : Known) (wait : Wait) (condition : Condition) (row : Row) : Type 0 where
  pub core_is : row.core ≡ core_without_wait known.core wait.key
  pub calls_are : row.calls ≡ SendTill wait.till (failure_reply wait.header condition) ∷ []

-- an Abort takes out the request that it names, whichever waits first, and a deadline that which has it
pub record TakesItsOwn (tills : List Connection) (known : Known) (wait : Wait) : Type 0 where
  pub aborted : (number till : ℕ) (header : Header) (reference : Reference) → key_of header reference ≡ wait.key → IsTakenOut known wait Aborted (row_of tills known (Queue number till header (requests.Abort reference)))
  pub overdue : is_overdue known.moment wait ≡ true → IsTakenOut known wait Aborted (row_of tills known (Overdue wait.key))
  pub early : is_overdue known.moment wait ≡ false → (row_of tills known (Overdue wait.key)).core ≡ known.core

-- so it is with each
abbrev pub EachTakesItsOwn : Type 0
EachTakesItsOwn = (tills : List Connection) (known : Known) (wait : Wait) → AreWaitsInOrder known → waiting_with wait.key known.core.waits ≡ Some wait → TakesItsOwn tills known wait

-- ---- who is begun

-- at a terminal that is ready the first that waits for it is begun, or is refused and the next one is looked at
pub record FirstIsNext (known : Known) (number : ℕ) (terminal : Terminal) (wait : Wait) (row : Row) : Type 0 where
  pub refused : (condition : Condition) → refused_again known wait.header wait.request (Some (record { number = number; terminal = terminal })) ≡ Some condition → IsTakenOut known wait condition row × (row.items ≡ NextWaiting number ∷ [])
  pub begun : refused_again known wait.header wait.request (Some (record { number = number; terminal = terminal })) ≡ None
      → row ≡ begins_from_queue (record known { core = core_without_wait known.core wait.key }) number wait.till wait.header wait.request terminal

-- so it is at each
abbrev pub EachFirstIsNext : Type 0
EachFirstIsNext =
    (tills : List Connection) (known : Known) (number : ℕ) (terminal : Terminal) (wait : Wait) → terminal_at known number ≡ Some terminal → is_ready_standing terminal.standing ≡ true
    → first_waiting (queue_of number known.core.waits) ≡ Some wait → FirstIsNext known number terminal wait (row_of tills known (NextWaiting number))

-- and what is known stays in order
abbrev pub EachNextKeepsInOrder : Type 0
EachNextKeepsInOrder =
    (known : Known) (number : ℕ) → IsInOrder known → AreWaitsInOrder known → KeepsInOrder known (records_kept (next_waiting_row known number).calls) (next_waiting_row known number).core
