-- What becomes of a request that waits: each case of what it leaves and owes once its terminal is ready, as it joins the others, as a till aborts it, and at its deadline.
use Rattle.std.proofs.Common.{◌≡◌, ℕ, refl, sym, subst, true}
use Rattle.std.specs.Prelude.{[], ◌∷◌, Option, Some, None}
use Rattle.gw_base.specs.declared.condition.Condition.{Condition}
use Rattle.gw_base.specs.declared.condition.Condition.TheVariants.{Aborted}
use Rattle.gw_base.specs.declared.key.Key.{Key}
use Rattle.sale_values.specs.declared.header.Header.{Header}
use Rattle.sale_values.specs.declared.names.Period.{Period}
use Rattle.sale_values.specs.declared.request.Reference.{Reference}
use Rattle.sale_values.specs.declared.request.SaleRequest.{SaleRequest}
use Rattle.sale_values.specs.declared.request.SaleRequest.TheVariants as requests
use Rattle.sale_values.specs.Key.{key_of}
use Rattle.gw_owes.specs.declared.terminal.Standing.{Standing}
use Rattle.gw_owes.specs.declared.terminal.Standing.TheVariants.{Unlinked, Registering, Enquiring, Ready, Serving, Aside}
use Rattle.gw_owes.specs.declared.terminal.Terminal.{Terminal}
use Rattle.gw_owes.specs.Core.{Wait}
use Rattle.gw_owes.specs.Items.{NextWaiting}
use Rattle.gw_owes.specs.KeptReplies.{own_key}
use Rattle.gw_owes.specs.Payments.{Asking, asking_of, beginning_row, begins_asking, begins_in}
use Rattle.gw_owes.specs.Reconciliations.{begins_day}
use Rattle.gw_owes.specs.Row.{Known, Row, owing_nothing, becoming}
use Rattle.gw_owes.specs.Steps.{asks_transaction, is_ready_standing, is_waiting_result, refused_again, step_result}
use Rattle.gw_owes.specs.Terminals.{terminal_at}
use Rattle.gw_owes.specs.WaitingRows.{begins_from_queue, first_waiting_row, is_overdue, joins_row, looks_at_first, next_waiting_row, of_waiting, overdue_row, queue_row, taken_out, wait_of, waits_under}
use Rattle.gw_owes.specs.Waits.{core_with_wait, core_without_wait, first_waiting, queue_of, waiting_with}
use Rattle.gw_owes.proofs.HandlingLemmas.{by-where, each-terminal}
use Rattle.gw_owes.proofs.PaymentLemmas.{day_row}

-- what is known once this request waits no longer
abbrev pub known_without : Known → Wait → Known
known_without known wait = record known { core = core_without_wait known.core wait.key }

-- ---- the first that waits, at a terminal that is ready

-- the terminal is there and ready, and this is the first that waits for it
pub record WaitsFirst (known : Known) (number : ℕ) (terminal : Terminal) (last : ℕ) (wait : Wait) : Type 0 where
  pub found : terminal_at known number ≡ Some terminal
  pub standing_is : terminal.standing ≡ Ready last
  pub first_is : first_waiting (queue_of number known.core.waits) ≡ Some wait

-- why it is begun: no step that is asked again refuses it, and this is asked for
pub record BeginsWaiting (known : Known) (number : ℕ) (terminal : Terminal) (last : ℕ) (wait : Wait) (asking : Asking) : Type 0 where
  pub first : WaitsFirst known number terminal last wait
  pub passes : refused_again known wait.header wait.request (Some (record { number = number; terminal = terminal })) ≡ None
  pub asks : asks_transaction wait.request ≡ true
  pub asking_is : asking_of (known_without known wait) wait.header wait.request terminal last ≡ Some asking

-- why its end of day is begun
pub record BeginsDayWaiting (known : Known) (number : ℕ) (terminal : Terminal) (last : ℕ) (wait : Wait) : Type 0 where
  pub first : WaitsFirst known number terminal last wait
  pub passes : refused_again known wait.header wait.request (Some (record { number = number; terminal = terminal })) ≡ None
  pub period : Period
  pub request_is : wait.request ≡ requests.Reconciliation period

-- This holds in each case of what the first leaves and owes: of nothing owed; of each refusal, after which the next one is looked at; of each payment, reversal and end of day that begins; and of one that waits no longer and begins nothing, as none does that may wait.
pub record EachNext (P : Row → Type 0) (known : Known) (number : ℕ) : Type 0 where
  pub none : P (owing_nothing known)
  pub refused : (terminal : Terminal) (last : ℕ) (wait : Wait) (condition : Condition) → WaitsFirst known number terminal last wait
      → refused_again known wait.header wait.request (Some (record { number = number; terminal = terminal })) ≡ Some condition → P (record (taken_out known condition wait) { items = NextWaiting number ∷ [] })
  pub begins : (terminal : Terminal) (last : ℕ) (wait : Wait) (asking : Asking) → BeginsWaiting known number terminal last wait asking
      → P (beginning_row (known_without known wait) number wait.till terminal last asking.intent asking.original)
  pub day : (terminal : Terminal) (last : ℕ) (wait : Wait) → BeginsDayWaiting known number terminal last wait → P (day_row (known_without known wait) number wait.till wait.header terminal last)
  pub left : (terminal : Terminal) (last : ℕ) (wait : Wait) → WaitsFirst known number terminal last wait → P (owing_nothing (known_without known wait))

asking-begun : (P : Row → Type 0) (known : Known) (number till : ℕ) (terminal : Terminal) (last : ℕ) (asked : Option Asking) → P (owing_nothing known)
    → ((asking : Asking) → asked ≡ Some asking → P (beginning_row known number till terminal last asking.intent asking.original)) → P (begins_asking known number till terminal last asked)
asking-begun P known number till terminal last None none some = none
asking-begun P known number till terminal last (Some asking) none some = some asking refl

-- what holds of nothing owed, and of what begins, holds of what a terminal that is ready begins from its queue
from-queue : (P : Row → Type 0) (known : Known) (number till : ℕ) (header : Header) (request : SaleRequest) (terminal : Terminal) (last : ℕ) → terminal.standing ≡ Ready last → P (owing_nothing known)
    → ((asking : Asking) → asks_transaction request ≡ true → asking_of known header request terminal last ≡ Some asking → P (beginning_row known number till terminal last asking.intent asking.original))
    → ((period : Period) → request ≡ requests.Reconciliation period → P (day_row known number till header terminal last)) → P (begins_from_queue known number till header request terminal)
from-queue P known number till header requests.Login terminal last standing none begins day = none
from-queue P known number till header requests.Logout terminal last standing none begins day = none
from-queue P known number till header (requests.Payment payment) terminal last standing none begins day =
    subst (λ (s : Standing). P (begins_in known number till header (requests.Payment payment) terminal s)) (sym standing)
    (asking-begun P known number till terminal last (asking_of known header (requests.Payment payment) terminal last) none (λ asking is. begins asking refl is))
from-queue P known number till header (requests.Reversal reversal) terminal last standing none begins day =
    subst (λ (s : Standing). P (begins_in known number till header (requests.Reversal reversal) terminal s)) (sym standing)
    (asking-begun P known number till terminal last (asking_of known header (requests.Reversal reversal) terminal last) none (λ asking is. begins asking refl is))
from-queue P known number till header (requests.Abort reference) terminal last standing none begins day = none
from-queue P known number till header (requests.Status reference) terminal last standing none begins day = none
from-queue P known number till header (requests.Reconciliation period) terminal last standing none begins day =
    subst (λ (s : Standing). P (begins_day known number till header terminal s)) (sym standing) (day period refl)
from-queue P known number till header (requests.Display outputs) terminal last standing none begins day = none
from-queue P known number till header (requests.Print qualifier) terminal last standing none begins day = none
from-queue P known number till header requests.Diagnosis terminal last standing none begins day = none

-- a terminal that is ready
pub record IsReadyWith (standing : Standing) : Type 0 where
  pub last : ℕ
  pub standing_is : standing ≡ Ready last

pub ready-with : (standing : Standing) → is_ready_standing standing ≡ true → IsReadyWith standing
ready-with (Unlinked due) ready = absurd cc
ready-with Registering ready = absurd cc
ready-with Enquiring ready = absurd cc
ready-with (Ready last) ready = record { last = last; standing_is = refl }
ready-with (Serving service last) ready = absurd cc
ready-with (Aside before reported) ready = absurd cc

by-waiting : (P : Row → Type 0) (known : Known) (row : Wait → Row) (found : Option Wait) → P (owing_nothing known) → ((wait : Wait) → found ≡ Some wait → P (row wait)) → P (of_waiting known row found)
by-waiting P known row None none some = none
by-waiting P known row (Some wait) none some = some wait refl

-- what holds in each case holds of the row
pub each-next : (P : Row → Type 0) (known : Known) (number : ℕ) → EachNext P known number → P (next_waiting_row known number)
each-next P known number cases =
    each-terminal P known number (λ terminal. _) cases.none
    (λ terminal found. by-where P known (of_waiting known (looks_at_first known number terminal) (first_waiting (queue_of number known.core.waits))) (is_ready_standing terminal.standing) cases.none
    (λ ready. by-waiting P known (looks_at_first known number terminal) (first_waiting (queue_of number known.core.waits)) cases.none
    (λ wait is. at terminal (ready-with terminal.standing ready).last wait (record { found = found; standing_is = (ready-with terminal.standing ready).standing_is; first_is = is }))))
  where
    at : (terminal : Terminal) (last : ℕ) (wait : Wait) → WaitsFirst known number terminal last wait → P (looks_at_first known number terminal wait)
    at terminal last wait first = by-refused (refused_again known wait.header wait.request (Some (record { number = number; terminal = terminal }))) refl
      where
        by-refused : (refused : Option Condition) → refused_again known wait.header wait.request (Some (record { number = number; terminal = terminal })) ≡ refused → P (first_waiting_row known number terminal wait refused)
        by-refused (Some condition) is = cases.refused terminal last wait condition first is
        by-refused None is =
            from-queue P (known_without known wait) number wait.till wait.header wait.request terminal last first.standing_is (cases.left terminal last wait first)
            (λ asking asks asking_is. cases.begins terminal last wait asking (record { first = first; passes = is; asks = asks; asking_is = asking_is }))
            (λ period request_is. cases.day terminal last wait (record { first = first; passes = is; period = period; request_is = request_is }))

-- ---- it joins the others, or is aborted

-- why a request joins those that wait for a terminal: that is there, its steps say so, and it has a key
pub record JoinsAt (known : Known) (number : ℕ) (header : Header) (request : SaleRequest) (terminal : Terminal) (key : Key) : Type 0 where
  pub found : terminal_at known number ≡ Some terminal
  pub waits_is : is_waiting_result (step_result known header request (Some (record { number = number; terminal = terminal }))) ≡ true
  pub key_is : own_key header ≡ Some key

-- why one is taken out: a till aborts the key under which it waits
pub record AbortsWaiting (known : Known) (header : Header) (request : SaleRequest) (wait : Wait) : Type 0 where
  pub reference : Reference
  pub request_is : request ≡ requests.Abort reference
  pub waits_is : waiting_with (key_of header reference) known.core.waits ≡ Some wait

-- this holds in each case of what a till's request changes of those that wait: of nothing owed, of one that joins, and of one that is taken out
pub record EachQueued (P : Row → Type 0) (known : Known) (number till : ℕ) (header : Header) (request : SaleRequest) : Type 0 where
  pub none : P (owing_nothing known)
  pub joins : (terminal : Terminal) (key : Key) → JoinsAt known number header request terminal key → P (becoming (core_with_wait known.core (wait_of known number till header request key)) [])
  pub taken : (wait : Wait) → AbortsWaiting known header request wait → P (taken_out known Aborted wait)

under-key : (P : Row → Type 0) (known : Known) (number till : ℕ) (header : Header) (request : SaleRequest) (found : Option Key) → P (owing_nothing known)
    → ((key : Key) → found ≡ Some key → P (becoming (core_with_wait known.core (wait_of known number till header request key)) [])) → P (waits_under known number till header request found)
under-key P known number till header request None none some = none
under-key P known number till header request (Some key) none some = some key refl

-- what holds in each case holds of the row
pub each-queued : (P : Row → Type 0) (known : Known) (number till : ℕ) (header : Header) (request : SaleRequest) → EachQueued P known number till header request → P (queue_row known number till header request)
each-queued P known number till header request cases = by-request request refl
  where
    joins : (other : SaleRequest) → request ≡ other → (terminal : Terminal) → terminal_at known number ≡ Some terminal → P (joins_row known number till header request terminal)
    joins other same terminal found =
        by-where P known (waits_under known number till header request (own_key header)) (is_waiting_result (step_result known header request (Some (record { number = number; terminal = terminal })))) cases.none
        (λ waits. under-key P known number till header request (own_key header) cases.none (λ key is. cases.joins terminal key (record { found = found; waits_is = waits; key_is = is })))

    by-request : (other : SaleRequest) → request ≡ other → P (queue_row known number till header other)
    by-request requests.Login same = cases.none
    by-request requests.Logout same = cases.none
    by-request (requests.Payment payment) same =
        each-terminal P known number (joins_row known number till header (requests.Payment payment)) cases.none
        (λ terminal found. subst (λ (r : SaleRequest). P (joins_row known number till header r terminal)) same (joins (requests.Payment payment) same terminal found))
    by-request (requests.Reversal reversal) same =
        each-terminal P known number (joins_row known number till header (requests.Reversal reversal)) cases.none
        (λ terminal found. subst (λ (r : SaleRequest). P (joins_row known number till header r terminal)) same (joins (requests.Reversal reversal) same terminal found))
    by-request (requests.Abort reference) same =
        by-waiting P known (taken_out known Aborted) (waiting_with (key_of header reference) known.core.waits) cases.none
        (λ wait is. cases.taken wait (record { reference = reference; request_is = same; waits_is = is }))
    by-request (requests.Status reference) same = cases.none
    by-request (requests.Reconciliation period) same =
        each-terminal P known number (joins_row known number till header (requests.Reconciliation period)) cases.none
        (λ terminal found. subst (λ (r : SaleRequest). P (joins_row known number till header r terminal)) same (joins (requests.Reconciliation period) same terminal found))
    by-request (requests.Display outputs) same = cases.none
    by-request (requests.Print qualifier) same = cases.none
    by-request requests.Diagnosis same = cases.none

-- ---- its deadline

-- this holds in each case of what a key owes under which a request may have waited for too long: of nothing owed, and of one that is taken out
pub record EachOverdue (P : Row → Type 0) (known : Known) (key : Key) : Type 0 where
  pub none : P (owing_nothing known)
  pub taken : (wait : Wait) → waiting_with key known.core.waits ≡ Some wait → is_overdue known.moment wait ≡ true → P (taken_out known Aborted wait)

-- what holds in each case holds of the row
pub each-overdue : (P : Row → Type 0) (known : Known) (key : Key) → EachOverdue P known key → P (overdue_row known key)
each-overdue P known key cases =
    by-waiting P known _ (waiting_with key known.core.waits) cases.none
    (λ wait is. by-where P known (taken_out known Aborted wait) (is_overdue known.moment wait) cases.none (λ overdue. cases.taken wait is overdue))
