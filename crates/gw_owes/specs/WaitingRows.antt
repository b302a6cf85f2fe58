-- What becomes of a request that waits: it joins the others, and is begun or refused once its terminal is ready, aborted by a till, or refused at its deadline.
use Rattle.std.specs.Prelude.{ℕ, ◌+◌, pos, int_lt, not, Bool, List, [], ◌∷◌, Option, Some, None}
use Rattle.gw_base.specs.declared.condition.Condition.{Condition}
use Rattle.gw_base.specs.declared.condition.Condition.TheVariants.{Aborted}
use Rattle.gw_base.specs.declared.key.Key.{Key}
use Rattle.sale_values.specs.declared.header.Header.{Header}
use Rattle.sale_values.specs.declared.request.SaleRequest.{SaleRequest}
use Rattle.sale_values.specs.declared.request.SaleRequest.TheVariants as requests
use Rattle.sale_values.specs.Key.{key_of}
use Rattle.gw_owes.specs.declared.terminal.Terminal.{Terminal}
use Rattle.gw_owes.specs.Calls.{OwedCall, SendTill}
use Rattle.gw_owes.specs.Core.{Wait}
use Rattle.gw_owes.specs.Items.{NextWaiting}
use Rattle.gw_owes.specs.KeptReplies.{own_key}
use Rattle.gw_owes.specs.Payments.{begins_in}
use Rattle.gw_owes.specs.Reconciliations.{begins_day}
use Rattle.gw_owes.specs.Replies.{failure_reply}
use Rattle.gw_owes.specs.Row.{Known, Row, owing_nothing, owing_where, becoming}
use Rattle.gw_owes.specs.Steps.{is_ready_standing, is_waiting_result, refused_again, step_result}
use Rattle.gw_owes.specs.Terminals.{terminal_at, of_terminal}
use Rattle.gw_owes.specs.Waits.{waiting_with, queue_of, first_waiting, core_with_wait, core_without_wait}

-- ---- it joins the others

-- a request of this till waits for the terminal of this number until it has waited for as long as may be
abbrev pub wait_of : Known → ℕ → ℕ → Header → SaleRequest → Key → Wait
wait_of known number till header request key = record {
  key = key;
  pt = number;
  till = till;
  deadline = pos (known.moment + known.setup.wait);
  header = header;
  request = request;
}

-- it waits under its key, which each request has that has passed its steps
abbrev pub waits_under : Known → ℕ → ℕ → Header → SaleRequest → Option Key → Row
waits_under known number till header request None = owing_nothing known
waits_under known number till header request (Some key) = becoming (core_with_wait known.core (wait_of known number till header request key)) []

-- a request joins those that wait for a terminal, where its steps say so
abbrev pub joins_row : Known → ℕ → ℕ → Header → SaleRequest → Terminal → Row
joins_row known number till header request terminal =
    owing_where (is_waiting_result (step_result known header request (Some (record { number = number; terminal = terminal })))) known
    (waits_under known number till header request (own_key header))

-- ---- it is taken out

-- its till gets this Failure
abbrev pub refusal_calls : Wait → Condition → List OwedCall
refusal_calls wait condition = SendTill wait.till (failure_reply wait.header condition) ∷ []

-- it waits no longer, and its till gets this Failure
abbrev pub taken_out : Known → Condition → Wait → Row
taken_out known condition wait = becoming (core_without_wait known.core wait.key) (refusal_calls wait condition)

-- what is owed of a request that waits, where there is one
abbrev pub of_waiting : Known → (Wait → Row) → Option Wait → Row
of_waiting known row None = owing_nothing known
of_waiting known row (Some wait) = row wait

-- what waits under a key that a till aborts
abbrev pub abort_row : Known → Key → Row
abort_row known key = of_waiting known (taken_out known Aborted) (waiting_with key known.core.waits)

-- its deadline is now or before
abbrev pub is_overdue : ℕ → Wait → Bool
is_overdue moment wait = not (int_lt (pos moment) wait.deadline)

-- what waits under a key, where it has waited for too long
abbrev pub overdue_row : Known → Key → Row
overdue_row known key = of_waiting known (λ wait. owing_where (is_overdue known.moment wait) known (taken_out known Aborted wait)) (waiting_with key known.core.waits)

-- what a till's request changes of those that wait: a Payment, a Reversal or a Reconciliation joins them, and an Abort takes out that of the key that it names
abbrev pub queue_row : Known → ℕ → ℕ → Header → SaleRequest → Row
queue_row known number till header requests.Login = owing_nothing known
queue_row known number till header requests.Logout = owing_nothing known
queue_row known number till header (requests.Payment payment) = of_terminal known (joins_row known number till header (requests.Payment payment)) (terminal_at known number)
queue_row known number till header (requests.Reversal reversal) = of_terminal known (joins_row known number till header (requests.Reversal reversal)) (terminal_at known number)
queue_row known number till header (requests.Abort reference) = abort_row known (key_of header reference)
queue_row known number till header (requests.Status reference) = owing_nothing known
queue_row known number till header (requests.Reconciliation period) = of_terminal known (joins_row known number till header (requests.Reconciliation period)) (terminal_at known number)
queue_row known number till header (requests.Display outputs) = owing_nothing known
queue_row known number till header (requests.Print qualifier) = owing_nothing known
queue_row known number till header requests.Diagnosis = owing_nothing known

-- ---- its terminal is ready

-- the terminal begins to serve the request of this till: its steps were passed as it came, and are not asked again here
abbrev pub begins_from_queue : Known → ℕ → ℕ → Header → SaleRequest → Terminal → Row
begins_from_queue known number till header requests.Login terminal = owing_nothing known
begins_from_queue known number till header requests.Logout terminal = owing_nothing known
begins_from_queue known number till header (requests.Payment payment) terminal = begins_in known number till header (requests.Payment payment) terminal terminal.standing
begins_from_queue known number till header (requests.Reversal reversal) terminal = begins_in known number till header (requests.Reversal reversal) terminal terminal.standing
begins_from_queue known number till header (requests.Abort reference) terminal = owing_nothing known
begins_from_queue known number till header (requests.Status reference) terminal = owing_nothing known
begins_from_queue known number till header (requests.Reconciliation period) terminal = begins_day known number till header terminal terminal.standing
begins_from_queue known number till header (requests.Display outputs) terminal = owing_nothing known
begins_from_queue known number till header (requests.Print qualifier) terminal = owing_nothing known
begins_from_queue known number till header requests.Diagnosis terminal = owing_nothing known

-- it is refused, and then the next one is looked at, or else it waits no longer and is begun
abbrev pub first_waiting_row : Known → ℕ → Terminal → Wait → Option Condition → Row
first_waiting_row known number terminal wait (Some condition) = record (taken_out known condition wait) { items = NextWaiting number ∷ [] }
first_waiting_row known number terminal wait None = begins_from_queue (record known { core = core_without_wait known.core wait.key }) number wait.till wait.header wait.request terminal

-- by what its steps say that are asked again
abbrev pub looks_at_first : Known → ℕ → Terminal → Wait → Row
looks_at_first known number terminal wait =
    first_waiting_row known number terminal wait (refused_again known wait.header wait.request (Some (record { number = number; terminal = terminal })))

-- what the first request owes that waits for a terminal, where that is ready
abbrev pub next_waiting_row : Known → ℕ → Row
next_waiting_row known number =
    of_terminal known (λ terminal. owing_where (is_ready_standing terminal.standing) known (of_waiting known (looks_at_first known number terminal) (first_waiting (queue_of number known.core.waits)))) (terminal_at known number)
