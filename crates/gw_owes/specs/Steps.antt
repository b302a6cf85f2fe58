-- The steps of a Payment, a Reversal and a Reconciliation: one table, in its order. The first that applies replies.
use Rattle.std.specs.Prelude.{ℕ, ◌+◌, ◌==◌, nat_lt, bytes_eq, is_some, not, Bool, true, false, ◌&&◌, ◌||◌, if◌then◌else◌, List, [], ◌∷◌, length, Option, Some, None, option_and_then}
use Rattle.gw_base.specs.Currency.{currency_letters}
use Rattle.gw_base.specs.declared.condition.Condition.{Condition}
use Rattle.gw_base.specs.declared.condition.Condition.TheVariants.{Busy, InProgress, LoggedOut, NotAllowed, NotFound, UnavailableDevice, UnavailableService}
use Rattle.sale_values.specs.declared.header.Header.{Header}
use Rattle.sale_values.specs.declared.names.Period.{Period}
use Rattle.sale_values.specs.declared.names.Period.TheVariants.{SaleReconciliation, AcquirerSynchronisation, AcquirerReconciliation, PreviousReconciliation}
use Rattle.sale_values.specs.declared.request.SaleRequest.{SaleRequest}
use Rattle.sale_values.specs.declared.request.SaleRequest.TheVariants as requests
use Rattle.jrn_record.specs.declared.records.Record.{Record}
use Rattle.gw_ledger.specs.declared.entry.Found.{Found}
use Rattle.gw_ledger.specs.Accounts.{last_number_of}
use Rattle.gw_ledger.specs.Sums.{open_count_of}
use Rattle.gw_owes.specs.declared.terminal.Standing.{Standing}
use Rattle.gw_owes.specs.declared.terminal.Standing.TheVariants.{Unlinked, Registering, Enquiring, Ready, Serving, Aside}
use Rattle.gw_owes.specs.Content.{is_normal, has_same_content}
use Rattle.gw_owes.specs.Core.{Core}
use Rattle.gw_owes.specs.Diagnosis.{NamedTerminal}
use Rattle.gw_owes.specs.Items.{RoundItem, Serve, Queue}
use Rattle.gw_owes.specs.KeptReplies.{found_for, is_finished, kept_reply}
use Rattle.gw_owes.specs.Reply.{ReplyValue}
use Rattle.gw_owes.specs.Replies.{failure_reply}
use Rattle.gw_owes.specs.Reversals.{names_irreversible, names_none}
use Rattle.gw_owes.specs.Row.{Known}
use Rattle.gw_owes.specs.Sessions.{is_logged_out}
use Rattle.gw_owes.specs.Waits.{slots_reserved, is_pending_again, is_pending_key, is_queue_full}

-- what a step gives
pub data StepResult : Type 0 where
  -- the kept reply again
  KeptReply : StepResult
  -- a Failure
  Fails : Condition → StepResult
  -- it begins, at the terminal that is named: there is no reply yet
  Begins : StepResult
  -- it waits for the terminal that is named: there is no reply yet
  Waits : StepResult

-- one step
pub record RequestStep : Type 0 where
  pub applies : Bool
  pub result : StepResult

-- ---- what the steps ask

-- the key is on record, with the same content
abbrev pub is_repeated : List Record → SaleRequest → Option Found → Bool
is_repeated kept request None = false
is_repeated kept request (Some found) = has_same_content kept request found

-- it is finished there
abbrev pub has_reply : Option Found → Bool
has_reply None = false
has_reply (Some found) = is_finished found

-- the reconciliation type isn't served
abbrev pub is_unserved_period : Period → Bool
is_unserved_period SaleReconciliation = false
is_unserved_period AcquirerSynchronisation = true
is_unserved_period AcquirerReconciliation = false
is_unserved_period PreviousReconciliation = true

-- the service isn't there: a payment whose type isn't `Normal`, and a reconciliation of a type that isn't served
abbrev pub is_unserved : SaleRequest → Bool
is_unserved requests.Login = true
is_unserved requests.Logout = true
is_unserved (requests.Payment ask) = not (is_normal ask.kind)
is_unserved (requests.Reversal ask) = false
is_unserved (requests.Abort reference) = true
is_unserved (requests.Status reference) = true
is_unserved (requests.Reconciliation period) = is_unserved_period period
is_unserved (requests.Display outputs) = true
is_unserved (requests.Print qualifier) = true
is_unserved requests.Diagnosis = true

-- the currency isn't that of the terminal
abbrev pub is_other_currency : List ℕ → Option NamedTerminal → Bool
is_other_currency currency None = false
is_other_currency currency (Some named) = not (bytes_eq currency (currency_letters named.terminal.pt.currency))

-- a payment's currency isn't that of the terminal
abbrev pub asks_other_currency : SaleRequest → Option NamedTerminal → Bool
asks_other_currency requests.Login named = false
asks_other_currency requests.Logout named = false
asks_other_currency (requests.Payment ask) named = is_other_currency ask.currency named
asks_other_currency (requests.Reversal ask) named = false
asks_other_currency (requests.Abort reference) named = false
asks_other_currency (requests.Status reference) named = false
asks_other_currency (requests.Reconciliation period) named = false
asks_other_currency (requests.Display outputs) named = false
asks_other_currency (requests.Print qualifier) named = false
asks_other_currency requests.Diagnosis named = false

-- the greatest trace number that there is
abbrev pub greatest_number : ℕ
greatest_number = 999999

-- the last trace number with which a terminal of this standing was ready, where it has one
abbrev pub is_last_of : ℕ → Standing → Bool
is_last_of number (Unlinked due) = false
is_last_of number Registering = false
is_last_of number Enquiring = false
is_last_of number (Ready last) = last == number
is_last_of number (Serving service last) = last == number
is_last_of number (Aside before reported) = false

-- the terminal was last ready with this number
abbrev pub has_last : ℕ → Option NamedTerminal → Bool
has_last number None = false
has_last number (Some named) = is_last_of number named.terminal.standing

-- the greatest trace number is the last one of the records or of the terminal, so that none can come after it
abbrev pub is_used_up : List Record → List ℕ → Option NamedTerminal → Bool
is_used_up kept poi named = (last_number_of kept poi == greatest_number) || has_last greatest_number named

-- the request is one for a payment or a reversal, of which each has a trace number of its own
abbrev pub asks_transaction : SaleRequest → Bool
asks_transaction requests.Login = false
asks_transaction requests.Logout = false
asks_transaction (requests.Payment ask) = true
asks_transaction (requests.Reversal ask) = true
asks_transaction (requests.Abort reference) = false
asks_transaction (requests.Status reference) = false
asks_transaction (requests.Reconciliation period) = false
asks_transaction (requests.Display outputs) = false
asks_transaction (requests.Print qualifier) = false
asks_transaction requests.Diagnosis = false

-- fewer slots are free than two for the Intent and its Outcome, one for each key that is open, and those that are reserved
abbrev pub lacks_room : ℕ → List Record → Core → Bool
lacks_room slots kept core = nat_lt slots (length kept + (open_count_of kept + (slots_reserved core + 2)))

-- the reconciliation is one of the till's own
abbrev pub is_sale_period : Period → Bool
is_sale_period SaleReconciliation = true
is_sale_period AcquirerSynchronisation = false
is_sale_period AcquirerReconciliation = false
is_sale_period PreviousReconciliation = false

-- the request is a reconciliation of the till's own, which asks nothing of the terminal
abbrev pub asks_settling : SaleRequest → Bool
asks_settling requests.Login = false
asks_settling requests.Logout = false
asks_settling (requests.Payment ask) = false
asks_settling (requests.Reversal ask) = false
asks_settling (requests.Abort reference) = false
asks_settling (requests.Status reference) = false
asks_settling (requests.Reconciliation period) = is_sale_period period
asks_settling (requests.Display outputs) = false
asks_settling (requests.Print qualifier) = false
asks_settling requests.Diagnosis = false

-- a terminal of this standing takes no request: it isn't linked, not yet ready, or set aside
abbrev pub is_out_of_service : Standing → Bool
is_out_of_service (Unlinked due) = true
is_out_of_service Registering = true
is_out_of_service Enquiring = true
is_out_of_service (Ready last) = false
is_out_of_service (Serving service last) = false
is_out_of_service (Aside before reported) = true

-- the terminal takes no request
abbrev pub is_unavailable : Option NamedTerminal → Bool
is_unavailable None = false
is_unavailable (Some named) = is_out_of_service named.terminal.standing

-- a terminal of this standing is ready
abbrev pub is_ready_standing : Standing → Bool
is_ready_standing (Unlinked due) = false
is_ready_standing Registering = false
is_ready_standing Enquiring = false
is_ready_standing (Ready last) = true
is_ready_standing (Serving service last) = false
is_ready_standing (Aside before reported) = false

-- the terminal is ready
abbrev pub is_ready : Option NamedTerminal → Bool
is_ready None = false
is_ready (Some named) = is_ready_standing named.terminal.standing

-- ---- a request that has waited

-- why a request that has waited isn't begun: its steps about the original and the trace number are asked again, and no others
abbrev pub refused_again : Known → Header → SaleRequest → Option NamedTerminal → Option Condition
refused_again known header request named =
    if names_none known.kept header.poi request then Some NotFound
    else if names_irreversible known.kept header.poi request then Some NotAllowed
    else if asks_transaction request && is_used_up known.kept header.poi named then Some UnavailableService
    else None

-- ---- the table

-- the steps of a request, by what the records have under its key and the terminal that its POIID names
abbrev pub steps : Known → Header → SaleRequest → Option Found → Option NamedTerminal → List RequestStep
steps known header request found named =
    record { applies = is_repeated known.kept request found && has_reply found; result = KeptReply }
    ∷ record { applies = is_repeated known.kept request found; result = Fails InProgress }
    ∷ record { applies = is_some found; result = Fails NotAllowed }
    ∷ record { applies = is_pending_again known header request named; result = Fails InProgress }
    ∷ record { applies = is_pending_key known.core header named; result = Fails NotAllowed }
    ∷ record { applies = not (is_some named); result = Fails UnavailableDevice }
    ∷ record { applies = is_logged_out known.core header.sale header.poi; result = Fails LoggedOut }
    ∷ record { applies = is_unserved request; result = Fails UnavailableService }
    ∷ record { applies = asks_other_currency request named; result = Fails NotAllowed }
    ∷ record { applies = names_none known.kept header.poi request; result = Fails NotFound }
    ∷ record { applies = names_irreversible known.kept header.poi request; result = Fails NotAllowed }
    ∷ record { applies = asks_transaction request && is_used_up known.kept header.poi named; result = Fails UnavailableService }
    ∷ record { applies = lacks_room known.setup.slots known.kept known.core; result = Fails UnavailableService }
    ∷ record { applies = asks_settling request; result = Begins }
    ∷ record { applies = is_unavailable named; result = Fails UnavailableDevice }
    ∷ record { applies = is_ready named; result = Begins }
    ∷ []

-- the result of the first step that applies, or else this one
abbrev pub first_result : StepResult → List RequestStep → StepResult
first_result otherwise [] = otherwise
first_result otherwise (step ∷ steps) = if step.applies then step.result else first_result otherwise steps

-- the result for a terminal that serves another request: the request waits for it, unless as many wait as may
abbrev pub result_at_queue : Known → Option NamedTerminal → StepResult
result_at_queue known named = if is_queue_full known named then Fails Busy else Waits

-- the result of the steps of a request
abbrev pub step_result : Known → Header → SaleRequest → Option NamedTerminal → StepResult
step_result known header request named = first_result (result_at_queue known named) (steps known header request (found_for known.kept header) named)

-- the reply that a result is; none where a service begins, or the request waits
abbrev pub reply_of_result : List Record → Header → StepResult → Option ReplyValue
reply_of_result kept header KeptReply = option_and_then kept_reply (found_for kept header)
reply_of_result kept header (Fails condition) = Some (failure_reply header condition)
reply_of_result kept header Begins = None
reply_of_result kept header Waits = None

-- the reply to a Payment, a Reversal or a Reconciliation
abbrev pub service_reply : Known → Header → SaleRequest → Option NamedTerminal → Option ReplyValue
service_reply known header request named = reply_of_result known.kept header (step_result known header request named)

-- ---- what begins

-- the result is that the service begins
abbrev pub is_beginning : StepResult → Bool
is_beginning KeptReply = false
is_beginning (Fails condition) = false
is_beginning Begins = true
is_beginning Waits = false

-- the result is that the request waits
abbrev pub is_waiting_result : StepResult → Bool
is_waiting_result KeptReply = false
is_waiting_result (Fails condition) = false
is_waiting_result Begins = false
is_waiting_result Waits = true

-- the item of what begins at a terminal, or waits for it
abbrev pub item_of_result : ℕ → Header → SaleRequest → ℕ → StepResult → List RoundItem
item_of_result till header request number KeptReply = []
item_of_result till header request number (Fails condition) = []
item_of_result till header request number Begins = Serve number till header request ∷ []
item_of_result till header request number Waits = Queue number till header request ∷ []

-- the same at the terminal that is named, where there is one
abbrev pub items_of_result : ℕ → Header → SaleRequest → Option NamedTerminal → StepResult → List RoundItem
items_of_result till header request None result = []
items_of_result till header request (Some named) result = item_of_result till header request named.number result

-- what a Payment, a Reversal or a Reconciliation of a till begins, or that it waits
abbrev pub service_items : Known → ℕ → Header → SaleRequest → Option NamedTerminal → List RoundItem
service_items known till header request named = items_of_result till header request named (step_result known header request named)
