-- Requests that wait for a terminal: which wait, under which keys and with which content, and what is reserved for them.
use Rattle.std.specs.Prelude.{ℕ, ◌+◌, ◌*◌, ◌==◌, nat_le, bytes_eq, is_some, not, Bool, true, false, ◌&&◌, ◌||◌, if◌then◌else◌, List, [], ◌∷◌, ◌++◌, length, filter, Option, Some, None, option_and_then}
use Rattle.gw_base.specs.declared.key.Key.{Key}
use Rattle.sale_values.specs.declared.header.Header.{Header}
use Rattle.sale_values.specs.declared.request.PaymentAsk.{PaymentAsk}
use Rattle.sale_values.specs.declared.request.Reference.{Reference}
use Rattle.sale_values.specs.declared.request.ReversalAsk.{ReversalAsk}
use Rattle.sale_values.specs.declared.request.SaleRequest.{SaleRequest}
use Rattle.sale_values.specs.declared.request.SaleRequest.TheVariants as requests
use Rattle.sale_values.specs.Key.{key_of}
use Rattle.jrn_record.specs.declared.records.Record.{Record}
use Rattle.gw_ledger.specs.declared.entry.Entry.{Entry as TheEntry}
use Rattle.gw_ledger.specs.Keys.{same_key}
use Rattle.gw_owes.specs.Content.{is_normal}
use Rattle.gw_owes.specs.Core.{Wait, Core}
use Rattle.gw_owes.specs.Days.{days_served, asks_day, asks_day_served, is_day_again, is_day_key, is_day_served}
use Rattle.gw_owes.specs.Diagnosis.{NamedTerminal}
use Rattle.gw_owes.specs.KeptReplies.{own_key}
use Rattle.gw_owes.specs.Reversals.{amount_in, original_of}
use Rattle.gw_owes.specs.Row.{Known}

-- ---- which wait

-- the first of these requests that waits under this key
abbrev pub waiting_with : Key → List Wait → Option Wait
waiting_with key [] = None
waiting_with key (wait ∷ waits) = if same_key key wait.key then Some wait else waiting_with key waits

-- the requests that wait for the terminal of this number, in the order of their acceptance
abbrev pub queue_of : ℕ → List Wait → List Wait
queue_of number waits = filter (λ (wait : Wait). wait.pt == number) waits

-- the first of these
abbrev pub first_waiting : List Wait → Option Wait
first_waiting [] = None
first_waiting (wait ∷ waits) = Some wait

-- one request more waits, as the last
abbrev pub core_with_wait : Core → Wait → Core
core_with_wait core wait = record core { waits = core.waits ++ wait ∷ [] }

-- none waits under this key any more; the others keep their order
abbrev pub core_without_wait : Core → Key → Core
core_without_wait core key = record core { waits = filter (λ (wait : Wait). not (same_key key wait.key)) core.waits }

-- ---- what is reserved

-- the slots for what is served or waits: one for the Settled of each end of day that is served, and two for each request that waits
abbrev pub slots_reserved : Core → ℕ
slots_reserved core = days_served core.terminals + 2 * length core.waits

-- the memory for it: that of one record each, since an Outcome takes none
abbrev pub memory_reserved : Core → ℕ
memory_reserved core = days_served core.terminals + length core.waits

-- as many requests wait for the terminal that is named as may
abbrev pub is_queue_full : Known → Option NamedTerminal → Bool
is_queue_full known None = true
is_queue_full known (Some named) = nat_le known.setup.line (length (queue_of named.number known.core.waits))

-- ---- their content

-- the Payment that a request is
abbrev pub payment_in : SaleRequest → Option PaymentAsk
payment_in requests.Login = None
payment_in requests.Logout = None
payment_in (requests.Payment ask) = Some ask
payment_in (requests.Reversal ask) = None
payment_in (requests.Abort reference) = None
payment_in (requests.Status reference) = None
payment_in (requests.Reconciliation period) = None
payment_in (requests.Display outputs) = None
payment_in (requests.Print qualifier) = None
payment_in requests.Diagnosis = None

-- the Reversal that a request is
abbrev pub reversal_in : SaleRequest → Option ReversalAsk
reversal_in requests.Login = None
reversal_in requests.Logout = None
reversal_in (requests.Payment ask) = None
reversal_in (requests.Reversal ask) = Some ask
reversal_in (requests.Abort reference) = None
reversal_in (requests.Status reference) = None
reversal_in (requests.Reconciliation period) = None
reversal_in (requests.Display outputs) = None
reversal_in (requests.Print qualifier) = None
reversal_in requests.Diagnosis = None

-- both are payments: of the type `Normal`, which each is that waits, and of the same amount and currency
abbrev pub pay_the_same : Option PaymentAsk → Option PaymentAsk → Bool
pay_the_same None waiting = false
pay_the_same (Some ask) None = false
pay_the_same (Some ask) (Some waiting) = is_normal ask.kind && (ask.amount == waiting.amount && bytes_eq ask.currency waiting.currency)

-- the amount of an original, where there is one
abbrev pub amount_of_original : Option TheEntry → ℕ
amount_of_original None = 0
amount_of_original (Some original) = amount_in original.result

-- the amount that is to be reversed; an absent one means the original's
abbrev pub amount_meant : Option ℕ → ℕ → ℕ
amount_meant None amount = amount
amount_meant (Some reversed) amount = reversed

-- both are reversals: of the original with this text, and of the same amount
abbrev pub reverse_the_same : List Record → List ℕ → Option ReversalAsk → Option ReversalAsk → Bool
reverse_the_same kept poi None waiting = false
reverse_the_same kept poi (Some ask) None = false
reverse_the_same kept poi (Some ask) (Some waiting) =
    bytes_eq ask.transaction waiting.transaction
    && (amount_meant ask.amount (amount_of_original (original_of kept poi ask)) == amount_meant waiting.amount (amount_of_original (original_of kept poi waiting)))

-- a request at this POIID asks for the same as one that waits
abbrev pub asks_the_same : List Record → List ℕ → SaleRequest → SaleRequest → Bool
asks_the_same kept poi request waiting =
    pay_the_same (payment_in request) (payment_in waiting)
    || (reverse_the_same kept poi (reversal_in request) (reversal_in waiting) || (asks_day request && asks_day waiting))

-- the same of what waits under its key, where anything does
abbrev pub repeats_waiting : List Record → List ℕ → SaleRequest → Option Wait → Bool
repeats_waiting kept poi request None = false
repeats_waiting kept poi request (Some wait) = asks_the_same kept poi request wait.request

-- ---- keys

-- what waits under the key of a request with this header
abbrev pub waiting_for : Core → Header → Option Wait
waiting_for core header = option_and_then (λ key. waiting_with key core.waits) (own_key header)

-- the key waits, or is that of an end of day that is served
abbrev pub is_pending : Core → Key → Bool
is_pending core key = is_day_served core key || is_some (waiting_with key core.waits)

-- a TransactionStatus asks about such a key, which its reference names
abbrev pub asks_pending : Core → Header → Option Reference → Bool
asks_pending core header None = asks_day_served core header None
asks_pending core header (Some reference) = is_pending core (key_of header reference)

-- the key of a request with this header waits, or is that of the end of day that the terminal serves
abbrev pub is_pending_key : Core → Header → Option NamedTerminal → Bool
is_pending_key core header named = is_day_key header named || is_some (waiting_for core header)

-- it asks again for what waits, or for the end of day that the terminal serves: with its key and its content
abbrev pub is_pending_again : Known → Header → SaleRequest → Option NamedTerminal → Bool
is_pending_again known header request named = is_day_again header request named || repeats_waiting known.kept header.poi request (waiting_for known.core header)
