-- Whether a request asks for the same as what the records have under its key.
use Rattle.std.specs.Prelude.{ℕ, ◌==◌, bytes_eq, Bool, true, false, ◌&&◌, List, Option, Some, None, codes}
use Rattle.gw_base.specs.Currency.{currency_letters}
use Rattle.sale_values.specs.declared.names.Period.{Period}
use Rattle.sale_values.specs.declared.names.Period.TheVariants.{SaleReconciliation, AcquirerSynchronisation, AcquirerReconciliation, PreviousReconciliation}
use Rattle.sale_values.specs.declared.request.PaymentAsk.{PaymentAsk}
use Rattle.sale_values.specs.declared.request.ReversalAsk.{ReversalAsk}
use Rattle.sale_values.specs.declared.request.SaleRequest.{SaleRequest}
use Rattle.sale_values.specs.declared.request.SaleRequest.TheVariants as requests
use Rattle.jrn_record.specs.declared.records.Deal.{Deal}
use Rattle.jrn_record.specs.declared.records.Deal.TheVariants as deals
use Rattle.jrn_record.specs.declared.records.How.{How}
use Rattle.jrn_record.specs.declared.records.How.TheVariants as hows
use Rattle.jrn_record.specs.declared.records.Intent.{Intent as TheIntent}
use Rattle.jrn_record.specs.declared.records.Record.{Record}
use Rattle.gw_ledger.specs.declared.entry.Entry.{Entry as TheEntry}
use Rattle.gw_ledger.specs.declared.entry.Found.{Found}
use Rattle.gw_ledger.specs.declared.entry.Found.TheVariants.{Entry, Closed}
use Rattle.gw_ledger.specs.Slots.{entry_at}
use Rattle.gw_ledger.specs.Transaction.{is_text, text_of}

-- the `PaymentType` is `Normal`, which an absent one means
abbrev pub is_normal : Option (List ℕ) → Bool
is_normal None = true
is_normal (Some payment_type) = bytes_eq payment_type (codes "Normal")

-- a payment: its type, which is `Normal` for each on record, its amount and its currency
abbrev pub is_same_payment : PaymentAsk → TheIntent → Bool
is_same_payment ask intent =
    is_normal ask.kind && (ask.amount == intent.amount && bytes_eq ask.currency (currency_letters intent.currency))

-- the amount that is to be reversed; an absent one means the original's, which the Intent has
abbrev pub is_same_amount : Option ℕ → ℕ → Bool
is_same_amount None amount = true
is_same_amount (Some reversed) amount = reversed == amount

-- the text names the original, which has its Outcome
abbrev pub names_original : List ℕ → Option TheEntry → Bool
names_original text None = false
names_original text (Some original) = is_text text (text_of original)

-- the entry at a slot, where there is one
abbrev pub original_at : List Record → Option ℕ → Option TheEntry
original_at kept None = None
original_at kept (Some slot) = entry_at kept slot

-- a reversal: its original, by the text that names it at the terminal, and the amount
abbrev pub is_same_reversal : List Record → ReversalAsk → TheIntent → Bool
is_same_reversal kept ask intent =
    names_original ask.transaction (original_at kept intent.original) && is_same_amount ask.amount intent.amount

-- a reconciliation: its type
abbrev pub is_same_period : Period → How → Bool
is_same_period SaleReconciliation hows.Sale = true
is_same_period SaleReconciliation hows.Acquirer = false
is_same_period AcquirerSynchronisation how = false
is_same_period AcquirerReconciliation hows.Sale = false
is_same_period AcquirerReconciliation hows.Acquirer = true
is_same_period PreviousReconciliation how = false

-- a Payment asks for what the Intent does, which is a payment or a reversal
abbrev pub pays_the_same : PaymentAsk → Deal → TheIntent → Bool
pays_the_same ask deals.Payment intent = is_same_payment ask intent
pays_the_same ask deals.Reversal intent = false

-- a Reversal asks for what the Intent does
abbrev pub reverses_the_same : List Record → ReversalAsk → Deal → TheIntent → Bool
reverses_the_same kept ask deals.Payment intent = false
reverses_the_same kept ask deals.Reversal intent = is_same_reversal kept ask intent

-- a Payment has the content of what was found
abbrev pub is_payment_found : PaymentAsk → Found → Bool
is_payment_found ask (Entry entry) = pays_the_same ask entry.intent.what entry.intent
is_payment_found ask (Closed closed) = false

-- a Reversal has the content of what was found
abbrev pub is_reversal_found : List Record → ReversalAsk → Found → Bool
is_reversal_found kept ask (Entry entry) = reverses_the_same kept ask entry.intent.what entry.intent
is_reversal_found kept ask (Closed closed) = false

-- a Reconciliation has the content of what was found
abbrev pub is_period_found : Period → Found → Bool
is_period_found period (Entry entry) = false
is_period_found period (Closed closed) = is_same_period period closed.settled.how

-- the request is of the category of what was found, and asks for the same
abbrev pub has_same_content : List Record → SaleRequest → Found → Bool
has_same_content kept requests.Login found = false
has_same_content kept requests.Logout found = false
has_same_content kept (requests.Payment ask) found = is_payment_found ask found
has_same_content kept (requests.Reversal ask) found = is_reversal_found kept ask found
has_same_content kept (requests.Abort reference) found = false
has_same_content kept (requests.Status reference) found = false
has_same_content kept (requests.Reconciliation period) found = is_period_found period found
has_same_content kept (requests.Display outputs) found = false
has_same_content kept (requests.Print qualifier) found = false
has_same_content kept requests.Diagnosis found = false
