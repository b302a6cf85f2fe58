-- A reversal: its original, which is the entry that its text names at the terminal, whether it may be reversed, and the Intent.
use Rattle.std.specs.Prelude.{ℕ, pos, is_some, not, Bool, false, ◌&&◌, List, [], Option, Some, None, unwrap_or}
use Rattle.sale_values.specs.declared.header.Header.{Header}
use Rattle.sale_values.specs.declared.request.ReversalAsk.{ReversalAsk}
use Rattle.sale_values.specs.declared.request.SaleRequest.{SaleRequest}
use Rattle.sale_values.specs.declared.request.SaleRequest.TheVariants as requests
use Rattle.jrn_record.specs.declared.records.Deal.TheVariants as deals
use Rattle.jrn_record.specs.declared.records.Intent.{Intent as TheIntent}
use Rattle.jrn_record.specs.declared.records.Outcome.{Outcome as TheOutcome}
use Rattle.jrn_record.specs.declared.records.Record.{Record}
use Rattle.gw_ledger.specs.declared.entry.Entry.{Entry as TheEntry}
use Rattle.gw_ledger.specs.Accounts.{is_settled}
use Rattle.gw_ledger.specs.Slots.{is_reversible, is_reversed}
use Rattle.gw_ledger.specs.Transaction.{named_of}
use Rattle.gw_owes.specs.Content.{is_same_amount}

-- ---- the original

-- the original of a reversal at the terminal with this POIID: the entry that its text names there, which has its Outcome
abbrev pub original_of : List Record → List ℕ → ReversalAsk → Option TheEntry
original_of kept poi reversal = named_of kept poi reversal.transaction

-- the Outcome approves, and what is to be reversed is the whole of its amount
abbrev pub is_whole_of : Option ℕ → Option TheOutcome → Bool
is_whole_of amount None = false
is_whole_of amount (Some outcome) = outcome.approved && is_same_amount amount outcome.amount

-- the entry may be reversed: it is an approved payment that is neither reversed nor settled, and the whole of its amount is to be reversed
abbrev pub may_be_reversed : List Record → ReversalAsk → TheEntry → Bool
may_be_reversed kept reversal entry =
    (is_reversible entry.intent.what && is_whole_of reversal.amount entry.result) && (not (is_reversed kept entry.slot) && not (is_settled kept entry.slot))

-- the original, where there is one, may not be reversed
abbrev pub is_irreversible : List Record → ReversalAsk → Option TheEntry → Bool
is_irreversible kept reversal None = false
is_irreversible kept reversal (Some entry) = not (may_be_reversed kept reversal entry)

-- ---- what the steps ask

-- a reversal names no entry of the terminal with this POIID
abbrev pub names_none : List Record → List ℕ → SaleRequest → Bool
names_none kept poi requests.Login = false
names_none kept poi requests.Logout = false
names_none kept poi (requests.Payment ask) = false
names_none kept poi (requests.Reversal ask) = not (is_some (original_of kept poi ask))
names_none kept poi (requests.Abort reference) = false
names_none kept poi (requests.Status reference) = false
names_none kept poi (requests.Reconciliation period) = false
names_none kept poi (requests.Display outputs) = false
names_none kept poi (requests.Print qualifier) = false
names_none kept poi requests.Diagnosis = false

-- a reversal names one that it may not reverse
abbrev pub names_irreversible : List Record → List ℕ → SaleRequest → Bool
names_irreversible kept poi requests.Login = false
names_irreversible kept poi requests.Logout = false
names_irreversible kept poi (requests.Payment ask) = false
names_irreversible kept poi (requests.Reversal ask) = is_irreversible kept ask (original_of kept poi ask)
names_irreversible kept poi (requests.Abort reference) = false
names_irreversible kept poi (requests.Status reference) = false
names_irreversible kept poi (requests.Reconciliation period) = false
names_irreversible kept poi (requests.Display outputs) = false
names_irreversible kept poi (requests.Print qualifier) = false
names_irreversible kept poi requests.Diagnosis = false

-- ---- the Intent

-- the amount of an Outcome; 0 where there is none
abbrev pub amount_in : Option TheOutcome → ℕ
amount_in None = 0
amount_in (Some outcome) = outcome.amount

-- the Intent of a reversal of this entry, whose amount and currency it has, with the terminal's last trace number, at this moment
abbrev pub reversal_intent : Header → TheEntry → ℕ → ℕ → TheIntent
reversal_intent header original last moment = record {
  what = deals.Reversal;
  sale = header.sale;
  poi = header.poi;
  service = unwrap_or header.service [];
  transaction = None;
  stamp = None;
  amount = amount_in original.result;
  currency = original.intent.currency;
  before = last;
  original = Some original.slot;
  moment = pos moment;
}
