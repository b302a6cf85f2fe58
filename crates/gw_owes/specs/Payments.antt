-- The beginning of a payment or a reversal: its Intent is kept, and then its terminal is asked.
use Rattle.std.specs.Prelude.{ℕ, pos, ◌++◌, [], ◌∷◌, length, Option, Some, None, unwrap_or, option_map}
use Rattle.gw_base.specs.declared.currency.Currency.{Currency}
use Rattle.sale_values.specs.declared.header.Header.{Header}
use Rattle.sale_values.specs.declared.request.PaymentAsk.{PaymentAsk}
use Rattle.sale_values.specs.declared.request.SaleRequest.{SaleRequest}
use Rattle.sale_values.specs.declared.request.SaleRequest.TheVariants as requests
use Rattle.jrn_record.specs.declared.records.Deal.TheVariants as deals
use Rattle.jrn_record.specs.declared.records.Intent.{Intent as TheIntent}
use Rattle.jrn_record.specs.declared.records.Record.TheVariants.{Intent}
use Rattle.gw_ledger.specs.declared.entry.Entry.{Entry as TheEntry}
use Rattle.xlate.specs.Ask.{ask}
use Rattle.gw_owes.specs.declared.terminal.Service.TheVariants.{Transaction}
use Rattle.gw_owes.specs.declared.terminal.Standing.{Standing}
use Rattle.gw_owes.specs.declared.terminal.Standing.TheVariants.{Unlinked, Registering, Enquiring, Ready, Serving, Aside}
use Rattle.gw_owes.specs.declared.terminal.Terminal.{Terminal}
use Rattle.gw_owes.specs.Calls.{Ask, SendPt, keep_calls}
use Rattle.gw_owes.specs.Displays.{display_row}
use Rattle.gw_owes.specs.Reconciliations.{reconciliation_row}
use Rattle.gw_owes.specs.Reversals.{original_of, reversal_intent}
use Rattle.gw_owes.specs.Row.{Known, Row, owing_nothing, owing_where}
use Rattle.gw_owes.specs.SessionRows.{session_row}
use Rattle.gw_owes.specs.Steps.{is_beginning, step_result}
use Rattle.gw_owes.specs.Stops.{stop_row}
use Rattle.gw_owes.specs.Terminals.{terminal_at, of_terminal, terminal_becomes, after_command}

-- ---- what is asked

-- the Intent of a payment in the terminal's currency, with the terminal's last trace number, at this moment
abbrev pub payment_intent : Header → PaymentAsk → Currency → ℕ → ℕ → TheIntent
payment_intent header payment currency last moment = record {
  what = deals.Payment;
  sale = header.sale;
  poi = header.poi;
  service = unwrap_or header.service [];
  transaction = Some payment.transaction;
  stamp = Some payment.stamp;
  amount = payment.amount;
  currency = currency;
  before = last;
  original = None;
  moment = pos moment;
}

-- what a terminal is to be asked for: the Intent, and the original of a reversal
pub record Asking : Type 0 where
  pub intent : TheIntent
  pub original : Option TheEntry

-- what a payment asks for
abbrev pub payment_asking : Known → Header → PaymentAsk → Terminal → ℕ → Asking
payment_asking known header payment terminal last = record { intent = payment_intent header payment terminal.pt.currency last known.moment; original = None }

-- what a reversal of this entry asks for
abbrev pub reversal_asking : Known → Header → ℕ → TheEntry → Asking
reversal_asking known header last original = record { intent = reversal_intent header original last known.moment; original = Some original }

-- what a request asks for of a terminal with this last trace number: a Payment, and a Reversal whose original is there; another nothing
abbrev pub asking_of : Known → Header → SaleRequest → Terminal → ℕ → Option Asking
asking_of known header requests.Login terminal last = None
asking_of known header requests.Logout terminal last = None
asking_of known header (requests.Payment payment) terminal last = Some (payment_asking known header payment terminal last)
asking_of known header (requests.Reversal reversal) terminal last = option_map (reversal_asking known header last) (original_of known.kept header.poi reversal)
asking_of known header (requests.Abort reference) terminal last = None
asking_of known header (requests.Status reference) terminal last = None
asking_of known header (requests.Reconciliation period) terminal last = None
asking_of known header (requests.Display outputs) terminal last = None
asking_of known header (requests.Print qualifier) terminal last = None
asking_of known header requests.Diagnosis terminal last = None

-- ---- the beginning

-- the terminal once it is asked for what an Intent says, whose record is the next: it serves it for this till
abbrev pub asked_for : Known → ℕ → Terminal → ℕ → TheIntent → Option TheEntry → Terminal
asked_for known till terminal last intent original =
    record (after_command terminal (ask intent original terminal.pt) (Serving (Transaction (length known.kept)) last) known.moment) { asker = Some till }

-- the Intent is kept in the next slot, and then the terminal is asked
abbrev pub beginning_row : Known → ℕ → ℕ → Terminal → ℕ → TheIntent → Option TheEntry → Row
beginning_row known number till terminal last intent original =
    terminal_becomes known number (asked_for known till terminal last intent original) (keep_calls (length known.kept) (Intent intent) ++ SendPt number (Ask (ask intent original terminal.pt)) ∷ [])

-- the same of what is asked for, where anything is
abbrev pub begins_asking : Known → ℕ → ℕ → Terminal → ℕ → Option Asking → Row
begins_asking known number till terminal last None = owing_nothing known
begins_asking known number till terminal last (Some asking) = beginning_row known number till terminal last asking.intent asking.original

-- a terminal that is ready begins what the request asks for, and another nothing
abbrev pub begins_in : Known → ℕ → ℕ → Header → SaleRequest → Terminal → Standing → Row
begins_in known number till header request terminal (Unlinked due) = owing_nothing known
begins_in known number till header request terminal Registering = owing_nothing known
begins_in known number till header request terminal Enquiring = owing_nothing known
begins_in known number till header request terminal (Ready last) = begins_asking known number till terminal last (asking_of known header request terminal last)
begins_in known number till header request terminal (Serving service last) = owing_nothing known
begins_in known number till header request terminal (Aside before reported) = owing_nothing known

-- a terminal begins what the request asks for, where the steps say so
abbrev pub begins_request : Known → ℕ → ℕ → Header → SaleRequest → Terminal → Row
begins_request known number till header request terminal =
    owing_where (is_beginning (step_result known header request (Some (record { number = number; terminal = terminal })))) known
    (begins_in known number till header request terminal terminal.standing)

-- ---- the row

-- what a request of a till leaves and owes at the terminal that serves it: a Login or a Logout succeeds, payments, reversals, reconciliations and displays begin, and an Abort stops what is served
abbrev pub serve_row : Known → ℕ → ℕ → Header → SaleRequest → Row
serve_row known number till header requests.Login = of_terminal known (session_row known number till header requests.Login) (terminal_at known number)
serve_row known number till header requests.Logout = of_terminal known (session_row known number till header requests.Logout) (terminal_at known number)
serve_row known number till header (requests.Payment payment) = of_terminal known (begins_request known number till header (requests.Payment payment)) (terminal_at known number)
serve_row known number till header (requests.Reversal reversal) = of_terminal known (begins_request known number till header (requests.Reversal reversal)) (terminal_at known number)
serve_row known number till header (requests.Abort reference) = stop_row known number header reference
serve_row known number till header (requests.Status reference) = owing_nothing known
serve_row known number till header (requests.Reconciliation period) = of_terminal known (reconciliation_row known number till header period) (terminal_at known number)
serve_row known number till header (requests.Display outputs) = of_terminal known (display_row known number till header outputs) (terminal_at known number)
serve_row known number till header (requests.Print qualifier) = owing_nothing known
serve_row known number till header requests.Diagnosis = owing_nothing known
