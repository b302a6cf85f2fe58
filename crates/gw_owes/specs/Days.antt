-- Ends of day: which one a terminal serves, by its key, and how many are served.
use Rattle.std.specs.Prelude.{ℕ, ◌+◌, Bool, true, false, ◌&&◌, List, [], ◌∷◌, Option, Some, None}
use Rattle.gw_base.specs.declared.key.Key.{Key}
use Rattle.sale_values.specs.declared.header.Header.{Header}
use Rattle.sale_values.specs.declared.names.Period.{Period}
use Rattle.sale_values.specs.declared.names.Period.TheVariants.{SaleReconciliation, AcquirerSynchronisation, AcquirerReconciliation, PreviousReconciliation}
use Rattle.sale_values.specs.declared.request.SaleRequest.{SaleRequest}
use Rattle.sale_values.specs.declared.request.SaleRequest.TheVariants as requests
use Rattle.sale_values.specs.declared.request.Reference.{Reference}
use Rattle.sale_values.specs.Key.{key_of}
use Rattle.gw_ledger.specs.Keys.{is_key}
use Rattle.gw_ledger.specs.Sums.{one_if}
use Rattle.gw_owes.specs.declared.terminal.Service.{Service}
use Rattle.gw_owes.specs.declared.terminal.Service.TheVariants.{Transaction, EndOfDay, Display}
use Rattle.gw_owes.specs.declared.terminal.Standing.{Standing}
use Rattle.gw_owes.specs.declared.terminal.Standing.TheVariants.{Unlinked, Registering, Enquiring, Ready, Serving, Aside}
use Rattle.gw_owes.specs.declared.terminal.Terminal.{Terminal}
use Rattle.gw_owes.specs.Core.{Core}
use Rattle.gw_owes.specs.Diagnosis.{NamedTerminal, named_terminal}
use Rattle.gw_owes.specs.KeptReplies.{own_key}

-- ---- the end of day that is served

-- the header of the request for an end of day, where that is the service
abbrev pub day_of_service : Service → Option Header
day_of_service (Transaction slot) = None
day_of_service (EndOfDay header period) = Some header
day_of_service (Display header results) = None

-- the header of the request for the end of day that a terminal of this standing serves
abbrev pub day_served : Standing → Option Header
day_served (Unlinked due) = None
day_served Registering = None
day_served Enquiring = None
day_served (Ready last) = None
day_served (Serving service last) = day_of_service service
day_served (Aside before reported) = None

-- the request has this key
abbrev pub has_key : Key → Option Header → Bool
has_key key None = false
has_key key (Some header) = is_key key (own_key header)

-- a terminal of this standing serves the end of day of this key
abbrev pub serves_day : Key → Standing → Bool
serves_day key standing = has_key key (day_served standing)

-- the terminal that is named does
abbrev pub named_serves_day : Key → Option NamedTerminal → Bool
named_serves_day key None = false
named_serves_day key (Some named) = serves_day key named.terminal.standing

-- the key is that of an end of day that is served: at the terminal that its POIID names
abbrev pub is_day_served : Core → Key → Bool
is_day_served core key = named_serves_day key (named_terminal core key.poi)

-- a TransactionStatus asks about an end of day that is served, by the key that its reference names
abbrev pub asks_day_served : Core → Header → Option Reference → Bool
asks_day_served core header None = false
asks_day_served core header (Some reference) = is_day_served core (key_of header reference)

-- ---- the key of a request

-- the terminal that is named serves the end of day of this key, where there is one
abbrev pub is_key_of_day : Option Key → Option NamedTerminal → Bool
is_key_of_day None named = false
is_key_of_day (Some key) named = named_serves_day key named

-- the key of a request with this header is that of the end of day that the terminal serves
abbrev pub is_day_key : Header → Option NamedTerminal → Bool
is_day_key header named = is_key_of_day (own_key header) named

-- an end of day is asked for
abbrev pub is_day_period : Period → Bool
is_day_period SaleReconciliation = false
is_day_period AcquirerSynchronisation = false
is_day_period AcquirerReconciliation = true
is_day_period PreviousReconciliation = false

-- the request is one for an end of day
abbrev pub asks_day : SaleRequest → Bool
asks_day requests.Login = false
asks_day requests.Logout = false
asks_day (requests.Payment ask) = false
asks_day (requests.Reversal ask) = false
asks_day (requests.Abort reference) = false
asks_day (requests.Status reference) = false
asks_day (requests.Reconciliation period) = is_day_period period
asks_day (requests.Display outputs) = false
asks_day (requests.Print qualifier) = false
asks_day requests.Diagnosis = false

-- it asks again for the end of day that the terminal serves: with its key and its content
abbrev pub is_day_again : Header → SaleRequest → Option NamedTerminal → Bool
is_day_again header request named = is_day_key header named && asks_day request

-- ---- how many are served

-- there is one
abbrev pub is_day : Option Header → Bool
is_day None = false
is_day (Some header) = true

-- how many of these terminals serve an end of day, the Settled of each of which is still to come
abbrev pub days_served : List Terminal → ℕ
days_served [] = 0
days_served (terminal ∷ terminals) = one_if (is_day (day_served terminal.standing)) + days_served terminals
