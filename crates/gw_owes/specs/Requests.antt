-- The reply to each message of a till: one table, with a row for each kind of message. What the records have is said; nothing is printed at a terminal.
use Rattle.std.specs.Prelude.{ℕ, pos, Bool, true, false, ◌||◌, List, [], ◌∷◌, Option, Some, None}
use Rattle.gw_base.specs.declared.condition.Condition.TheVariants.{UnavailableDevice}
use Rattle.sale_values.specs.declared.header.Header.{Header}
use Rattle.sale_values.specs.declared.request.Reference.{Reference}
use Rattle.sale_values.specs.declared.request.SaleRequest.{SaleRequest}
use Rattle.sale_values.specs.declared.request.SaleRequest.TheVariants as requests
use Rattle.sale_values.specs.Key.{key_of}
use Rattle.sale_reply.specs.declared.reply.Detail.TheVariants as details
use Rattle.gw_owes.specs.Reply.{ReplyValue, Print, Reject}
use Rattle.gw_owes.specs.Replies.{header_of_reply, failure, reject_event, reply_to_fault}
use Rattle.gw_owes.specs.ReadAs.{ReadAs, Request, Silent, NoMessage, NoJson}
use Rattle.gw_owes.specs.Core.{Wait}
use Rattle.gw_owes.specs.Row.{Known}
use Rattle.gw_owes.specs.Diagnosis.{NamedTerminal, named_terminal, diagnosis_reply}
use Rattle.gw_owes.specs.Displays.{display_reply_at, display_items}
use Rattle.gw_owes.specs.KeptReplies.{found_by_status, is_open_key, status_reply_at}
use Rattle.gw_owes.specs.Items.{RoundItem, Queue}
use Rattle.gw_owes.specs.SessionRows.{session_reply, session_items}
use Rattle.gw_owes.specs.Steps.{service_reply, service_items}
use Rattle.gw_owes.specs.Stops.{stop_items}
use Rattle.gw_owes.specs.Waits.{waiting_with, is_pending, asks_pending}

-- ---- requests

-- an Abort of a key that is open, that waits, or whose end of day is served, gets no reply of its own; that of another is rejected
abbrev pub abort_reply : Bool → Known → Header → Option ReplyValue
abort_reply true known header = None
abort_reply false known header = Some (Reject header.sale header.poi (pos known.moment) details.Abort)

-- the reply to a request, by the terminal that its POIID names
abbrev pub reply_at : Option NamedTerminal → Known → Header → SaleRequest → Option ReplyValue
reply_at named known header requests.Login = session_reply known header requests.Login named
reply_at named known header requests.Logout = session_reply known header requests.Logout named
reply_at named known header (requests.Payment ask) = service_reply known header (requests.Payment ask) named
reply_at named known header (requests.Reversal ask) = service_reply known header (requests.Reversal ask) named
reply_at named known header (requests.Abort reference) = abort_reply (is_open_key known.kept header reference || is_pending known.core (key_of header reference)) known header
reply_at named known header (requests.Status reference) = Some (status_reply_at header (found_by_status known.kept header reference) (asks_pending known.core header reference))
reply_at named known header (requests.Reconciliation period) = service_reply known header (requests.Reconciliation period) named
reply_at named known header (requests.Display outputs) = display_reply_at header outputs named
reply_at named known header (requests.Print qualifier) = Some (Print (header_of_reply header) qualifier (failure UnavailableDevice))
reply_at named known header requests.Diagnosis = Some (diagnosis_reply header named)

-- the reply to a request; none where there is none
abbrev pub request_reply : Known → Header → SaleRequest → Option ReplyValue
request_reply known header request = reply_at (named_terminal known.core header.poi) known header request

-- ---- messages

-- the reply to a till's message, by what it is read as; none where there is none
abbrev pub reply_to : Known → ReadAs → Option ReplyValue
reply_to known (Request header request) = request_reply known header request
reply_to known Silent = None
reply_to known (NoMessage fault) = Some (reply_to_fault known.setup.name known.moment fault)
reply_to known (NoJson fault) = Some (reject_event known.setup.name known.moment (details.Json fault))

-- ---- what begins

-- what a till's Abort begins: what waits under the key that it names is taken out, or else what is served is to stop
abbrev pub abort_items : Known → ℕ → Header → Reference → Option Wait → List RoundItem
abort_items known till header reference None = stop_items known till header reference
abort_items known till header reference (Some wait) = Queue wait.pt till header (requests.Abort reference) ∷ []

-- what a request of a till begins, or that it waits, at the terminal that its POIID names; an Abort is about that of the key that it names
abbrev pub begun_at : Option NamedTerminal → Known → ℕ → Header → SaleRequest → List RoundItem
begun_at named known till header requests.Login = session_items known till header requests.Login named
begun_at named known till header requests.Logout = session_items known till header requests.Logout named
begun_at named known till header (requests.Payment ask) = service_items known till header (requests.Payment ask) named
begun_at named known till header (requests.Reversal ask) = service_items known till header (requests.Reversal ask) named
begun_at named known till header (requests.Abort reference) = abort_items known till header reference (waiting_with (key_of header reference) known.core.waits)
begun_at named known till header (requests.Status reference) = []
begun_at named known till header (requests.Reconciliation period) = service_items known till header (requests.Reconciliation period) named
begun_at named known till header (requests.Display outputs) = display_items till header outputs named
begun_at named known till header (requests.Print qualifier) = []
begun_at named known till header requests.Diagnosis = []

-- what a till's message begins, by what it is read as
abbrev pub begun_by : Known → ℕ → ReadAs → List RoundItem
begun_by known till (Request header request) = begun_at (named_terminal known.core header.poi) known till header request
begun_by known till Silent = []
begun_by known till (NoMessage fault) = []
begun_by known till (NoJson fault) = []
