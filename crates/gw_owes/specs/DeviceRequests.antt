-- Device requests: what a terminal shows or prints on its way is shown or printed at the till of what it serves.
use Rattle.std.specs.Prelude.{ℕ, ◌+◌, ◌==◌, codes, decimal, if◌then◌else◌, List, [], ◌∷◌, Option, Some, None, option_map, option_and_then}
use Rattle.gw_base.specs.declared.key.Key.{Key}
use Rattle.sale_values.specs.declared.header.Header.{Header}
use Rattle.sale_values.specs.declared.names.Class.TheVariants as classes
use Rattle.sale_values.specs.declared.names.Kind.TheVariants as kinds
use Rattle.zvt_msg.specs.Message.{MessageValue}
use Rattle.zvt_msg.specs.PrintedLines.{printed_lines}
use Rattle.zvt_talk.specs.declared.meaning.Heard.{Heard}
use Rattle.zvt_talk.specs.declared.meaning.Heard.TheVariants as heard
use Rattle.jrn_record.specs.declared.records.Record.{Record}
use Rattle.gw_ledger.specs.Keys.{intent_key}
use Rattle.gw_ledger.specs.Slots.{intent_at}
use Rattle.gw_owes.specs.declared.terminal.Service.{Service}
use Rattle.gw_owes.specs.declared.terminal.Service.TheVariants.{Transaction, EndOfDay, Display}
use Rattle.gw_owes.specs.declared.terminal.Standing.{Standing}
use Rattle.gw_owes.specs.declared.terminal.Standing.TheVariants.{Unlinked, Registering, Enquiring, Ready, Serving, Aside}
use Rattle.gw_owes.specs.declared.terminal.Terminal.{Terminal}
use Rattle.gw_owes.specs.Calls.{SendTill}
use Rattle.gw_owes.specs.Core.{Core}
use Rattle.gw_owes.specs.KeptReplies.{own_key}
use Rattle.gw_owes.specs.Reply.{ReplyValue, DisplayRequest, PrintRequest}
use Rattle.gw_owes.specs.Row.{Known, Row, becoming}
use Rattle.gw_owes.specs.Terminals.{with_terminal}

-- ---- its number

-- the greatest number of a device request, of ten digits
abbrev pub greatest_device_number : ℕ
greatest_device_number = 9999999999

-- the number of the next device request: after the greatest comes 0
abbrev pub next_device_number : ℕ → ℕ
next_device_number number = if number == greatest_device_number then 0 else number + 1

-- ---- whose it is

-- the key of what is served; a display shows its till nothing
abbrev pub key_of_service : List Record → Service → Option Key
key_of_service kept (Transaction slot) = option_map intent_key (intent_at kept slot)
key_of_service kept (EndOfDay header period) = own_key header
key_of_service kept (Display header results) = None

-- the key of what a terminal of this standing serves
abbrev pub key_served : List Record → Standing → Option Key
key_served kept (Unlinked due) = None
key_served kept Registering = None
key_served kept Enquiring = None
key_served kept (Ready last) = None
key_served kept (Serving service last) = key_of_service kept service
key_served kept (Aside before reported) = None

-- ---- the request

-- the header of a device request of this category and number, for what has this key
abbrev pub device_header : List ℕ → Key → ℕ → Header
device_header category key number = record {
  class = classes.Device;
  category = category;
  kind = kinds.Request;
  service = Some key.service;
  device = Some (decimal number);
  sale = key.sale;
  poi = key.poi;
}

-- what is shown or printed by what a message means: an intermediate status is shown by its code, and a line or a block is printed
abbrev pub device_request_of : Heard → MessageValue → ℕ → Key → Option ReplyValue
device_request_of (heard.Begun stop) message number key = None
device_request_of (heard.Note intermediate_status) message number key = Some (DisplayRequest (device_header (codes "Display") key number) intermediate_status)
device_request_of heard.Line message number key = Some (PrintRequest (device_header (codes "Print") key number) (printed_lines message))
device_request_of heard.Block message number key = Some (PrintRequest (device_header (codes "Print") key number) (printed_lines message))
device_request_of heard.Seen message number key = None
device_request_of (heard.Approved figures) message number key = None
device_request_of heard.Done message number key = None
device_request_of (heard.Told reported approved result_code) message number key = None
device_request_of (heard.Declined result_code reported) message number key = None
device_request_of heard.Unclear message number key = None
device_request_of heard.Stray message number key = None

-- ---- the row

-- what is remembered once a device request is owed: the next one has the next number
abbrev pub with_device_request : Core → Core
with_device_request core = record core { device_requests = next_device_number core.device_requests }

-- the till is sent the device request; the terminal stays as it has become
abbrev pub requests_device : Known → ℕ → Terminal → ℕ → ReplyValue → Row
requests_device known number terminal till request =
    becoming (with_device_request (with_terminal known.core number terminal)) (SendTill till request ∷ [])

-- the device request that a message of a terminal of this standing becomes
abbrev pub device_request_in : Known → Standing → Heard → MessageValue → Option ReplyValue
device_request_in known standing meant message =
    option_and_then (device_request_of meant message known.core.device_requests) (key_served known.kept standing)

-- what is owed where a message becomes a device request: where the till of what is served is there, and what the message means is shown or printed
abbrev pub device_row : Known → ℕ → Terminal → Heard → MessageValue → Option Row
device_row known number terminal meant message =
    option_and_then (λ till. option_map (requests_device known number terminal till) (device_request_in known terminal.standing meant message)) terminal.asker
