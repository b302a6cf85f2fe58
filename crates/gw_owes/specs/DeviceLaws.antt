-- Laws of device requests: what a terminal shows or prints on its way goes to the till of what it serves, once, and nothing else is a device request.
use Rattle.std.specs.Prelude.{◌≡◌, ◌≢◌, ◌≤◌, ℕ, zero, suc, ◌+◌, Bool, true, false, ◌||◌, codes, decimal, List, [], ◌∷◌, length, sum_by, Some, Ok}
use Rattle.gw_base.specs.declared.key.Key.{Key}
use Rattle.gw_base.specs.declared.setup.Setup.{Setup}
use Rattle.gw_site.specs.Outside.{Connection}
use Rattle.sale_values.specs.declared.header.Header.{Header}
use Rattle.sale_values.specs.declared.names.Class.TheVariants as classes
use Rattle.sale_values.specs.declared.names.Kind.TheVariants as kinds
use Rattle.zvt_apdu.specs.Grammar.{ApduValue, longest_apdu_data}
use Rattle.zvt_msg.specs.Message.{MessageValue}
use Rattle.zvt_msg.specs.MessageDecode.{decode_pt_message}
use Rattle.zvt_msg.specs.PrintedLines.{printed_lines}
use Rattle.zvt_talk.specs.declared.meaning.Heard.{Heard}
use Rattle.zvt_talk.specs.declared.meaning.Heard.TheVariants as heard
use Rattle.jrn_record.specs.declared.records.Record.{Record}
use Rattle.gw_ledger.specs.Sums.{one_if}
use Rattle.gw_owes.specs.declared.terminal.Service.{Service}
use Rattle.gw_owes.specs.declared.terminal.Standing.TheVariants.{Serving}
use Rattle.gw_owes.specs.declared.terminal.Terminal.{Terminal}
use Rattle.gw_owes.specs.Calls.{OwedCall, SendTill, SendPt, CutTill, CutPt, LinkPt, WriteBody, WriteGate, WriteFirstGate, Sync}
use Rattle.gw_owes.specs.Core.{Core}
use Rattle.gw_owes.specs.DeviceRequests.{greatest_device_number, next_device_number, key_of_service}
use Rattle.gw_owes.specs.Handling.{handle_row}
use Rattle.gw_owes.specs.Items.{RoundItem, Handle}
use Rattle.gw_owes.specs.Links.{LinkEvent, link_row}
use Rattle.gw_owes.specs.PaymentLaws.{MeansServed, is_device_request}
use Rattle.gw_owes.specs.Reply.{ReplyValue, DisplayRequest, PrintRequest}
use Rattle.gw_owes.specs.Row.{Known, Row}
use Rattle.gw_owes.specs.Rows.{row_of}
use Rattle.gw_owes.specs.TerminalLaws.{GoesOnTo}
use Rattle.gw_owes.specs.TerminalRows.{terminal_row}
use Rattle.gw_owes.specs.Terminals.{core_without}
use Rattle.gw_owes.specs.Transcript.{TerminalStep, HandlesItem, ChangesLink, ChangesWaits, StepAt, core_along, known_after, known_before, known_new}

-- ---- what is owed

-- one of these calls sends a till a device request
abbrev pub owes_device_request : List OwedCall → Bool
owes_device_request [] = false
owes_device_request (SendTill till reply ∷ calls) = is_device_request reply || owes_device_request calls
owes_device_request (SendPt number sending ∷ calls) = owes_device_request calls
owes_device_request (CutTill till ∷ calls) = owes_device_request calls
owes_device_request (CutPt number ∷ calls) = owes_device_request calls
owes_device_request (LinkPt number ∷ calls) = owes_device_request calls
owes_device_request (WriteBody slot the_record ∷ calls) = owes_device_request calls
owes_device_request (WriteGate slot the_record ∷ calls) = owes_device_request calls
owes_device_request (WriteFirstGate ∷ calls) = owes_device_request calls
owes_device_request (Sync ∷ calls) = owes_device_request calls

-- the header of a device request of this category: SaleID, POIID and ServiceID are those of what is served, and the DeviceID is its number in decimal
abbrev pub header_to_device : List ℕ → Key → ℕ → Header
header_to_device category key number =
    record { class = classes.Device; category = category; kind = kinds.Request; service = Some key.service; device = Some (decimal number); sale = key.sale; poi = key.poi }

-- ---- exactly one

-- a terminal serves what has this key, a payment, a reversal or an end of day, for this till, which is there, and sends a message that means this
pub record MeansToTill (known : Known) (number : ℕ) (apdu : ApduValue) (meant : Heard) (till : ℕ) (key : Key) : Type 0 where
  pub terminal : Terminal
  pub service : Service
  pub last : ℕ
  pub means : MeansServed known number apdu terminal service last meant
  pub asker_is : terminal.asker ≡ Some till
  pub key_is : key_of_service known.kept service ≡ Some key

-- The till gets this and nothing else is owed; the terminal serves what it served.
pub record GoesToTill (number : ℕ) (service : Service) (last : ℕ) (till : ℕ) (request : ReplyValue) (row : Row) : Type 0 where
  pub goes_on : GoesOnTo number (Serving service last) (SendTill till request ∷ []) row
  pub none_more : row.items ≡ []

-- a message becomes one device request, to the till of what is served, with the key of what is served and the number of those that were owed before: an intermediate status is shown by its code, and a line or a block is printed
pub record BecomesRequest (known : Known) (number : ℕ) (apdu : ApduValue) (till : ℕ) (key : Key) : Type 0 where
  pub status :
      (intermediate_status : ℕ) → (at : MeansToTill known number apdu (heard.Note intermediate_status) till key)
      → GoesToTill number at.service at.last till (DisplayRequest (header_to_device (codes "Display") key known.core.device_requests) intermediate_status) (handle_row known number apdu)
  pub line :
      (at : MeansToTill known number apdu heard.Line till key)
      → GoesToTill number at.service at.last till (PrintRequest (header_to_device (codes "Print") key known.core.device_requests) (printed_lines at.means.message)) (handle_row known number apdu)
  pub block :
      (at : MeansToTill known number apdu heard.Block till key)
      → GoesToTill number at.service at.last till (PrintRequest (header_to_device (codes "Print") key known.core.device_requests) (printed_lines at.means.message)) (handle_row known number apdu)

-- so each message does
abbrev pub EachShownIsRequested : Type 0
EachShownIsRequested = (known : Known) (number : ℕ) (apdu : ApduValue) (till : ℕ) (key : Key) → BecomesRequest known number apdu till key

-- what a message means is an intermediate status, a line or a block
abbrev pub IsForTill : Heard → Type 0
IsForTill (heard.Begun stop) = ⊥
IsForTill (heard.Note intermediate_status) = Unit {0}
IsForTill heard.Line = Unit {0}
IsForTill heard.Block = Unit {0}
IsForTill heard.Seen = ⊥
IsForTill (heard.Approved figures) = ⊥
IsForTill heard.Done = ⊥
IsForTill (heard.Told reported approved result_code) = ⊥
IsForTill (heard.Declined result_code reported) = ⊥
IsForTill heard.Unclear = ⊥
IsForTill heard.Stray = ⊥

-- the item is such a message
pub record IsShownItem (known : Known) (item : RoundItem) : Type 0 where
  pub number : ℕ
  pub apdu : ApduValue
  pub item_is : item ≡ Handle number apdu
  pub meant : Heard
  pub till : ℕ
  pub key : Key
  pub at : MeansToTill known number apdu meant till key
  pub for_till : IsForTill meant

-- no other item owes a device request
abbrev pub OnlyShownIsRequested : Type 0
OnlyShownIsRequested = (tills : List Connection) (known : Known) (item : RoundItem) → owes_device_request (row_of tills known item).calls ≡ true → IsShownItem known item

-- and no event of a link does
abbrev pub NoLinkRequests : Type 0
NoLinkRequests = (known : Known) (number : ℕ) (event : LinkEvent) → owes_device_request (link_row known number event).calls ≡ false

-- ---- the number of the next one

-- it is one more where one was owed, and 0 after the greatest, which is 9,999,999,999; else it stays
pub record CountsRequest (before after : ℕ) (owed : Bool) : Type 0 where
  pub one_more_is : owed ≡ true → before ≢ greatest_device_number → after ≡ before + 1
  pub begins_anew : owed ≡ true → before ≡ greatest_device_number → after ≡ 0
  pub stays : owed ≡ false → after ≡ before

-- so each item counts
abbrev pub EachRequestCounts : Type 0
EachRequestCounts =
    (tills : List Connection) (known : Known) (item : RoundItem)
    → CountsRequest known.core.device_requests (row_of tills known item).core.device_requests (owes_device_request (row_of tills known item).calls)

-- an event of a link leaves the number as it is
abbrev pub EachLinkLeavesNumber : Type 0
EachLinkLeavesNumber = (known : Known) (number : ℕ) (event : LinkEvent) → (link_row known number event).core.device_requests ≡ known.core.device_requests

-- a till that is gone leaves it too
abbrev pub EachTillGoneLeavesNumber : Type 0
EachTillGoneLeavesNumber = (core : Core) (till : ℕ) → (core_without core till).device_requests ≡ core.device_requests

-- ---- along a run

-- a step owes a device request
abbrev pub requests_in_step : Known → TerminalStep → Bool
requests_in_step known (HandlesItem item) = owes_device_request (terminal_row known item).calls
requests_in_step known (ChangesLink number event) = false
requests_in_step known (ChangesWaits waits) = false

-- how many are owed in these steps
abbrev pub requests_along : Known → List StepAt → ℕ
requests_along known [] = 0
requests_along known (first ∷ rest) = one_if (requests_in_step (known_before known first) first.step) + requests_along (known_after known first) rest

-- the number of the next one after so many more, of which each has the next number
abbrev pub number_after : ℕ → ℕ → ℕ
number_after zero number = number
number_after (suc more) number = number_after more (next_device_number number)

-- after every list of steps from where a run begins the number is that of those that were owed in them, as long as they aren't more than the greatest, and else it goes on from 0
pub record CountsAlong (number owed : ℕ) : Type 0 where
  pub after : number ≡ number_after owed 0
  pub few : owed ≤ greatest_device_number → number ≡ owed

-- so each run counts
abbrev pub EachRunCounts : Type 0
EachRunCounts =
    (setup : Setup) (kept : List Record) (steps : List StepAt)
    → CountsAlong (core_along (known_new setup kept) steps).device_requests (requests_along (known_new setup kept) steps)

-- ---- its lines

-- the lines are at most 400, and have at most 12,000 bytes together
pub record ArePrintedWithin (lines : List (List ℕ)) : Type 0 where
  pub count : length lines ≤ 400
  pub size : sum_by (λ (line : List ℕ). length line) lines ≤ 12000

-- so are the lines that a message of a terminal prints
abbrev pub PrintedIsWithin : Type 0
PrintedIsWithin = (apdu : ApduValue) (message : MessageValue) → length apdu.body ≤ longest_apdu_data → decode_pt_message apdu ≡ Ok message → ArePrintedWithin (printed_lines message)
