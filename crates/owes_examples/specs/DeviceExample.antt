-- Closed examples of device requests: what a terminal sends on its way, and what the till of what it serves then gets.
use Rattle.std.specs.Prelude.{◌≡◌, ◌≤◌, ℕ, List, [], ◌∷◌, ◌++◌, length, Some, codes}
use Rattle.sale_values.specs.declared.names.Class.TheVariants as classes
use Rattle.sale_values.specs.declared.names.Kind.TheVariants as kinds
use Rattle.sale_values.specs.declared.names.Period.TheVariants.{AcquirerReconciliation}
use Rattle.sale_values.specs.declared.header.Header.{Header}
use Rattle.zvt_apdu.specs.Grammar.{ApduValue, longest_apdu_data}
use Rattle.zvt_talk.specs.declared.meaning.Heard.TheVariants as heard
use Rattle.gw_owes.specs.declared.terminal.Service.TheVariants.{Transaction, EndOfDay}
use Rattle.gw_owes.specs.declared.terminal.Standing.TheVariants.{Ready, Serving, Enquiring}
use Rattle.gw_owes.specs.Calls.{OwedCall, SendTill}
use Rattle.gw_owes.specs.DeviceLaws.{MeansToTill, number_after, requests_along}
use Rattle.gw_owes.specs.Items.{Gone}
use Rattle.gw_owes.specs.Links.{LinkIsLost}
use Rattle.gw_owes.specs.PaymentExample.{Since, ComesTo, acknowledged_once, begun_calls, enquired_calls, since_begun, since_enquired, since_item, since_lost, since_ready, since_sent}
use Rattle.owes_examples.specs.PaymentExample.{day_begun_calls, header_of_day, since_day_begun}
use Rattle.owes_examples.specs.ReversalExample.{since_reversing, reversing_calls}
use Rattle.gw_owes.specs.Reply.{ReplyValue, DisplayRequest, PrintRequest}
use Rattle.gw_owes.specs.TerminalExample.{ack, status_0A}
use Rattle.gw_owes.specs.Transcript.{ChangesLink, StepAt}
use Rattle.gw_owes.specs.TranscriptExample.{acknowledges, begins_day_at, core_after_steps, notes, one_known, steps_to_day_done, steps_to_ready}

-- ---- what a terminal sends

-- the line `Hi`
abbrev pub line_hi : List ℕ
line_hi = 0x06 ∷ 0xD1 ∷ 0x03 ∷ 0x00 ∷ 0x48 ∷ 0x69 ∷ []

-- its APDU
abbrev pub apdu_of_line : ApduValue
apdu_of_line = record { class = 0x06; instr = 0xD1; body = 0x00 ∷ 0x48 ∷ 0x69 ∷ [] }

-- the block of the lines `Hi` and `A`
abbrev pub block_of_two : List ℕ
block_of_two = 0x06 ∷ 0xD3 ∷ 0x0B ∷ 0x06 ∷ 0x09 ∷ 0x25 ∷ 0x07 ∷ 0x07 ∷ 0x02 ∷ 0x48 ∷ 0x69 ∷ 0x07 ∷ 0x01 ∷ 0x41 ∷ []

-- ---- what the till gets

-- the header of a device request of this category for what till `S1` asks of `T1` under this ServiceID, with this DeviceID
abbrev pub request_header : List ℕ → List ℕ → List ℕ → Header
request_header category service device =
    record { class = classes.Device; category = category; kind = kinds.Request; service = Some service; device = Some device; sale = codes "S1"; poi = codes "T1" }

-- it shows the intermediate status 0A
abbrev pub shows_status : List ℕ → List ℕ → ReplyValue
shows_status service device = DisplayRequest (request_header (codes "Display") service device) 0x0A

-- it prints these lines
abbrev pub prints_lines : List ℕ → List ℕ → List (List ℕ) → ReplyValue
prints_lines service device lines = PrintRequest (request_header (codes "Print") service device) lines

-- a message of the terminal is acknowledged, and then till 1 gets this
abbrev pub acknowledged_then : ReplyValue → List OwedCall
acknowledged_then request = acknowledged_once ++ SendTill 1 request ∷ []

-- so many device requests were owed in the run
abbrev pub with_requests : ℕ → Since → Since
with_requests number since = record since { known = record since.known { core = record since.known.core { device_requests = number } } }

-- the terminal has acknowledged the payment, and shows a status, and prints a line and a block
abbrev pub since_all_shown : Since
since_all_shown = since_sent block_of_two (since_sent line_hi (since_sent status_0A (since_sent ack (since_begun 0))))

-- what is owed for it
abbrev pub all_shown_calls : List OwedCall
all_shown_calls =
    begun_calls 0 ++ acknowledged_then (shows_status (codes "1") (codes "0")) ++ acknowledged_then (prints_lines (codes "1") (codes "1") (codes "Hi" ∷ []))
    ++ acknowledged_then (prints_lines (codes "1") (codes "2") (codes "Hi" ∷ codes "A" ∷ []))

-- a payment, a reversal and an end of day each show their till what the terminal does, with the numbers of the requests: after the greatest comes 0
pub record ExampleDeviceRequests : Type 0 where
  pub payment : ComesTo since_all_shown all_shown_calls (Serving (Transaction 0) 0)
  pub reversal : ComesTo (since_sent status_0A (since_sent ack since_reversing)) (reversing_calls ++ acknowledged_then (shows_status (codes "2") (codes "0"))) (Serving (Transaction 2) 123)
  pub day : ComesTo (since_sent line_hi (since_sent ack since_day_begun)) (day_begun_calls ++ acknowledged_then (prints_lines (codes "1") (codes "0") (codes "Hi" ∷ []))) (Serving (EndOfDay header_of_day AcquirerReconciliation) 122)
  pub greatest :
      ComesTo (since_sent line_hi (since_sent status_0A (with_requests 9999999999 (since_sent ack (since_begun 0)))))
      (begun_calls 0 ++ acknowledged_then (shows_status (codes "1") (codes "9999999999")) ++ acknowledged_then (prints_lines (codes "1") (codes "0") (codes "Hi" ∷ []))) (Serving (Transaction 0) 0)
  pub next : since_all_shown.known.core.device_requests ≡ 3
  pub premise : MeansToTill (since_sent ack (since_begun 0)).known 0 apdu_of_line heard.Line 1 (record { sale = codes "S1"; poi = codes "T1"; service = codes "1" })
  pub within : length apdu_of_line.body ≤ longest_apdu_data

-- the terminal shows a status in an end of day, and two in the next one
abbrev pub steps_to_shown : List StepAt
steps_to_shown = steps_to_day_done ++ begins_day_at 10 (codes "2") ∷ acknowledges 11 ∷ notes 12 ∷ notes 13 ∷ []

-- along a run the numbers go on, and a lost link leaves them; after the greatest comes 0
pub record ExampleAlongRun : Type 0 where
  pub owed : requests_along one_known steps_to_shown ≡ 3
  pub number : (core_after_steps steps_to_shown).device_requests ≡ 3
  pub lost : (core_after_steps (steps_to_day_done ++ record { moment = 10; step = ChangesLink 0 LinkIsLost } ∷ [])).device_requests ≡ 1
  pub none : requests_along one_known steps_to_ready ≡ 0
  pub around : number_after 3 9999999998 ≡ 1

-- what a terminal shows where no payment, reversal or end of day of a till is served, or where the till is gone, goes to none, and the number stays
pub record ExampleNoRequests : Type 0 where
  pub gone : ComesTo (since_sent status_0A (since_item (since_sent ack (since_begun 0)) (Gone 1))) (begun_calls 0 ++ acknowledged_once) (Serving (Transaction 0) 0)
  pub ready : ComesTo (since_sent status_0A (since_ready 0)) acknowledged_once (Ready 0)
  pub enquired : ComesTo (since_sent line_hi (since_enquired (since_lost 0))) (enquired_calls 0 ++ acknowledged_once) Enquiring
  pub number : (since_sent status_0A (since_ready 0)).known.core.device_requests ≡ 0
