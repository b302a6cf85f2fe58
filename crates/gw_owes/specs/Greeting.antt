-- What is sent for an APDU of a terminal before the dialogue takes it, and which bytes cut the connection.
use Rattle.std.specs.Prelude.{ℕ, List, [], ◌∷◌, Option, Some, None, Result, Ok, Err}
use Rattle.zvt_apdu.specs.Grammar.{ApduValue}
use Rattle.zvt_msg.specs.declared.fault.PtFault.{PtFault}
use Rattle.zvt_msg.specs.Message.{MessageValue, Ack, Nack, Intermediate, Line, Block, Status, Completion, Abort, Other}
use Rattle.zvt_msg.specs.MessageDecode.{decode_pt_message}
use Rattle.gw_owes.specs.Calls.{Sending, Acknowledge, Refuse, OwedCall, SendPt}
use Rattle.gw_owes.specs.Row.{Known, Row, owing}
use Rattle.gw_owes.specs.Links.{of_linked, cutting}

-- ---- what is sent

-- An Ack or a Nack gets nothing. What a terminal sends on its way to the end of a command is acknowledged, and each other command of its own refused.
abbrev pub greeting : MessageValue → Option Sending
greeting Ack = None
greeting (Nack error_code) = None
greeting (Intermediate intermediate_status) = Some Acknowledge
greeting (Line text) = Some Acknowledge
greeting (Block objects) = Some Acknowledge
greeting (Status fields) = Some Acknowledge
greeting Completion = Some Acknowledge
greeting (Abort result_code) = Some Acknowledge
greeting Other = Some Refuse

-- the terminal is sent this, where there is something to send
abbrev pub sending_calls : ℕ → Option Sending → List OwedCall
sending_calls number None = []
sending_calls number (Some sending) = SendPt number sending ∷ []

-- ---- the rows

-- what a message of a terminal owes first, where it is linked
abbrev pub greeted_row : Known → ℕ → MessageValue → Row
greeted_row known number message = of_linked known number (λ terminal. owing known (sending_calls number (greeting message)))

-- what bytes of a terminal owe that are no message, where it is linked: the cut
abbrev pub outside_row : Known → ℕ → Row
outside_row known number = of_linked known number (λ terminal. cutting known number)

-- by the message that an APDU is; one outside the grammar is none
abbrev pub greet_decoded : Known → ℕ → Result MessageValue PtFault → Row
greet_decoded known number (Ok message) = greeted_row known number message
greet_decoded known number (Err fault) = outside_row known number

-- What an APDU of a terminal owes first. Where this send fails the connection is cut, so that the APDU isn't handled then.
abbrev pub greet_row : Known → ℕ → ApduValue → Row
greet_row known number apdu = greet_decoded known number (decode_pt_message apdu)

-- what bytes that begin an APDU above the limit owe
abbrev pub oversized_row : Known → ℕ → Row
oversized_row known number = outside_row known number
