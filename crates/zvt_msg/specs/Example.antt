-- Closed examples: a status with the greatest numbers that its fields hold, and blocks of one line and of two.
use Rattle.std.specs.Prelude.{◌≡◌, ◌≤◌, List, ℕ, [], ◌∷◌, length, Ok}
use Rattle.zvt_apdu.specs.Grammar.{ApduValue, longest_apdu_data}
use Rattle.zvt_bmp.specs.Example.{greatest_data, greatest_fields}
use Rattle.zvt_msg.specs.Message.{MessageValue}
use Rattle.zvt_msg.specs.MessageDecode.{decode_pt_message}
use Rattle.zvt_msg.specs.PrintedLines.{printed_lines}

-- an APDU with a status of these fields
abbrev pub greatest_status_apdu : ApduValue
greatest_status_apdu = record { class = 0x04; instr = 0x0F; body = greatest_data }

-- the objects of a block whose one text has the line "Hi"
abbrev pub one_line_objects : List ℕ
one_line_objects = 0x25 ∷ 0x04 ∷ 0x07 ∷ 0x02 ∷ 0x48 ∷ 0x69 ∷ []

-- an APDU with this block
abbrev pub one_line_apdu : ApduValue
one_line_apdu = record { class = 0x06; instr = 0xD3; body = 0x06 ∷ 0x06 ∷ one_line_objects }

-- the objects of a block whose one text has the lines "Hi" and "A"
abbrev pub two_line_objects : List ℕ
two_line_objects = 0x25 ∷ 0x07 ∷ 0x07 ∷ 0x02 ∷ 0x48 ∷ 0x69 ∷ 0x07 ∷ 0x01 ∷ 0x41 ∷ []

-- an APDU with this block
abbrev pub two_line_apdu : ApduValue
two_line_apdu = record { class = 0x06; instr = 0xD3; body = 0x06 ∷ 0x09 ∷ two_line_objects }

-- all are read, and the last, whose data are no longer than this profile takes, prints its two lines
pub record ExampleRead : Type 0 where
  pub status : decode_pt_message greatest_status_apdu ≡ Ok (MessageValue.Status greatest_fields)
  pub block : decode_pt_message one_line_apdu ≡ Ok (MessageValue.Block one_line_objects)
  pub two_lines : decode_pt_message two_line_apdu ≡ Ok (MessageValue.Block two_line_objects)
  pub within : length two_line_apdu.body ≤ longest_apdu_data
  pub printed : printed_lines (MessageValue.Block two_line_objects) ≡ (0x48 ∷ 0x69 ∷ []) ∷ (0x41 ∷ []) ∷ []
