-- The lines that a message of a terminal prints.
use Rattle.std.specs.Prelude.{ℕ, List, [], ◌∷◌}
use Rattle.zvt_msg.specs.Message.{MessageValue}
use Rattle.zvt_msg.specs.BlockDecode.{decode_block_lines}

-- the lines that the message prints: a line its text, a block its lines, every other message none
abbrev pub printed_lines : MessageValue → List (List ℕ)
printed_lines MessageValue.Ack = []
printed_lines (MessageValue.Nack error_code) = []
printed_lines (MessageValue.Intermediate intermediate_status) = []
printed_lines (MessageValue.Line text) = text ∷ []
printed_lines (MessageValue.Block objects) = decode_block_lines objects
printed_lines (MessageValue.Status fields) = []
printed_lines MessageValue.Completion = []
printed_lines (MessageValue.Abort result_code) = []
printed_lines MessageValue.Other = []
