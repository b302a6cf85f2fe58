-- The canonical spelling of a message of a terminal: the one that is written.
use Rattle.std.specs.Prelude.{◌≡◌, ℕ, List, [], ◌∷◌, length, Option, None, Some, IfSome}
use Rattle.zvt_apdu.specs.Grammar.{canonical_apdu}
use Rattle.zvt_tlv.specs.Grammar.{canonical_tlv_object}
use Rattle.zvt_bmp.specs.Canonical.{HasFieldDigits, canonical_status}
use Rattle.zvt_msg.specs.BlockGrammar.{container_tag, AreWholeObjects}
use Rattle.zvt_msg.specs.Message.{MessageValue}

-- a byte, if there is one
abbrev pub canonical_abort_code : Option ℕ → List ℕ
canonical_abort_code None = []
canonical_abort_code (Some result_code) = result_code ∷ []

-- the bytes of the message's APDU; another has none
abbrev pub canonical_pt_message : MessageValue → List ℕ
canonical_pt_message MessageValue.Ack = canonical_apdu 0x80 0x00 []
canonical_pt_message (MessageValue.Nack error_code) = canonical_apdu 0x84 error_code []
canonical_pt_message (MessageValue.Intermediate intermediate_status) = canonical_apdu 0x04 0xFF (intermediate_status ∷ [])
canonical_pt_message (MessageValue.Line text) = canonical_apdu 0x06 0xD1 (0x00 ∷ text)
canonical_pt_message (MessageValue.Block objects) = canonical_apdu 0x06 0xD3 (canonical_tlv_object container_tag objects)
canonical_pt_message (MessageValue.Status fields) = canonical_apdu 0x04 0x0F (canonical_status fields)
canonical_pt_message MessageValue.Completion = canonical_apdu 0x06 0x0F []
canonical_pt_message (MessageValue.Abort result_code) = canonical_apdu 0x06 0x1E (canonical_abort_code result_code)
canonical_pt_message MessageValue.Other = []

-- the message has a spelling: a block's objects are whole, and a status's numbers have at most their fields' digits
abbrev pub HasPtMessageForm : MessageValue → Type 0
HasPtMessageForm MessageValue.Ack = Unit {0}
HasPtMessageForm (MessageValue.Nack error_code) = Unit {0}
HasPtMessageForm (MessageValue.Intermediate intermediate_status) = Unit {0}
HasPtMessageForm (MessageValue.Line text) = Unit {0}
HasPtMessageForm (MessageValue.Block objects) = AreWholeObjects objects
HasPtMessageForm (MessageValue.Status fields) = HasFieldDigits fields
HasPtMessageForm MessageValue.Completion = Unit {0}
HasPtMessageForm (MessageValue.Abort result_code) = Unit {0}
HasPtMessageForm MessageValue.Other = ⊥

-- what the types of the parts say: a currency has two bytes
abbrev pub HasPtMessageSizes : MessageValue → Type 0
HasPtMessageSizes MessageValue.Ack = Unit {0}
HasPtMessageSizes (MessageValue.Nack error_code) = Unit {0}
HasPtMessageSizes (MessageValue.Intermediate intermediate_status) = Unit {0}
HasPtMessageSizes (MessageValue.Line text) = Unit {0}
HasPtMessageSizes (MessageValue.Block objects) = Unit {0}
HasPtMessageSizes (MessageValue.Status fields) = IfSome fields.currency (λ currency. length currency ≡ 2)
HasPtMessageSizes MessageValue.Completion = Unit {0}
HasPtMessageSizes (MessageValue.Abort result_code) = Unit {0}
HasPtMessageSizes MessageValue.Other = Unit {0}

-- the message that is read of what was written: a status has the written length as the offset of its tail
abbrev pub pt_message_read_again : MessageValue → MessageValue
pt_message_read_again MessageValue.Ack = MessageValue.Ack
pt_message_read_again (MessageValue.Nack error_code) = MessageValue.Nack error_code
pt_message_read_again (MessageValue.Intermediate intermediate_status) = MessageValue.Intermediate intermediate_status
pt_message_read_again (MessageValue.Line text) = MessageValue.Line text
pt_message_read_again (MessageValue.Block objects) = MessageValue.Block objects
pt_message_read_again (MessageValue.Status fields) = MessageValue.Status (record fields { tail = length (canonical_status fields) })
pt_message_read_again MessageValue.Completion = MessageValue.Completion
pt_message_read_again (MessageValue.Abort result_code) = MessageValue.Abort result_code
pt_message_read_again MessageValue.Other = MessageValue.Other
