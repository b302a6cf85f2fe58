-- A message of a terminal without where its bytes lie in memory.
use Rattle.std.specs.Prelude.{ℕ, List, Option}
use Rattle.zvt_bmp.specs.declared.fields.Fields.{Fields}
use Rattle.zvt_msg.specs.declared.message.PtMessage.{PtMessage}
use Rattle.zvt_msg.specs.declared.message.PtMessage.TheVariants as message

-- the objects of a block are the bytes of them all
pub data MessageValue : Type 0 where
  Ack : MessageValue
  Nack : (error_code : ℕ) → MessageValue
  Intermediate : (intermediate_status : ℕ) → MessageValue
  Line : (text : List ℕ) → MessageValue
  Block : (objects : List ℕ) → MessageValue
  Status : (fields : Fields) → MessageValue
  Completion : MessageValue
  Abort : (result_code : Option ℕ) → MessageValue
  Other : MessageValue

-- the message as plain data
abbrev pub value_of : PtMessage → MessageValue
value_of message.Ack = Ack
value_of (message.Nack error_code) = Nack error_code
value_of (message.Intermediate intermediate_status) = Intermediate intermediate_status
value_of (message.Line text) = Line text.now
value_of (message.Block objects) = Block objects.now
value_of (message.Status fields) = Status fields
value_of message.Completion = Completion
value_of (message.Abort result_code) = Abort result_code
value_of message.Other = Other
