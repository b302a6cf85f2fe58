-- The numbers of a message that was read.
use Rattle.zvt_bmp.specs.Canonical.{HasFieldDigits}
use Rattle.zvt_msg.specs.Message.{MessageValue}

-- each number of a status has at most as many digits as its field, so that it can be written again
abbrev pub NumbersFitFields : MessageValue → Type 0
NumbersFitFields MessageValue.Ack = Unit {0}
NumbersFitFields (MessageValue.Nack error_code) = Unit {0}
NumbersFitFields (MessageValue.Intermediate intermediate_status) = Unit {0}
NumbersFitFields (MessageValue.Line text) = Unit {0}
NumbersFitFields (MessageValue.Block objects) = Unit {0}
NumbersFitFields (MessageValue.Status fields) = HasFieldDigits fields
NumbersFitFields MessageValue.Completion = Unit {0}
NumbersFitFields (MessageValue.Abort result_code) = Unit {0}
NumbersFitFields MessageValue.Other = Unit {0}
