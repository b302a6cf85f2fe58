-- The result of reading an APDU of a terminal, as plain data.
use Rattle.std.specs.Prelude.{◌≡◌, Result, Ok, Err}
use Rattle.zvt_msg.specs.declared.fault.PtFault.{PtFault}
use Rattle.zvt_msg.specs.declared.message.PtMessage.{PtMessage}
use Rattle.zvt_msg.specs.Message.{MessageValue, value_of}

-- the result is this message
abbrev pub IsPtMessage : Result PtMessage PtFault → MessageValue → Type 0
IsPtMessage (Ok found) message = value_of found ≡ message
IsPtMessage (Err fault) message = ⊥

-- the result, by the function that decodes the APDU
abbrev pub ReturnsPtMessage : Result PtMessage PtFault → Result MessageValue PtFault → Type 0
ReturnsPtMessage (Ok found) decoded = decoded ≡ Ok (value_of found)
ReturnsPtMessage (Err fault) decoded = decoded ≡ Err fault
