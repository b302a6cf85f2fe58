-- The message that an APDU of a terminal spells, as a function that computes it.
use Rattle.std.specs.Prelude.{ℕ, List, [], ◌∷◌, Option, None, Some, unwrap_or, Result, Ok, Err, ◌==◌, if◌then◌else◌}
use Rattle.zvt_apdu.specs.Grammar.{ApduValue}
use Rattle.zvt_tlv.specs.declared.fault.TlvFault.{TlvFault}
use Rattle.zvt_bmp.specs.declared.fields.Fields.{Fields}
use Rattle.zvt_bmp.specs.declared.fields.FieldFault.{FieldFault}
use Rattle.zvt_bmp.specs.Decode.{decode_status}
use Rattle.zvt_msg.specs.declared.fault.PtFault.{PtFault}
use Rattle.zvt_msg.specs.declared.fault.PtFault.TheVariants.{Field, Tlv}
use Rattle.zvt_msg.specs.Message.{MessageValue}
use Rattle.zvt_msg.specs.MessageGrammar.{ControlField}
use Rattle.zvt_msg.specs.BlockDecode.{decode_block}

-- the control field with this class and instruction
abbrev pub control_field_of : ℕ → ℕ → Option ControlField
control_field_of class instr =
    if class == 0x80 then (if instr == 0x00 then Some ControlField.Ack else None)
    else if class == 0x84 then Some ControlField.Nack
    else if class == 0x04 then (if instr == 0xFF then Some ControlField.Intermediate else if instr == 0x0F then Some ControlField.Status else None)
    else if class == 0x06 then (
    if instr == 0xD1 then Some ControlField.Line
    else if instr == 0xD3 then Some ControlField.Block
    else if instr == 0x0F then Some ControlField.Completion
    else if instr == 0x1E then Some ControlField.Abort
    else None
    )
    else None

-- the first byte
abbrev pub first_byte_of : List ℕ → Option ℕ
first_byte_of [] = None
first_byte_of (byte ∷ bytes) = Some byte

-- all after the first byte
abbrev pub after_first_byte : List ℕ → List ℕ
after_first_byte [] = []
after_first_byte (byte ∷ bytes) = bytes

-- a status of the fields that were read, or their fault
abbrev pub status_or_fault : Result Fields FieldFault → Result MessageValue PtFault
status_or_fault (Ok fields) = Ok (MessageValue.Status fields)
status_or_fault (Err fault) = Err (Field fault)

-- a block of the objects that were read, or their fault
abbrev pub block_or_fault : Result (List ℕ) TlvFault → Result MessageValue PtFault
block_or_fault (Ok objects) = Ok (MessageValue.Block objects)
block_or_fault (Err fault) = Err (Tlv fault)

-- the message of an APDU with this control field, or its fault
abbrev pub decode_pt_message_by : Option ControlField → ApduValue → Result MessageValue PtFault
decode_pt_message_by None apdu = Ok MessageValue.Other
decode_pt_message_by (Some ControlField.Ack) apdu = Ok MessageValue.Ack
decode_pt_message_by (Some ControlField.Nack) apdu = Ok (MessageValue.Nack apdu.instr)
decode_pt_message_by (Some ControlField.Intermediate) apdu = Ok (MessageValue.Intermediate (unwrap_or (first_byte_of apdu.body) 0))
decode_pt_message_by (Some ControlField.Line) apdu = Ok (MessageValue.Line (after_first_byte apdu.body))
decode_pt_message_by (Some ControlField.Block) apdu = block_or_fault (decode_block apdu.body)
decode_pt_message_by (Some ControlField.Status) apdu = status_or_fault (decode_status apdu.body)
decode_pt_message_by (Some ControlField.Completion) apdu = Ok MessageValue.Completion
decode_pt_message_by (Some ControlField.Abort) apdu = Ok (MessageValue.Abort (first_byte_of apdu.body))

-- the message that an APDU of a terminal spells, or its fault
unfoldable pub decode_pt_message : ApduValue → Result MessageValue PtFault
decode_pt_message apdu = decode_pt_message_by (control_field_of apdu.class apdu.instr) apdu
