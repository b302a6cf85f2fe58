-- The APDUs that spell a message of a terminal, and those that are faulty (this profile's table of ZVT's commands of a terminal).
use Rattle.std.specs.Prelude.{◌≡◌, ℕ, ◌⊎◌, List, [], ◌∷◌, Option, None, Some, Result, Ok, Err}
use Rattle.zvt_apdu.specs.Grammar.{ApduValue}
use Rattle.zvt_bmp.specs.Grammar.{SpellsStatus, IsFirstStatusFault}
use Rattle.zvt_msg.specs.declared.fault.PtFault.{PtFault}
use Rattle.zvt_msg.specs.declared.fault.PtFault.TheVariants.{Field, Tlv}
use Rattle.zvt_msg.specs.Message.{MessageValue}
use Rattle.zvt_msg.specs.BlockGrammar.{SpellsBlock, IsBlockFault}

-- the control fields that are known: a class and an instruction, named after the message
pub data ControlField : Type 0 where
  Ack : ControlField
  Nack : ControlField
  Intermediate : ControlField
  Line : ControlField
  Block : ControlField
  Status : ControlField
  Completion : ControlField
  Abort : ControlField

-- the APDU's class and instruction
abbrev pub HasClassAndInstruction : ApduValue → ℕ → ℕ → Type 0
HasClassAndInstruction apdu class instr = (apdu.class ≡ class) × (apdu.instr ≡ instr)

-- the class and instruction of each; a negative acknowledgement has its code for an instruction
abbrev pub HasControlField : ApduValue → ControlField → Type 0
HasControlField apdu ControlField.Ack = HasClassAndInstruction apdu 0x80 0x00
HasControlField apdu ControlField.Nack = apdu.class ≡ 0x84
HasControlField apdu ControlField.Intermediate = HasClassAndInstruction apdu 0x04 0xFF
HasControlField apdu ControlField.Line = HasClassAndInstruction apdu 0x06 0xD1
HasControlField apdu ControlField.Block = HasClassAndInstruction apdu 0x06 0xD3
HasControlField apdu ControlField.Status = HasClassAndInstruction apdu 0x04 0x0F
HasControlField apdu ControlField.Completion = HasClassAndInstruction apdu 0x06 0x0F
HasControlField apdu ControlField.Abort = HasClassAndInstruction apdu 0x06 0x1E

-- the first byte of the data, if there is one
abbrev pub IsFirstByte : List ℕ → Option ℕ → Type 0
IsFirstByte apdu_data None = apdu_data ≡ []
IsFirstByte apdu_data (Some byte) = (more : List ℕ) × (apdu_data ≡ byte ∷ more)

-- the first byte of the data, or 0 where there is none
abbrev pub IsFirstByteOrZero : List ℕ → ℕ → Type 0
IsFirstByteOrZero apdu_data result_code = IsFirstByte apdu_data (Some result_code) ⊎ (IsFirstByte apdu_data None × (result_code ≡ 0))

-- all after the first byte of the data
abbrev pub IsLineText : List ℕ → List ℕ → Type 0
IsLineText apdu_data text = ((attribute : ℕ) × (apdu_data ≡ attribute ∷ text)) ⊎ ((apdu_data ≡ []) × (text ≡ []))

-- the APDU spells this message: that of its control field with what its data carry, or another where it has none of them
abbrev pub SpellsPtMessage : ApduValue → MessageValue → Type 0
SpellsPtMessage apdu MessageValue.Ack = HasControlField apdu ControlField.Ack
SpellsPtMessage apdu (MessageValue.Nack error_code) = HasControlField apdu ControlField.Nack × (apdu.instr ≡ error_code)
SpellsPtMessage apdu (MessageValue.Intermediate intermediate_status) = HasControlField apdu ControlField.Intermediate × IsFirstByteOrZero apdu.body intermediate_status
SpellsPtMessage apdu (MessageValue.Line text) = HasControlField apdu ControlField.Line × IsLineText apdu.body text
SpellsPtMessage apdu (MessageValue.Block objects) = HasControlField apdu ControlField.Block × SpellsBlock apdu.body objects
SpellsPtMessage apdu (MessageValue.Status fields) = HasControlField apdu ControlField.Status × SpellsStatus apdu.body fields
SpellsPtMessage apdu MessageValue.Completion = HasControlField apdu ControlField.Completion
SpellsPtMessage apdu (MessageValue.Abort result_code) = HasControlField apdu ControlField.Abort × IsFirstByte apdu.body result_code
SpellsPtMessage apdu MessageValue.Other = (field : ControlField) → ¬ HasControlField apdu field

-- the fault of an APDU that spells no message: a status of faulty fields, or a block that is none
abbrev pub HasPtFault : ApduValue → PtFault → Type 0
HasPtFault apdu (Field fault) = HasControlField apdu ControlField.Status × IsFirstStatusFault apdu.body fault
HasPtFault apdu (Tlv fault) = HasControlField apdu ControlField.Block × IsBlockFault apdu.body fault.at

-- the APDU spells this message, or has this fault
abbrev pub SpellsPtMessageOrFault : ApduValue → Result MessageValue PtFault → Type 0
SpellsPtMessageOrFault apdu (Ok message) = SpellsPtMessage apdu message
SpellsPtMessageOrFault apdu (Err fault) = HasPtFault apdu fault
