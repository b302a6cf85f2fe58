-- The canonical spelling of a command: the one that is written.
use Rattle.std.specs.Prelude.{ℕ, ◌+◌, ◌/◌, ◌%◌, List, [], ◌∷◌, ◌++◌}
use Rattle.arrayvec.specs.ArrayVec.{ArrayVec, array_vec_len}
use Rattle.gw_base.specs.Bcd.{bcd_of}
use Rattle.zvt_apdu.specs.Grammar.{ApduValue, canonical_apdu}
use Rattle.zvt_msg.specs.declared.command.Command.{Command}
use Rattle.zvt_msg.specs.declared.command.Command.TheVariants.{Register, Authorise, Enquire, Reverse, EndOfDay, Stop, Show}

-- a length below 100, a digit in each of two bytes
abbrev pub canonical_llvar : ℕ → List ℕ
canonical_llvar n = (0xF0 + n / 10) ∷ (0xF0 + n % 10) ∷ []

-- lines of a display, numbered on from this one
abbrev pub canonical_display_lines : ℕ → List (ArrayVec ℕ) → List ℕ
canonical_display_lines number [] = []
canonical_display_lines number (line ∷ lines) = number ∷ (canonical_llvar (array_vec_len line) ++ (line.items ++ canonical_display_lines (number + 1) lines))

-- the instruction of a command; the class is 06
abbrev pub instruction_of : Command → ℕ
instruction_of (Register password config currency) = 0x00
instruction_of (Authorise amount currency) = 0x01
instruction_of (Enquire password) = 0x20
instruction_of (Reverse password receipt) = 0x30
instruction_of (EndOfDay password) = 0x50
instruction_of Stop = 0xB0
instruction_of (Show lines) = 0xE0

-- the data of a command
abbrev pub command_data : Command → List ℕ
command_data (Register password config currency) = password ++ config ∷ bcd_of 2 currency
command_data (Authorise amount currency) = 0x04 ∷ (bcd_of 6 amount ++ 0x49 ∷ bcd_of 2 currency)
command_data (Enquire password) = password
command_data (Reverse password receipt) = password ++ 0x87 ∷ bcd_of 2 receipt
command_data (EndOfDay password) = password
command_data Stop = []
command_data (Show lines) = 0xF0 ∷ 0x05 ∷ canonical_display_lines 0xF1 lines.items

-- the one APDU of a command
abbrev pub command_apdu : Command → ApduValue
command_apdu command = record { class = 0x06; instr = instruction_of command; body = command_data command }

-- and its bytes
abbrev pub canonical_command : Command → List ℕ
canonical_command command = canonical_apdu 0x06 (instruction_of command) (command_data command)
