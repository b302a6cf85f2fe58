-- The commands to a terminal, and the one APDU that spells each (ZVT PA00P015; this profile's choice of their data).
use Rattle.std.specs.Prelude.{◌≡◌, ℕ, ◌+◌, ◌^◌, ◌<◌, ◌≤◌, List, [], ◌∷◌, ◌++◌, length}
use Rattle.arrayvec.specs.ArrayVec.{ArrayVec, array_vec_len}
use Rattle.gw_base.specs.Bcd.{IsBcd, bcd_value}
use Rattle.zvt_apdu.specs.Grammar.{ApduValue}
use Rattle.zvt_bmp.specs.ValueGrammar.{SpellsLlvar}
use Rattle.zvt_msg.specs.declared.command.Command.{Command}
use Rattle.zvt_msg.specs.declared.command.Command.TheVariants.{Register, Authorise, Enquire, Reverse, EndOfDay, Stop, Show}
use Rattle.zvt_msg.specs.MessageGrammar.{HasClassAndInstruction}

-- ---- the parts of a command's data

-- six decimal digits in three bytes
abbrev pub IsPassword : List ℕ → Type 0
IsPassword bytes = (length bytes ≡ 3) × IsBcd bytes

-- the bytes, so many of them, are the decimal digits of the number
abbrev pub SpellsBcdNumber : ℕ → List ℕ → ℕ → Type 0
SpellsBcdNumber count bytes n = (length bytes ≡ count) × IsBcd bytes × (bcd_value bytes ≡ n)

-- the bytes are these lines of a display, numbered on from this one: of each its number, its length and its text
abbrev pub SpellsDisplayLines : ℕ → List ℕ → List (ArrayVec ℕ) → Type 0
SpellsDisplayLines number bytes [] = bytes ≡ []
SpellsDisplayLines number bytes (line ∷ lines) = (size : List ℕ) × (more : List ℕ)
    × SpellsLlvar size (array_vec_len line) × SpellsDisplayLines (number + 1) more lines
    × (bytes ≡ number ∷ (size ++ (line.items ++ more)))

-- the most bytes of a line of a display
abbrev pub longest_display_line : ℕ
longest_display_line = 40

-- the most lines of a display
abbrev pub most_display_lines : ℕ
most_display_lines = 8

-- each of the lines has at most so many bytes
abbrev pub AreShortLines : List (ArrayVec ℕ) → Type 0
AreShortLines [] = Unit {0}
AreShortLines (line ∷ lines) = (array_vec_len line ≤ longest_display_line) × AreShortLines lines

-- a display has at most so many lines, and each of them fits
abbrev pub FitsDisplay : List (ArrayVec ℕ) → Type 0
FitsDisplay lines = (length lines ≤ most_display_lines) × AreShortLines lines

-- ---- the commands

-- an APDU spells a command: its class and instruction, and its data
abbrev pub SpellsCommand : ApduValue → Command → Type 0
SpellsCommand apdu (Register password config currency) = HasClassAndInstruction apdu 0x06 0x00 × (number : List ℕ)
    × IsPassword password × SpellsBcdNumber 2 number currency × (apdu.body ≡ password ++ config ∷ number)
SpellsCommand apdu (Authorise amount currency) = HasClassAndInstruction apdu 0x06 0x01 × (digits : List ℕ) × (number : List ℕ)
    × SpellsBcdNumber 6 digits amount × SpellsBcdNumber 2 number currency × (apdu.body ≡ 0x04 ∷ (digits ++ 0x49 ∷ number))
SpellsCommand apdu (Enquire password) = HasClassAndInstruction apdu 0x06 0x20 × IsPassword password × (apdu.body ≡ password)
SpellsCommand apdu (Reverse password receipt) = HasClassAndInstruction apdu 0x06 0x30 × (number : List ℕ)
    × IsPassword password × SpellsBcdNumber 2 number receipt × (apdu.body ≡ password ++ 0x87 ∷ number)
SpellsCommand apdu (EndOfDay password) = HasClassAndInstruction apdu 0x06 0x50 × IsPassword password × (apdu.body ≡ password)
SpellsCommand apdu Stop = HasClassAndInstruction apdu 0x06 0xB0 × (apdu.body ≡ [])
SpellsCommand apdu (Show lines) = HasClassAndInstruction apdu 0x06 0xE0 × (text : List ℕ)
    × FitsDisplay lines.items × SpellsDisplayLines 0xF1 text lines.items × (apdu.body ≡ 0xF0 ∷ 0x05 ∷ text)

-- ---- what can be spelt

-- each number has at most its field's digits, and a password's bytes are digits
abbrev pub HasCommandDigits : Command → Type 0
HasCommandDigits (Register password config currency) = IsBcd password × (currency < 100 ^ 2)
HasCommandDigits (Authorise amount currency) = (amount < 100 ^ 6) × (currency < 100 ^ 2)
HasCommandDigits (Enquire password) = IsBcd password
HasCommandDigits (Reverse password receipt) = IsBcd password × (receipt < 100 ^ 2)
HasCommandDigits (EndOfDay password) = IsBcd password
HasCommandDigits Stop = Unit {0}
HasCommandDigits (Show lines) = Unit {0}

-- what the types of the parts say: a password has three bytes, and lines fit a display
abbrev pub HasCommandSizes : Command → Type 0
HasCommandSizes (Register password config currency) = length password ≡ 3
HasCommandSizes (Authorise amount currency) = Unit {0}
HasCommandSizes (Enquire password) = length password ≡ 3
HasCommandSizes (Reverse password receipt) = length password ≡ 3
HasCommandSizes (EndOfDay password) = length password ≡ 3
HasCommandSizes Stop = Unit {0}
HasCommandSizes (Show lines) = FitsDisplay lines.items
