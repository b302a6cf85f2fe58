-- The command that an APDU spells, as a function that computes it.
use Rattle.std.specs.Prelude.{ℕ, zero, suc, ◌+◌, ◌*◌, List, [], ◌∷◌, length, take, drop, Option, None, Some, ◌&&◌, nat_lt, ◌==◌, if◌then◌else◌}
use Rattle.arrayvec.specs.ArrayVec.{ArrayVec}
use Rattle.gw_base.specs.Bcd.{bcd_value, is_bcd}
use Rattle.zvt_apdu.specs.Grammar.{ApduValue}
use Rattle.zvt_bmp.specs.Decode.{length_digit}
use Rattle.zvt_msg.specs.declared.command.Command.{Command}
use Rattle.zvt_msg.specs.declared.command.Command.TheVariants.{Register, Authorise, Enquire, Reverse, EndOfDay, Stop, Show}
use Rattle.zvt_msg.specs.CommandGrammar.{longest_display_line, most_display_lines}

-- ---- the parts

-- the bytes, if they are six digits
abbrev pub decode_password : List ℕ → Option (List ℕ)
decode_password bytes = if (length bytes == 3) && is_bcd bytes then Some bytes else None

-- the number that the digits spell, if they are digits in so many bytes
abbrev pub decode_bcd_number : ℕ → List ℕ → Option ℕ
decode_bcd_number count bytes = if (length bytes == count) && is_bcd bytes then Some (bcd_value bytes) else None

-- a line of so many bytes, and what follows it
abbrev pub display_line_with : ℕ → List ℕ → Option (ArrayVec ℕ × List ℕ)
display_line_with n bytes =
    if nat_lt longest_display_line n then None
    else if nat_lt (length bytes) n then None
    else Some (record { items = take n bytes }, drop n bytes)

-- a line by the two digits of its length, where both are digits
abbrev pub display_line_by : Option ℕ → Option ℕ → List ℕ → Option (ArrayVec ℕ × List ℕ)
display_line_by None units bytes = None
display_line_by (Some tens) None bytes = None
display_line_by (Some tens) (Some units) bytes = display_line_with (10 * tens + units) bytes

-- the line that the bytes begin with, by its length
abbrev pub decode_display_line : List ℕ → Option (ArrayVec ℕ × List ℕ)
decode_display_line [] = None
decode_display_line (tens ∷ []) = None
decode_display_line (tens ∷ units ∷ bytes) = display_line_by (length_digit tens) (length_digit units) bytes

-- with one more line before them, where the others were read
abbrev pub with_first_line : ArrayVec ℕ → Option (List (ArrayVec ℕ)) → Option (List (ArrayVec ℕ))
with_first_line line None = None
with_first_line line (Some lines) = Some (line ∷ lines)

-- the first line, and what more gives for the bytes after it
abbrev pub display_lines_from : (List ℕ → Option (List (ArrayVec ℕ))) → Option (ArrayVec ℕ × List ℕ) → Option (List (ArrayVec ℕ))
display_lines_from more None = None
display_lines_from more (Some found) = with_first_line found.0 (more found.1)

-- at most so many lines, numbered on from this one
abbrev pub decode_display_lines_within : ℕ → ℕ → List ℕ → Option (List (ArrayVec ℕ))
decode_display_lines_within n number [] = Some []
decode_display_lines_within zero number (b ∷ bytes) = None
decode_display_lines_within (suc n) number (b ∷ bytes) = if b == number then display_lines_from (decode_display_lines_within n (number + 1)) (decode_display_line bytes) else None

-- the lines of a display
unfoldable pub decode_display_lines : List ℕ → Option (List (ArrayVec ℕ))
decode_display_lines bytes = decode_display_lines_within most_display_lines 0xF1 bytes

-- ---- the commands, by their data

-- a registration of these parts, where all were read
abbrev pub register_with : Option (List ℕ) → ℕ → Option ℕ → Option Command
register_with None config currency = None
register_with (Some password) config None = None
register_with (Some password) config (Some currency) = Some (Register password config currency)

-- a registration after its password
abbrev pub register_at : Option (List ℕ) → List ℕ → Option Command
register_at password [] = None
register_at password (config ∷ number) = register_with password config (decode_bcd_number 2 number)

-- a registration: a password, the configuration byte and a currency
abbrev pub decode_register : List ℕ → Option Command
decode_register apdu_data = register_at (decode_password (take 3 apdu_data)) (drop 3 apdu_data)

-- an authorisation of these parts, where both were read
abbrev pub authorise_with : Option ℕ → Option ℕ → Option Command
authorise_with None currency = None
authorise_with (Some amount) None = None
authorise_with (Some amount) (Some currency) = Some (Authorise amount currency)

-- an authorisation after its amount
abbrev pub authorise_at : Option ℕ → List ℕ → Option Command
authorise_at amount [] = None
authorise_at amount (b ∷ number) = if b == 0x49 then authorise_with amount (decode_bcd_number 2 number) else None

-- an authorisation: 04 and an amount, 49 and a currency
abbrev pub decode_authorise : List ℕ → Option Command
decode_authorise [] = None
decode_authorise (b ∷ bytes) = if b == 0x04 then authorise_at (decode_bcd_number 6 (take 6 bytes)) (drop 6 bytes) else None

-- a reversal of these parts, where both were read
abbrev pub reverse_with : Option (List ℕ) → Option ℕ → Option Command
reverse_with None receipt = None
reverse_with (Some password) None = None
reverse_with (Some password) (Some receipt) = Some (Reverse password receipt)

-- a reversal after its password
abbrev pub reverse_at : Option (List ℕ) → List ℕ → Option Command
reverse_at password [] = None
reverse_at password (b ∷ number) = if b == 0x87 then reverse_with password (decode_bcd_number 2 number) else None

-- a reversal: a password, 87 and a receipt number
abbrev pub decode_reverse : List ℕ → Option Command
decode_reverse apdu_data = reverse_at (decode_password (take 3 apdu_data)) (drop 3 apdu_data)

-- an enquiry with this password, where it was read
abbrev pub enquire_with : Option (List ℕ) → Option Command
enquire_with None = None
enquire_with (Some password) = Some (Enquire password)

-- an end of day with this password, where it was read
abbrev pub end_of_day_with : Option (List ℕ) → Option Command
end_of_day_with None = None
end_of_day_with (Some password) = Some (EndOfDay password)

-- a stop, which has no data
abbrev pub decode_stop : List ℕ → Option Command
decode_stop [] = Some Stop
decode_stop (b ∷ bytes) = None

-- a display of these lines, where they were read
abbrev pub show_with : Option (List (ArrayVec ℕ)) → Option Command
show_with None = None
show_with (Some lines) = Some (Show (record { items = lines }))

-- a display: F0 05 and lines
abbrev pub decode_show : List ℕ → Option Command
decode_show [] = None
decode_show (b ∷ []) = None
decode_show (b ∷ c ∷ bytes) = if (b == 0xF0) && (c == 0x05) then show_with (decode_display_lines bytes) else None

-- ---- the command of an APDU

-- the command with this instruction, by its data
abbrev pub decode_command_by : ℕ → List ℕ → Option Command
decode_command_by instr apdu_data =
    if instr == 0x00 then decode_register apdu_data
    else if instr == 0x01 then decode_authorise apdu_data
    else if instr == 0x20 then enquire_with (decode_password apdu_data)
    else if instr == 0x30 then decode_reverse apdu_data
    else if instr == 0x50 then end_of_day_with (decode_password apdu_data)
    else if instr == 0xB0 then decode_stop apdu_data
    else if instr == 0xE0 then decode_show apdu_data
    else None

-- the command that an APDU spells; none where it spells none
unfoldable pub decode_command : ApduValue → Option Command
decode_command apdu = if apdu.class == 0x06 then decode_command_by apdu.instr apdu.body else None
