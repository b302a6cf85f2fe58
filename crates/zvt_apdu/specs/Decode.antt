-- The APDU that bytes begin with, as a function that computes it.
use Rattle.std.specs.Prelude.{ℕ, ◌+◌, ◌*◌, List, [], ◌∷◌, length, take, drop, nat_lt, ◌==◌, if◌then◌else◌}
use Rattle.zvt_apdu.specs.Grammar.{ApduValue, longest_apdu_data}

-- a whole APDU and what follows it, less than one, or a header with a length above the limit
pub data DecodedApdu : Type 0 where
  Whole : (apdu : ApduValue) (rest : List ℕ) → DecodedApdu
  Incomplete : DecodedApdu
  TooLong : (length : ℕ) → DecodedApdu

-- after a length, data of that length
abbrev pub decode_apdu_data : ℕ → ℕ → ℕ → List ℕ → DecodedApdu
decode_apdu_data class instr n bytes =
    if nat_lt longest_apdu_data n then TooLong n
    else if nat_lt (length bytes) n then Incomplete
    else Whole (record { class = class; instr = instr; body = take n bytes }) (drop n bytes)

-- after FF, the two bytes of a length
abbrev pub decode_long_apdu : ℕ → ℕ → List ℕ → DecodedApdu
decode_long_apdu class instr [] = Incomplete
decode_long_apdu class instr (low ∷ []) = Incomplete
decode_long_apdu class instr (low ∷ high ∷ bytes) = decode_apdu_data class instr (low + 256 * high) bytes

-- the APDU that the bytes begin with
abbrev pub decode_apdu : List ℕ → DecodedApdu
decode_apdu [] = Incomplete
decode_apdu (class ∷ []) = Incomplete
decode_apdu (class ∷ instr ∷ []) = Incomplete
decode_apdu (class ∷ instr ∷ n ∷ bytes) =
    if n == 255 then decode_long_apdu class instr bytes else decode_apdu_data class instr n bytes
