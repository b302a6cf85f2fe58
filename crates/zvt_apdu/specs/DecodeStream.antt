-- The APDUs of bytes, as a function that computes them.
use Rattle.std.specs.Prelude.{ℕ, zero, suc, List, [], ◌∷◌, length}
use Rattle.zvt_apdu.specs.Grammar.{ApduValue}
use Rattle.zvt_apdu.specs.Decode.{DecodedApdu, decode_apdu}

-- APDUs one after another, and what is left
pub record DecodedApdus : Type 0 where
  pub apdus : List ApduValue
  pub rest : List ℕ

-- with one more APDU before them
abbrev pub with_first_apdu : ApduValue → DecodedApdus → DecodedApdus
with_first_apdu apdu split = record { apdus = apdu ∷ split.apdus; rest = split.rest }

-- the first APDU, and after it what more gives
abbrev pub decode_apdus_from : (List ℕ → DecodedApdus) → List ℕ → DecodedApdu → DecodedApdus
decode_apdus_from more bytes (DecodedApdu.Whole apdu rest) = with_first_apdu apdu (more rest)
decode_apdus_from more bytes DecodedApdu.Incomplete = record { apdus = []; rest = bytes }
decode_apdus_from more bytes (DecodedApdu.TooLong n) = record { apdus = []; rest = bytes }

-- at most so many APDUs
unfoldable pub decode_apdus_within : ℕ → List ℕ → DecodedApdus
decode_apdus_within zero bytes = record { apdus = []; rest = bytes }
decode_apdus_within (suc n) bytes = decode_apdus_from (decode_apdus_within n) bytes (decode_apdu bytes)

-- all of them: there are no more than bytes
unfoldable pub decode_apdus : List ℕ → DecodedApdus
decode_apdus bytes = decode_apdus_within (length bytes) bytes
