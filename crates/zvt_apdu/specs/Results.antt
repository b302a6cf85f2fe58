-- The result of a call of `next` on a reader, and the bytes that it leaves.
use Rattle.std.specs.Prelude.{◌≡◌, ℕ, List, Option, Some, None, Result, Ok, Err}
use Rattle.zvt_apdu.specs.declared.apdu.Apdu.{Apdu}
use Rattle.zvt_apdu.specs.declared.fault.ApduFault.{ApduFault}
use Rattle.zvt_apdu.specs.declared.fault.ApduFault.TheVariants.{TooLong}
use Rattle.zvt_apdu.specs.Grammar.{ApduValue, value_of}
use Rattle.zvt_apdu.specs.Decode.{DecodedApdu}
use Rattle.zvt_apdu.specs.Stream.{ApduStep, TakesApdu}
use Rattle.gw_bytes.specs.Chunks.{Gave, Incomplete, Refused}

-- the result is this APDU
abbrev pub IsApdu : Result (Option Apdu) ApduFault → ApduValue → Type 0
IsApdu (Ok None) apdu = ⊥
IsApdu (Ok (Some found)) apdu = value_of found ≡ apdu
IsApdu (Err fault) apdu = ⊥

-- the result, by the function that decodes the bytes that wait
abbrev pub ReturnsApdu : Result (Option Apdu) ApduFault → DecodedApdu → Type 0
ReturnsApdu (Ok None) decoded = decoded ≡ DecodedApdu.Incomplete
ReturnsApdu (Ok (Some apdu)) decoded = (rest : List ℕ) × (decoded ≡ DecodedApdu.Whole (value_of apdu) rest)
ReturnsApdu (Err (TooLong n)) decoded = decoded ≡ DecodedApdu.TooLong n

-- the step that a call of `next` with this result was
abbrev pub apdu_step : Result (Option Apdu) ApduFault → ApduStep
apdu_step (Ok None) = Incomplete
apdu_step (Ok (Some apdu)) = Gave (value_of apdu)
apdu_step (Err (TooLong n)) = Refused n

-- from the bytes that waited to those that wait after a call of `next` with this result
abbrev pub LeavesBytes : List ℕ → Result (Option Apdu) ApduFault → List ℕ → Type 0
LeavesBytes old result new = TakesApdu old (apdu_step result) new
