-- What the code that reads the first APDU returns, as plain data.
use Rattle.std.specs.Prelude.{◌≡◌, ℕ, List, Option, Some, None, Result, Ok, Err}
use Rattle.zvt_apdu.specs.declared.apdu.Apdu.{Apdu}
use Rattle.zvt_apdu.specs.declared.fault.ApduFault.{ApduFault}
use Rattle.zvt_apdu.specs.declared.fault.ApduFault.TheVariants.{TooLong}
use Rattle.zvt_apdu.specs.Grammar.{value_of}
use Rattle.zvt_apdu.specs.Decode.{DecodedApdu}
use denote.Ref.{Bor}

-- the result, with what follows the APDU, is what the function that decodes bytes gives
abbrev pub ReturnsFirstApdu : Result (Option (Apdu × Bor (List ℕ))) ApduFault → DecodedApdu → Type 0
ReturnsFirstApdu (Ok None) decoded = decoded ≡ DecodedApdu.Incomplete
ReturnsFirstApdu (Ok (Some found)) decoded = decoded ≡ DecodedApdu.Whole (value_of found.0) found.1.now
ReturnsFirstApdu (Err (TooLong n)) decoded = decoded ≡ DecodedApdu.TooLong n
