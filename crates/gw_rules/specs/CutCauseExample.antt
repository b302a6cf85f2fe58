-- The APDU of a Completion, as examples of cuts have it.
use Rattle.std.specs.Prelude.{[]}
use Rattle.zvt_apdu.specs.Grammar.{ApduValue}

-- an APDU of the terminal that completes
abbrev pub completion_apdu : ApduValue
completion_apdu = record { class = 0x06; instr = 0x0F; body = [] }
