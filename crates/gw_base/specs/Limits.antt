-- The limits of this profile on numbers that travel on both wires.
use Rattle.std.specs.Prelude.{ℕ, ◌≤◌}

-- an amount in minor units: twelve digits, and not zero
abbrev pub IsAmount : ℕ → Type 0
IsAmount units = (1 ≤ units) × (units ≤ 999999999999)

-- a trace number of a terminal: six digits; 0 is no number of an entry
abbrev pub IsTrace : ℕ → Type 0
IsTrace trace = trace ≤ 999999

-- a receipt number of a terminal: four digits
abbrev pub IsReceipt : ℕ → Type 0
IsReceipt receipt = receipt ≤ 9999
