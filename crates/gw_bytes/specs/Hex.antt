-- Digits of base 16 in upper case; those in lower case are std's.
use Rattle.std.specs.Prelude.{ℕ, ◌+◌, nat_lt, if◌then◌else◌}

-- the digit of a value below 16, with A to F
abbrev pub upper_digit : ℕ → ℕ
upper_digit value = if nat_lt value 10 then 0x30 + value else 0x37 + value
