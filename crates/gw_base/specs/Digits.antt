-- Numbers in decimal digits of ASCII.
use Rattle.std.specs.Prelude.{ℕ, suc, zero, ◌+◌, ◌/◌, ◌%◌, List, [], ◌∷◌, ◌++◌}

-- the last `count` digits of the value, with leading zeros
abbrev pub digits : ℕ → ℕ → List ℕ
digits zero value = []
digits (suc count) value = digits count (value / 10) ++ (0x30 + value % 10) ∷ []
