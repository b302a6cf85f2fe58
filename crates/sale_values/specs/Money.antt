-- How money is written.
use Rattle.std.specs.Prelude.{ℕ, ◌/◌, ◌%◌, List, ◌∷◌, ◌++◌, decimal}
use Rattle.gw_base.specs.Digits.{digits}

-- minor units of a currency with two decimals: whole units, a point and two digits
unfoldable pub money_text : ℕ → List ℕ
money_text units = decimal (units / 100) ++ 0x2E ∷ digits 2 (units % 100)
