-- The text that identifies a transaction, in the one form in which it is written.
use Rattle.std.specs.Prelude.{◌≡◌, ℕ, ◌^◌, ◌<◌, List, ◌∷◌, ◌++◌, All, decimal, length}
use Rattle.std.specs.Char.{IsAsciiDigit}

-- so many digits
pub record AreSoManyDigits (count : ℕ) (text : List ℕ) : Type 0 where
  pub many : length text ≡ count
  pub digits : All IsAsciiDigit text

-- six digits, four digits and a slot, with dashes between
pub record SpellsTransaction (trace receipt : List ℕ) (slot : ℕ) (text : List ℕ) : Type 0 where
  pub six : AreSoManyDigits 6 trace
  pub four : AreSoManyDigits 4 receipt
  pub fits : slot < 2 ^ 32
  pub spelled : text ≡ trace ++ (0x2D ∷ (receipt ++ (0x2D ∷ decimal slot)))

-- a text that identifies a transaction: the digits of a trace number and of a receipt number, and a slot
abbrev pub IsTransactionIdentifier : List ℕ → Type 0
IsTransactionIdentifier text = (trace : List ℕ) × (receipt : List ℕ) × (slot : ℕ) × SpellsTransaction trace receipt slot text
