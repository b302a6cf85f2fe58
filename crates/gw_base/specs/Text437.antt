-- The texts of a terminal: printable ASCII, and seven letters of code page 437.
use Rattle.std.specs.Prelude.{ℕ, List, [], ◌∷◌, Bool, ◌&&◌, ◌==◌, nat_le, if◌then◌else◌}

-- a letter that isn't ASCII: its byte on the wire, and its Unicode scalar value
pub record Letter : Type 0 where
  pub byte : ℕ
  pub scalar : ℕ

-- ä ö ü Ä Ö Ü ß
abbrev pub letters : List Letter
letters =
    record { byte = 0x84; scalar = 0xE4 } ∷ record { byte = 0x94; scalar = 0xF6 }
    ∷ record { byte = 0x81; scalar = 0xFC } ∷ record { byte = 0x8E; scalar = 0xC4 }
    ∷ record { byte = 0x99; scalar = 0xD6 } ∷ record { byte = 0x9A; scalar = 0xDC }
    ∷ record { byte = 0xE1; scalar = 0xDF } ∷ []

-- a byte or a character outside the table is read and written as this: the question mark
abbrev pub unknown : ℕ
unknown = 0x3F

-- printable ASCII, the space among them
abbrev pub is_printable : ℕ → Bool
is_printable code = nat_le 0x20 code && nat_le code 0x7E

-- the scalar value of the letter with this byte, in a table
abbrev pub scalar_in : List Letter → ℕ → ℕ
scalar_in [] byte = unknown
scalar_in (letter ∷ table) byte = if letter.byte == byte then letter.scalar else scalar_in table byte

-- the byte of the letter with this scalar value, in a table
abbrev pub byte_in : List Letter → ℕ → ℕ
byte_in [] scalar = unknown
byte_in (letter ∷ table) scalar = if letter.scalar == scalar then letter.byte else byte_in table scalar

-- the character of a byte
abbrev pub char_of : ℕ → ℕ
char_of byte = if is_printable byte then byte else scalar_in letters byte

-- the byte of a character
abbrev pub byte_of : ℕ → ℕ
byte_of scalar = if is_printable scalar then scalar else byte_in letters scalar
