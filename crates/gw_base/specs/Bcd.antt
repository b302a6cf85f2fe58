-- Binary coded decimals: two digits in each byte, the more significant in its upper half.
use Rattle.std.specs.Prelude.{ℕ, suc, zero, ◌+◌, ◌*◌, ◌/◌, ◌%◌, ◌^◌, ◌<◌, ◌≤◌, nat_le, Bool, true, ◌&&◌, List, [], ◌∷◌, ◌++◌, All, length, take, slice_index}

-- both halves of the byte are decimal digits
abbrev pub IsBcdByte : ℕ → Type 0
IsBcdByte byte = (byte / 16 ≤ 9) × (byte % 16 ≤ 9)

-- every byte holds two decimal digits
abbrev pub IsBcd : List ℕ → Type 0
IsBcd bytes = All IsBcdByte bytes

-- whether every byte holds two decimal digits, as a test
abbrev pub is_bcd : List ℕ → Bool
is_bcd [] = true
is_bcd (byte ∷ bytes) = nat_le (byte / 16) 9 && (nat_le (byte % 16) 9 && is_bcd bytes)

-- the number that two digits in a byte spell, 0 to 99
abbrev pub pair_value : ℕ → ℕ
pair_value byte = 10 * (byte / 16) + byte % 16

-- the number that the digits spell, the most significant first
abbrev pub bcd_value : List ℕ → ℕ
bcd_value [] = 0
bcd_value (byte ∷ bytes) = pair_value byte * 100 ^ length bytes + bcd_value bytes

-- the byte whose two digits spell a number of 0 to 99
abbrev pub pair_byte : ℕ → ℕ
pair_byte pair = 16 * (pair / 10) + pair % 10

-- the last `2 * count` digits of the value in `count` bytes, the most significant first
abbrev pub bcd_of : ℕ → ℕ → List ℕ
bcd_of zero value = []
bcd_of (suc count) value = bcd_of count (value / 100) ++ pair_byte (value % 100) ∷ []

-- this is the offset of the first byte that doesn't hold two digits
pub record IsFirstNotBcd (bytes : List ℕ) (offset : ℕ) : Type 0 where
  pub inside : offset < length bytes
  pub before : IsBcd (take offset bytes)
  pub here : ¬ IsBcdByte (slice_index bytes offset)
