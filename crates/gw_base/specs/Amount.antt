-- Amounts in the text of a JSON number: minor units of a currency with two decimals.
use Rattle.std.specs.Prelude.{◌≡◌, ℕ, ◌+◌, ◌-◌, ◌*◌, ◌^◌, ◌==◌, nat_le, Bool, true, false, not, ◌&&◌, ◌||◌, if◌then◌else◌, List, [], ◌∷◌, ◌++◌, All, length, take, drop, Option, Some, None}
use Rattle.std.specs.List.{list_all, prefix_len, take_while}
use Rattle.std.specs.Char.{is_ascii_digit, IsAsciiDigit}
use Rattle.gw_base.specs.Limits.{IsAmount}

-- the number that decimal digits spell, the most significant first
abbrev pub decimal_value : List ℕ → ℕ
decimal_value [] = 0
decimal_value (digit ∷ digits) = (digit - 0x30) * 10 ^ length digits + decimal_value digits

-- RFC 8259's `int` without a sign: a zero alone, or digits of which the first is no zero
abbrev pub IsWhole : List ℕ → Type 0
IsWhole [] = ⊥
IsWhole (digit ∷ digits) = All IsAsciiDigit (digit ∷ digits) × (digit ≡ 0x30 → digits ≡ [])

-- RFC 8259's number without a sign and an exponent: `int`, and a point and digits where there are any
abbrev pub numeral_text : List ℕ → List ℕ → List ℕ
numeral_text whole [] = whole
numeral_text whole (digit ∷ digits) = whole ++ 0x2E ∷ digit ∷ digits

-- the number of minor units, where a missing digit counts as zero and those past the second aren't read
abbrev pub minor_units_of : List ℕ → List ℕ → ℕ
minor_units_of whole fraction =
    100 * decimal_value whole + decimal_value (take 2 (fraction ++ 0x30 ∷ 0x30 ∷ []))

-- the text spells an amount of so many minor units
pub record SpellsAmount (text : List ℕ) (units : ℕ) : Type 0 where
  pub whole : List ℕ
  pub fraction : List ℕ
  pub spelling : text ≡ numeral_text whole fraction
  pub whole_digits : IsWhole whole
  pub fraction_digits : All IsAsciiDigit fraction
  pub zeros_past_second : All (λ digit. digit ≡ 0x30) (drop 2 fraction)
  pub value : units ≡ minor_units_of whole fraction
  pub amount : IsAmount units

-- the digits that the text begins with
abbrev pub whole_of : List ℕ → List ℕ
whole_of text = take_while is_ascii_digit text

-- what follows the digits that the text begins with
abbrev pub rest_of : List ℕ → List ℕ
rest_of text = drop (prefix_len is_ascii_digit text) text

-- whether there are no digits
abbrev pub has_no_digits : List ℕ → Bool
has_no_digits [] = true
has_no_digits (_ ∷ _) = false

-- whether it is an `int` by RFC 8259
abbrev pub is_whole : List ℕ → Bool
is_whole [] = false
is_whole (digit ∷ digits) =
    list_all is_ascii_digit (digit ∷ digits) && (not (digit == 0x30) || has_no_digits digits)

-- the digits after the point, where the rest of a numeral is a point and digits, or nothing
abbrev pub fraction_of : List ℕ → Option (List ℕ)
fraction_of [] = Some []
fraction_of (byte ∷ digits) =
    if (byte == 0x2E) && not (has_no_digits digits) && list_all is_ascii_digit digits then Some digits else None

-- whether it is within the limits of an amount
abbrev pub is_amount : ℕ → Bool
is_amount units = nat_le 1 units && nat_le units 999999999999

-- the minor units of a whole number and the digits after its point, where these are an amount
abbrev pub minor_units_with : List ℕ → Option (List ℕ) → Option ℕ
minor_units_with whole None = None
minor_units_with whole (Some fraction) =
    if is_whole whole && list_all (λ digit. digit == 0x30) (drop 2 fraction) && is_amount (minor_units_of whole fraction)
    then Some (minor_units_of whole fraction) else None

-- the minor units that a text spells, if it is an amount
unfoldable pub minor_units : List ℕ → Option ℕ
minor_units text = minor_units_with (whole_of text) (fraction_of (rest_of text))
