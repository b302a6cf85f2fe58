-- One character of a string, and its spellings (RFC 8259, section 7).
use Rattle.std.specs.Prelude.{◌≡◌, ◌≢◌, ℕ, ◌+◌, ◌-◌, ◌*◌, ◌<◌, ◌≤◌, List, [], ◌∷◌, ◌++◌, length, Option, Some, None, ◌==◌, if◌then◌else◌}
use Rattle.std.specs.Char.{encode_utf8, InScalarRange}
use Rattle.std.specs.Int.{is_in_range}

-- the character itself, in UTF-8: no control character, quotation mark or backslash
pub record IsUnescaped (c : ℕ) (w : List ℕ) : Type 0 where
  pub scalar : InScalarRange c
  pub no_control : 32 ≤ c
  pub no_quote : c ≢ 34
  pub no_backslash : c ≢ 92
  pub bytes : w ≡ encode_utf8 c

-- the character that a letter after a backslash means
abbrev pub short_escape : ℕ → Option ℕ
short_escape letter =
    if letter == 34 then Some 34 else
    (if letter == 92 then Some 92 else
    (if letter == 47 then Some 47 else
    (if letter == 98 then Some 8 else
    (if letter == 102 then Some 12 else
    (if letter == 110 then Some 10 else
    (if letter == 114 then Some 13 else
    (if letter == 116 then Some 9 else None)))))))

-- the value of a hexadecimal digit, in either case
abbrev pub hex_value : ℕ → Option ℕ
hex_value d =
    if is_in_range 48 57 d then Some (d - 48) else
    (if is_in_range 97 102 d then Some (d - 87) else
    (if is_in_range 65 70 d then Some (d - 55) else None))

-- w is hexadecimal digits, and after the value n they make the value u
abbrev pub AreHex : List ℕ → ℕ → ℕ → Type 0
AreHex [] n u = u ≡ n
AreHex (d ∷ w) n u = (x : ℕ) × (hex_value d ≡ Some x) × AreHex w (n * 16 + x) u

-- a backslash, the letter u and four hexadecimal digits of this value
pub record IsUnit (u : ℕ) (w : List ℕ) : Type 0 where
  pub digits : List ℕ
  pub four : length digits ≡ 4
  pub value : AreHex digits 0 u
  pub parts : w ≡ 92 ∷ 117 ∷ digits

-- the first surrogate of a pair
abbrev pub IsHigh : ℕ → Type 0
IsHigh u = (0xD800 ≤ u) × (u < 0xDC00)

-- the second surrogate of a pair
abbrev pub IsLow : ℕ → Type 0
IsLow u = (0xDC00 ≤ u) × (u < 0xE000)

-- the character that a pair of surrogates means
abbrev pub of_pair : ℕ → ℕ → ℕ
of_pair high low = 0x10000 + ((high - 0xD800) * 0x400 + (low - 0xDC00))

-- two units that are a pair of surrogates
pub record IsPair (c : ℕ) (w : List ℕ) : Type 0 where
  pub high : ℕ
  pub low : ℕ
  pub first : List ℕ
  pub second : List ℕ
  pub first_is : IsUnit high first
  pub second_is : IsUnit low second
  pub high_is : IsHigh high
  pub low_is : IsLow low
  pub parts : w ≡ first ++ second
  pub c_is : c ≡ of_pair high low

-- w is a spelling of the character c
pub data IsCharacter (c : ℕ) (w : List ℕ) : Type 0 where
  unescaped : IsUnescaped c w → IsCharacter c w
  short : (letter : ℕ) → short_escape letter ≡ Some c → w ≡ 92 ∷ letter ∷ [] → IsCharacter c w
  unit : InScalarRange c → IsUnit c w → IsCharacter c w
  pair : IsPair c w → IsCharacter c w

-- b is spellings of these characters, the closing quotation mark, and then r
abbrev pub AreCharacters : List ℕ → List ℕ → List ℕ → Type 0
AreCharacters [] b r = b ≡ 34 ∷ r
AreCharacters (c ∷ cs) b r = (w : List ℕ) × (n : List ℕ) × IsCharacter c w × (b ≡ w ++ n) × AreCharacters cs n r
