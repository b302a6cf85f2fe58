-- Inner: what is left of a number's text, in each state of its reader.
use Rattle.std.specs.Prelude.{◌≡◌, ◌≢◌, ℕ, List, ◌∷◌, ◌++◌, ◌<◌, ◌≤◌, ◌⊎◌}
use Rattle.json_text.specs.Number.{AreDigits, IsDigit, IsDigits, IsFraction, IsSigned, IsExp, IsMagnitude}
use Rattle.json_text.specs.declared.number.NumberState.{NumberState}
use Rattle.json_text.specs.declared.number.NumberState.TheVariants as number_states

-- digits, and then a text of which P says what it is
pub record DigitsThen (D P : List ℕ → Type 0) (s : List ℕ) : Type 0 where
  pub digits : List ℕ
  pub rest : List ℕ
  pub parts : s ≡ digits ++ rest
  pub digits_are : D digits
  pub rest_is : P rest

-- s is left of a number
abbrev pub LeftOfNumber : NumberState → List ℕ → Type 0
LeftOfNumber number_states.Minus s = IsMagnitude s
LeftOfNumber number_states.Zero s = IsFraction s
LeftOfNumber number_states.Digits s = DigitsThen AreDigits IsFraction s
LeftOfNumber number_states.Point s = DigitsThen IsDigits IsExp s
LeftOfNumber number_states.Fraction s = DigitsThen AreDigits IsExp s
LeftOfNumber number_states.Letter s = IsDigits s ⊎ IsSigned s
LeftOfNumber number_states.Sign s = IsDigits s
LeftOfNumber number_states.Exponent s = AreDigits s

-- a byte as in numbers: printed ASCII, but no mark that comes after a value, and none that ends or escapes in a string
pub record IsNumberByte (c : ℕ) : Type 0 where
  pub ascii : c < 128
  pub printed : 32 ≤ c
  pub no_backslash : c ≢ 92
  pub no_space : (c ≢ 32) × (c ≢ 9) × (c ≢ 10) × (c ≢ 13)
  pub no_mark : (c ≢ 44) × (c ≢ 93) × (c ≢ 125) × (c ≢ 34)

-- where L says what is left, the byte c leaves what the state q says
pub record LeavesNumber (L : List ℕ → Type 0) (c : ℕ) (q : NumberState) : Type 0 where
  pub on : (s : List ℕ) → L (c ∷ s) → LeftOfNumber q s
  pub back : (s : List ℕ) → LeftOfNumber q s → L (c ∷ s)
  pub byte : IsNumberByte c

-- no number goes on with the byte c
abbrev pub EndsNumber : (List ℕ → Type 0) → ℕ → Type 0
EndsNumber L c = (s : List ℕ) → L (c ∷ s) → ⊥

-- each digit leaves the state as it is
abbrev pub TakesDigits : NumberState → Type 0
TakesDigits q = (c : ℕ) → IsDigit c → LeavesNumber (LeftOfNumber q) c q
