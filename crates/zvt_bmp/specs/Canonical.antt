-- The canonical spelling of a status: the one that is written.
use Rattle.std.specs.Prelude.{ℕ, ◌^◌, ◌<◌, List, [], ◌∷◌, ◌++◌, Option, None, Some, IfSome}
use Rattle.gw_base.specs.Bcd.{bcd_of}
use Rattle.zvt_bmp.specs.declared.fields.Fields.{Fields}

-- each number has at most as many digits as its field
pub record HasFieldDigits (fields : Fields) : Type 0 where
  pub amount : IfSome fields.amount (λ n. n < 100 ^ 6)
  pub trace : IfSome fields.trace (λ n. n < 100 ^ 3)
  pub receipt : IfSome fields.receipt (λ n. n < 100 ^ 2)

-- the field of the result, where there is one
abbrev pub canonical_result_field : Option ℕ → List ℕ
canonical_result_field None = []
canonical_result_field (Some result_code) = 0x27 ∷ result_code ∷ []

-- the field of a number in so many bytes of digits, where there is one
abbrev pub canonical_digits_field : ℕ → ℕ → Option ℕ → List ℕ
canonical_digits_field number size None = []
canonical_digits_field number size (Some value) = number ∷ bcd_of size value

-- the field of the currency, where there is one
abbrev pub canonical_currency_field : Option (List ℕ) → List ℕ
canonical_currency_field None = []
canonical_currency_field (Some currency) = 0x49 ∷ currency

-- the fields that are there, each number with its value
abbrev pub canonical_status : Fields → List ℕ
canonical_status fields = canonical_result_field fields.result ++ (canonical_digits_field 0x04 6 fields.amount
    ++ (canonical_digits_field 0x0B 3 fields.trace ++ (canonical_digits_field 0x87 2 fields.receipt ++ canonical_currency_field fields.currency)))
