-- The bytes that spell the value of a field, by the form of its length.
use Rattle.std.specs.Prelude.{◌≡◌, ◌≢◌, ℕ, zero, suc, ◌+◌, ◌*◌, ◌<◌, ◌≤◌, ◌⊎◌, List, [], ◌∷◌, ◌++◌, length}
use Rattle.zvt_tlv.specs.Grammar.{SpellsTlvLength}
use Rattle.zvt_bmp.specs.declared.length_form.LengthForm.{LengthForm}
use Rattle.zvt_bmp.specs.declared.length_form.LengthForm.TheVariants.{Fixed, Llvar, Lllvar, Tlv}

-- the bytes are a length below 100 (LLVAR): two bytes F0 to F9, a decimal digit each
abbrev pub SpellsLlvar : List ℕ → ℕ → Type 0
SpellsLlvar bytes n = (tens : ℕ) × (units : ℕ) × (tens < 10) × (units < 10)
    × (n ≡ 10 * tens + units) × (bytes ≡ (0xF0 + tens) ∷ (0xF0 + units) ∷ [])

-- The bytes are the length of a value of n bytes: none where the length is fixed, two or three bytes F0 to F9 with a
-- decimal digit each, or the length of a TLV object.
abbrev pub SpellsFieldLength : LengthForm → List ℕ → ℕ → Type 0
SpellsFieldLength (Fixed size) bytes n = (bytes ≡ []) × (n ≡ size)
SpellsFieldLength Llvar bytes n = SpellsLlvar bytes n
SpellsFieldLength Lllvar bytes n = (hundreds : ℕ) × (tens : ℕ) × (units : ℕ) × (hundreds < 10) × (tens < 10) × (units < 10)
    × (n ≡ 100 * hundreds + (10 * tens + units)) × (bytes ≡ (240 + hundreds) ∷ (240 + tens) ∷ (240 + units) ∷ [])
SpellsFieldLength Tlv bytes n = SpellsTlvLength bytes n

-- the bytes are a length and this value, which has it
abbrev pub SpellsFieldValue : LengthForm → List ℕ → List ℕ → Type 0
SpellsFieldValue form bytes value = (prefix : List ℕ) × SpellsFieldLength form prefix (length value) × (bytes ≡ prefix ++ value)

-- the bytes begin with this value, and rest follows it
abbrev pub BeginsWithFieldValue : LengthForm → List ℕ → List ℕ → List ℕ → Type 0
BeginsWithFieldValue form bytes value rest = (prefix : List ℕ) × SpellsFieldValue form prefix value × (bytes ≡ prefix ++ rest)

-- a byte F0 to F9
abbrev pub IsLengthDigit : ℕ → Type 0
IsLengthDigit b = (240 ≤ b) × (b ≤ 249)

-- one of the first so many bytes, as far as they are there, is none of these
abbrev pub HasWrongDigit : ℕ → List ℕ → Type 0
HasWrongDigit zero bytes = ⊥
HasWrongDigit (suc count) [] = ⊥
HasWrongDigit (suc count) (b ∷ bytes) = (¬ IsLengthDigit b) ⊎ HasWrongDigit count bytes

-- where a length should begin is a byte that no length of the form has there
abbrev pub HasWrongFieldLength : LengthForm → List ℕ → Type 0
HasWrongFieldLength (Fixed size) bytes = ⊥
HasWrongFieldLength Llvar bytes = HasWrongDigit 2 bytes
HasWrongFieldLength Lllvar bytes = HasWrongDigit 3 bytes
HasWrongFieldLength Tlv bytes = (b : ℕ) × (more : List ℕ) × ((b ≡ 128) ⊎ (130 < b)) × (bytes ≡ b ∷ more)

-- the bytes, perhaps none, are less than a value with its length: with some more of them they are one
abbrev pub IsTruncatedFieldValue : LengthForm → List ℕ → Type 0
IsTruncatedFieldValue form bytes = (more : List ℕ) × (value : List ℕ) × (more ≢ []) × SpellsFieldValue form (bytes ++ more) value
