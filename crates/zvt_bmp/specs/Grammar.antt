-- The fields that spell a status, their values, and the first fault (ZVT PA00P015, "status information").
use Rattle.std.specs.Prelude.{◌≡◌, ℕ, ◌-◌, ◌⊎◌, List, [], ◌∷◌, ◌++◌, length, slice_index, Option, None, Some, option_and_then, Result, Ok, Err, Bool, false, ◌&&◌, ◌||◌, ◌==◌, IsTrue, if◌then◌else◌}
use Rattle.std.specs.Option.{option_map}
use Rattle.gw_base.specs.Bcd.{IsBcd, bcd_value, is_bcd}
use Rattle.zvt_bmp.specs.declared.length_form.LengthForm.{LengthForm}
use Rattle.zvt_bmp.specs.declared.fields.Fields.{Fields}
use Rattle.zvt_bmp.specs.declared.fields.FieldFault.{FieldFault}
use Rattle.zvt_bmp.specs.declared.fields.FieldFault.TheVariants.{Short, BadLength, NotDigits, Twice}
use Rattle.zvt_bmp.specs.Table.{length_form_of}
use Rattle.zvt_bmp.specs.ValueGrammar.{BeginsWithFieldValue, HasWrongFieldLength, IsTruncatedFieldValue}

-- a field: its number and its value
pub record Field : Type 0 where
  pub number : ℕ
  pub value : List ℕ

-- the bytes begin with this field of the table, and rest follows it
abbrev pub BeginsWithField : List ℕ → Field → List ℕ → Type 0
BeginsWithField bytes field rest = (form : LengthForm) × (following : List ℕ)
    × (length_form_of field.number ≡ Some form) × (bytes ≡ field.number ∷ following) × BeginsWithFieldValue form following field.value rest

-- the bytes are these fields, one after another, and then the rest
abbrev pub BeginsWithFields : List ℕ → List Field → List ℕ → Type 0
BeginsWithFields bytes [] rest = bytes ≡ rest
BeginsWithFields bytes (field ∷ fields) rest = (more : List ℕ) × BeginsWithField bytes field more × BeginsWithFields more fields rest

-- nothing, or a number that is not in the table and whatever follows it
abbrev pub IsFieldTail : List ℕ → Type 0
IsFieldTail [] = Unit {0}
IsFieldTail (number ∷ more) = length_form_of number ≡ None

-- ---- the values of fields

-- one of the fields has this number
abbrev pub has_field : ℕ → List Field → Bool
has_field number [] = false
has_field number (field ∷ fields) = (field.number == number) || has_field number fields

-- the value of the first field with this number
abbrev pub first_field_value : ℕ → List Field → Option (List ℕ)
first_field_value number [] = None
first_field_value number (field ∷ fields) = if field.number == number then Some field.value else first_field_value number fields

-- the number that the digits spell, if they are digits
abbrev pub digits_of : List ℕ → Option ℕ
digits_of value = if is_bcd value then Some (bcd_value value) else None

-- the values of the fields, with a tail from this offset on
abbrev pub status_of_fields : List Field → ℕ → Fields
status_of_fields fields tail = record {
  result = option_map (λ value. slice_index value 0) (first_field_value 0x27 fields);
  amount = option_map bcd_value (first_field_value 0x04 fields);
  trace = option_map bcd_value (first_field_value 0x0B fields);
  receipt = option_and_then digits_of (first_field_value 0x87 fields);
  currency = first_field_value 0x49 fields;
  tail = tail;
}

-- ---- what fields may follow others

-- a number that comes once at most: result, amount, trace number, receipt number
abbrev pub is_single : ℕ → Bool
is_single number = (number == 0x27) || ((number == 0x04) || ((number == 0x0B) || (number == 0x87)))

-- a number that comes once at most comes again
abbrev pub RepeatsField : List Field → ℕ → Type 0
RepeatsField before number = IsTrue (is_single number && has_field number before)

-- an amount or a trace number
abbrev pub HasDigitsField : ℕ → Type 0
HasDigitsField number = (number ≡ 0x04) ⊎ (number ≡ 0x0B)

-- the field may follow those before it: it repeats none that comes once, and an amount or a trace number is in digits
pub record IsWellFormedAfter (before : List Field) (field : Field) : Type 0 where
  pub once : ¬ RepeatsField before field.number
  pub digits : HasDigitsField field.number → IsBcd field.value

-- each of the fields is well-formed after those before it
abbrev pub AreWellFormedFields : List Field → List Field → Type 0
AreWellFormedFields before [] = Unit {0}
AreWellFormedFields before (field ∷ fields) = IsWellFormedAfter before field × AreWellFormedFields (before ++ field ∷ []) fields

-- ---- where reading ends

-- the bytes begin with a known number that may come here, and these follow it
pub record BeginsKnownField (before : List Field) (bytes : List ℕ) (form : LengthForm) (following : List ℕ) : Type 0 where
  pub number : ℕ
  pub known : length_form_of number ≡ Some form
  pub once : ¬ RepeatsField before number
  pub parts : bytes ≡ number ∷ following

-- After well-formed fields, at this offset, the data end, or the tail or the first faulty field begins. Within one field
-- a repetition comes first, then a wrong byte of its length, then its being truncated, then its value.
abbrev pub FieldsEndAt : List Field → List ℕ → ℕ → Result Fields FieldFault → Type 0
FieldsEndAt before rest offset (Ok fields) = IsFieldTail rest × (fields ≡ status_of_fields before offset)
FieldsEndAt before rest offset (Err (Twice number)) = (more : List ℕ) × (rest ≡ number ∷ more) × RepeatsField before number
FieldsEndAt before rest offset (Err (BadLength reported)) = (reported ≡ offset) × (form : LengthForm) × (following : List ℕ) × BeginsKnownField before rest form following × HasWrongFieldLength form following
FieldsEndAt before rest offset (Err (Short reported)) = (reported ≡ offset) × (form : LengthForm) × (following : List ℕ) × BeginsKnownField before rest form following × IsTruncatedFieldValue form following
FieldsEndAt before rest offset (Err (NotDigits reported)) = (reported ≡ offset) × (field : Field) × (more : List ℕ) × BeginsWithField rest field more
    × (¬ RepeatsField before field.number) × HasDigitsField field.number × (¬ IsBcd field.value)

-- the data spell this status, or have this first fault
abbrev pub SpellsStatusOrFault : List ℕ → Result Fields FieldFault → Type 0
SpellsStatusOrFault bytes result = (fields : List Field) × (rest : List ℕ)
    × BeginsWithFields bytes fields rest × AreWellFormedFields [] fields × FieldsEndAt fields rest (length bytes - length rest) result

-- the data are well-formed fields and a tail, and these are their values
abbrev pub SpellsStatus : List ℕ → Fields → Type 0
SpellsStatus bytes fields = SpellsStatusOrFault bytes (Ok fields)

-- the first faulty field of the data has this fault
abbrev pub IsFirstStatusFault : List ℕ → FieldFault → Type 0
IsFirstStatusFault bytes fault = SpellsStatusOrFault bytes (Err fault)
