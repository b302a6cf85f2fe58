-- The status that bytes spell, field after field, as functions that compute it.
use Rattle.std.specs.Prelude.{ℕ, zero, suc, ◌+◌, ◌-◌, ◌*◌, List, [], ◌∷◌, length, take, drop, slice_index, Option, None, Some, is_some, Result, Ok, Err, Bool, true, false, ◌&&◌, nat_lt, nat_le, ◌==◌, if◌then◌else◌}
use Rattle.gw_base.specs.Bcd.{bcd_value, is_bcd}
use Rattle.zvt_tlv.specs.Decode.{decode_tlv_length}
use Rattle.zvt_bmp.specs.declared.length_form.LengthForm.{LengthForm}
use Rattle.zvt_bmp.specs.declared.length_form.LengthForm.TheVariants.{Fixed, Llvar, Lllvar, Tlv}
use Rattle.zvt_bmp.specs.declared.length_form.LengthFault.{LengthFault}
use Rattle.zvt_bmp.specs.declared.length_form.LengthFault.TheVariants.{Wrong, Truncated}
use Rattle.zvt_bmp.specs.declared.fields.Fields.{Fields}
use Rattle.zvt_bmp.specs.declared.fields.FieldFault.{FieldFault}
use Rattle.zvt_bmp.specs.declared.fields.FieldFault.TheVariants.{Short, BadLength, NotDigits, Twice}
use Rattle.zvt_bmp.specs.declared.fields.FieldsSoFar.{FieldsSoFar}
use Rattle.zvt_bmp.specs.Table.{length_form_of}

-- ---- a length, and the bytes after it

-- a byte F0 to F9
abbrev pub is_length_digit : ℕ → Bool
is_length_digit b = nat_le 240 b && nat_le b 249

-- the digit in a byte F0 to F9
abbrev pub length_digit : ℕ → Option ℕ
length_digit b = if is_length_digit b then Some (b - 240) else None

-- the length in two such bytes, the tens first; a wrong byte is reported before a missing one
abbrev pub decode_llvar : List ℕ → Result (ℕ × List ℕ) LengthFault
decode_llvar [] = Err Truncated
decode_llvar (tens ∷ []) = if is_length_digit tens then Err Truncated else Err Wrong
decode_llvar (tens ∷ units ∷ bytes) =
    if is_length_digit tens then (if is_length_digit units then Ok (10 * (tens - 240) + (units - 240), bytes) else Err Wrong)
    else Err Wrong

-- a digit of hundreds before a length of two digits
abbrev pub with_hundreds_digit : ℕ → Result (ℕ × List ℕ) LengthFault → Result (ℕ × List ℕ) LengthFault
with_hundreds_digit hundreds (Ok found) = Ok (100 * (hundreds - 240) + found.0, found.1)
with_hundreds_digit hundreds (Err fault) = Err fault

-- the length in three such bytes, the hundreds first
abbrev pub decode_lllvar : List ℕ → Result (ℕ × List ℕ) LengthFault
decode_lllvar [] = Err Truncated
decode_lllvar (hundreds ∷ bytes) = if is_length_digit hundreds then with_hundreds_digit hundreds (decode_llvar bytes) else Err Wrong

-- why the bytes begin with no length of a TLV object
abbrev pub tlv_length_fault : List ℕ → LengthFault
tlv_length_fault [] = Truncated
tlv_length_fault (b ∷ bytes) = if b == 128 then Wrong else if nat_lt 130 b then Wrong else Truncated

-- the length of a TLV object, or why there is none
abbrev pub tlv_length_or_fault : List ℕ → Option (ℕ × List ℕ) → Result (ℕ × List ℕ) LengthFault
tlv_length_or_fault bytes (Some found) = Ok found
tlv_length_or_fault bytes None = Err (tlv_length_fault bytes)

-- the length that the bytes begin with, by its form
abbrev pub decode_field_length : LengthForm → List ℕ → Result (ℕ × List ℕ) LengthFault
decode_field_length (Fixed size) bytes = Ok (size, bytes)
decode_field_length Llvar bytes = decode_llvar bytes
decode_field_length Lllvar bytes = decode_lllvar bytes
decode_field_length Tlv bytes = tlv_length_or_fault bytes (decode_tlv_length bytes)

-- ---- a value, and the bytes after it

-- after a length that was read, a value of that length
abbrev pub decode_after_field_length : Result (ℕ × List ℕ) LengthFault → Result (List ℕ × List ℕ) LengthFault
decode_after_field_length (Err fault) = Err fault
decode_after_field_length (Ok found) = if nat_lt (length found.1) found.0 then Err Truncated else Ok (take found.0 found.1, drop found.0 found.1)

-- the value that the bytes begin with after its length, by the length's form, and the bytes after it
unfoldable pub decode_field_value : LengthForm → List ℕ → Result (List ℕ × List ℕ) LengthFault
decode_field_value form bytes = decode_after_field_length (decode_field_length form bytes)

-- ---- what a field adds to those before it

-- a field of this number was read, and may not come again
abbrev pub may_not_repeat : FieldsSoFar → ℕ → Bool
may_not_repeat so_far number =
    if number == 0x27 then is_some so_far.fields.result
    else if number == 0x04 then is_some so_far.fields.amount
    else if number == 0x0B then is_some so_far.fields.trace
    else if number == 0x87 then so_far.receipt
    else false

-- the first currency counts
abbrev pub first_currency : Option (List ℕ) → List ℕ → Option (List ℕ)
first_currency None value = Some value
first_currency (Some currency) value = Some currency

-- the value is added; none where it should be in digits and isn't
abbrev pub put_field : FieldsSoFar → ℕ → List ℕ → Option FieldsSoFar
put_field so_far number value =
    if number == 0x27 then Some (record so_far { fields = record so_far.fields { result = Some (slice_index value 0) } })
    else if number == 0x04 then (if is_bcd value then Some (record so_far { fields = record so_far.fields { amount = Some (bcd_value value) } }) else None)
    else if number == 0x0B then (if is_bcd value then Some (record so_far { fields = record so_far.fields { trace = Some (bcd_value value) } }) else None)
    else if number == 0x87 then Some (record so_far { receipt = true; fields = record so_far.fields { receipt = if is_bcd value then Some (bcd_value value) else so_far.fields.receipt } })
    else if number == 0x49 then Some (record so_far { fields = record so_far.fields { currency = first_currency so_far.fields.currency value } })
    else Some so_far

-- ---- one field, and all

-- after a value that was added, or that should be in digits and isn't
abbrev pub after_put_field : ℕ → List ℕ → Option FieldsSoFar → Result (Option (FieldsSoFar × List ℕ)) FieldFault
after_put_field offset rest None = Err (NotDigits offset)
after_put_field offset rest (Some so_far) = Ok (Some (so_far, rest))

-- after a value that was read, or the fault of its length
abbrev pub after_field_value : FieldsSoFar → ℕ → ℕ → Result (List ℕ × List ℕ) LengthFault → Result (Option (FieldsSoFar × List ℕ)) FieldFault
after_field_value so_far offset number (Err Wrong) = Err (BadLength offset)
after_field_value so_far offset number (Err Truncated) = Err (Short offset)
after_field_value so_far offset number (Ok found) = after_put_field offset found.1 (put_field so_far number found.0)

-- after a number, by its form: none where the number is not known
abbrev pub after_field_number : FieldsSoFar → ℕ → ℕ → List ℕ → Option LengthForm → Result (Option (FieldsSoFar × List ℕ)) FieldFault
after_field_number so_far offset number bytes None = Ok None
after_field_number so_far offset number bytes (Some form) =
    if may_not_repeat so_far number then Err (Twice number) else after_field_value so_far offset number (decode_field_value form bytes)

-- the field at this offset: what is known with it, and the bytes after it; none where the tail begins
unfoldable pub decode_status_field : FieldsSoFar → ℕ → List ℕ → Result (Option (FieldsSoFar × List ℕ)) FieldFault
decode_status_field so_far offset [] = Ok None
decode_status_field so_far offset (number ∷ bytes) = after_field_number so_far offset number bytes (length_form_of number)

-- all that is known, with the tail at this offset
abbrev pub with_tail : FieldsSoFar → ℕ → Fields
with_tail so_far offset = record so_far.fields { tail = offset }

-- with the first field, what more gives for the bytes after it
abbrev pub decode_status_from : (FieldsSoFar → List ℕ → Result Fields FieldFault) → FieldsSoFar → ℕ → Result (Option (FieldsSoFar × List ℕ)) FieldFault → Result Fields FieldFault
decode_status_from more so_far offset (Err fault) = Err fault
decode_status_from more so_far offset (Ok None) = Ok (with_tail so_far offset)
decode_status_from more so_far offset (Ok (Some found)) = more found.0 found.1

-- at most so many fields, in data of this length
unfoldable pub decode_status_within : ℕ → ℕ → FieldsSoFar → List ℕ → Result Fields FieldFault
decode_status_within zero whole so_far bytes = Ok (with_tail so_far (whole - length bytes))
decode_status_within (suc n) whole so_far bytes = decode_status_from (decode_status_within n whole) so_far (whole - length bytes) (decode_status_field so_far (whole - length bytes) bytes)

-- what is known before the first field
abbrev pub no_fields_yet : FieldsSoFar
no_fields_yet = record { fields = record { result = None; amount = None; trace = None; receipt = None; currency = None; tail = 0 }; receipt = false }

-- all of them: there are no more than bytes
unfoldable pub decode_status : List ℕ → Result Fields FieldFault
decode_status bytes = decode_status_within (length bytes) (length bytes) no_fields_yet bytes
