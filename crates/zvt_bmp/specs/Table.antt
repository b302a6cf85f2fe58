-- The fields of a status, each with the form of its length (this profile's table of ZVT's bitmaps).
use Rattle.std.specs.Prelude.{ℕ, List, [], ◌∷◌, Option, None, Some, ◌==◌, if◌then◌else◌}
use Rattle.zvt_bmp.specs.declared.length_form.LengthForm.{LengthForm}
use Rattle.zvt_bmp.specs.declared.length_form.LengthForm.TheVariants.{Fixed, Llvar, Lllvar, Tlv}

-- a field's number, and the form of its length
pub record FieldRow : Type 0 where
  pub number : ℕ
  pub form : LengthForm

-- one row of the table
abbrev pub field_row : ℕ → LengthForm → FieldRow
field_row number form = record { number = number; form = form }

-- the fields that are known, by their numbers
abbrev pub field_table : List FieldRow
field_table =
    field_row 0x04 (Fixed 6) ∷ field_row 0x06 Tlv ∷ field_row 0x0B (Fixed 3) ∷ field_row 0x0C (Fixed 3) ∷ field_row 0x0D (Fixed 2)
    ∷ field_row 0x0E (Fixed 2) ∷ field_row 0x17 (Fixed 2) ∷ field_row 0x19 (Fixed 1) ∷ field_row 0x22 Llvar ∷ field_row 0x23 Llvar
    ∷ field_row 0x24 Lllvar ∷ field_row 0x27 (Fixed 1) ∷ field_row 0x29 (Fixed 4) ∷ field_row 0x2A (Fixed 15) ∷ field_row 0x2D Llvar
    ∷ field_row 0x2E Lllvar ∷ field_row 0x37 (Fixed 3) ∷ field_row 0x3B (Fixed 8) ∷ field_row 0x3C Lllvar ∷ field_row 0x49 (Fixed 2)
    ∷ field_row 0x60 Lllvar ∷ field_row 0x87 (Fixed 2) ∷ field_row 0x88 (Fixed 3) ∷ field_row 0x8A (Fixed 1) ∷ field_row 0x8B Llvar
    ∷ field_row 0x8C (Fixed 1) ∷ field_row 0x92 Lllvar ∷ field_row 0x9A Lllvar ∷ field_row 0xA0 (Fixed 1) ∷ field_row 0xA7 Llvar
    ∷ field_row 0xAA (Fixed 3) ∷ field_row 0xAF Lllvar ∷ field_row 0xBA (Fixed 5) ∷ []

-- the form of the first row with this number
abbrev pub length_form_in : List FieldRow → ℕ → Option LengthForm
length_form_in [] number = None
length_form_in (r ∷ rows) number = if r.number == number then Some r.form else length_form_in rows number

-- the form of the length of the field with this number; none where the number is not known
abbrev pub length_form_of : ℕ → Option LengthForm
length_form_of number = length_form_in field_table number
