-- How many bytes the value of a field has.
use Rattle.std.specs.Prelude.{◌≡◌, ℕ, List, length, Option, None, Some}
use Rattle.zvt_bmp.specs.declared.length_form.LengthForm.{LengthForm}
use Rattle.zvt_bmp.specs.declared.length_form.LengthForm.TheVariants.{Fixed, Llvar, Lllvar, Tlv}
use Rattle.zvt_bmp.specs.Table.{length_form_of}

-- the size of a value that a fixed form says; any size where the form says none
abbrev pub HasFormSize : Option LengthForm → ℕ → Type 0
HasFormSize None size = Unit {0}
HasFormSize (Some (Fixed fixed)) size = size ≡ fixed
HasFormSize (Some Llvar) size = Unit {0}
HasFormSize (Some Lllvar) size = Unit {0}
HasFormSize (Some Tlv) size = Unit {0}

-- the value has the size that its field's form says, where that says one
abbrev pub HasFieldSize : ℕ → List ℕ → Type 0
HasFieldSize number value = HasFormSize (length_form_of number) (length value)
