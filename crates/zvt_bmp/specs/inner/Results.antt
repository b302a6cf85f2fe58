-- What the code that reads a field returns, as plain data.
use Rattle.std.specs.Prelude.{◌≡◌, ℕ, List, length, Option, None, Some, Result, Ok, Err}
use Rattle.zvt_bmp.specs.declared.length_form.LengthFault.{LengthFault}
use Rattle.zvt_bmp.specs.declared.fields.FieldFault.{FieldFault}
use Rattle.zvt_bmp.specs.declared.fields.FieldsSoFar.{FieldsSoFar}
use denote.Ref.{Bor}

-- the result is this length, and these bytes after it, or this fault
abbrev pub ReturnsFieldLength : Result (ℕ × Bor (List ℕ)) LengthFault → Result (ℕ × List ℕ) LengthFault → Type 0
ReturnsFieldLength (Ok found) length = length ≡ Ok (found.0, found.1.now)
ReturnsFieldLength (Err fault) length = length ≡ Err fault

-- the result is this value, and these bytes after it, or this fault
abbrev pub ReturnsFieldValue : Result (Bor (List ℕ) × Bor (List ℕ)) LengthFault → Result (List ℕ × List ℕ) LengthFault → Type 0
ReturnsFieldValue (Ok found) value = value ≡ Ok (found.0.now, found.1.now)
ReturnsFieldValue (Err fault) value = value ≡ Err fault

-- the result is what is known after a field, and the bytes after it, or this fault
abbrev pub ReturnsStatusField : FieldsSoFar → FieldsSoFar → Result (Option (Bor (List ℕ))) FieldFault → Result (Option (FieldsSoFar × List ℕ)) FieldFault → Type 0
ReturnsStatusField old new (Ok None) field = (new ≡ old) × (field ≡ Ok None)
ReturnsStatusField old new (Ok (Some rest)) field = field ≡ Ok (Some (new, rest.now))
ReturnsStatusField old new (Err fault) field = field ≡ Err fault
