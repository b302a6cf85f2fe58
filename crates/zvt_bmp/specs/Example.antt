-- A closed example: the data of a status with the greatest numbers that its fields hold, and a number that is not known.
use Rattle.std.specs.Prelude.{List, ℕ, [], ◌∷◌, Some}
use Rattle.zvt_bmp.specs.declared.fields.Fields.{Fields}

-- 27 00, 04 and twelve nines, 0B and six, 87 and four, 49 09 78, and E5 with one byte after it
abbrev pub greatest_data : List ℕ
greatest_data =
    0x27 ∷ 0x00 ∷ 0x04 ∷ 0x99 ∷ 0x99 ∷ 0x99 ∷ 0x99 ∷ 0x99 ∷ 0x99 ∷ 0x0B ∷ 0x99 ∷ 0x99 ∷ 0x99 ∷ 0x87 ∷ 0x99 ∷ 0x99
    ∷ 0x49 ∷ 0x09 ∷ 0x78 ∷ 0xE5 ∷ 0x01 ∷ []

-- the values of these fields
abbrev pub greatest_fields : Fields
greatest_fields = record { result = Some 0; amount = Some 999999999999; trace = Some 999999; receipt = Some 9999; currency = Some (0x09 ∷ 0x78 ∷ []); tail = 19 }
