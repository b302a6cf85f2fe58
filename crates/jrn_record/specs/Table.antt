-- The offsets and sizes of the fields of a body.
use Rattle.std.specs.Prelude.{◌≡◌, ℕ, suc, zero, ◌<◌, ◌==◌, if◌then◌else◌, List, [], ◌∷◌, length, map, take, drop, slice_index}
use Rattle.jrn_record.specs.Limits.{IsRecord}
use Rattle.jrn_record.specs.Grammar.{record_fields}
use Rattle.jrn_record.specs.declared.records.Record.{Record}
use Rattle.jrn_record.specs.declared.records.Record.TheVariants.{Intent, Outcome, Settled}

-- a field's offset in a body, and its size
pub record FieldRange : Type 0 where
  pub offset : ℕ
  pub size : ℕ

-- the field at this offset, of this size
abbrev pub field : ℕ → ℕ → FieldRange
field offset size = record { offset = offset; size = size }

-- `01`, what, sale, poi, service, transaction, stamp, amount, currency, before, original, moment, unused
abbrev pub intent_table : List FieldRange
intent_table =
    field 0 1 ∷ field 1 1 ∷ field 2 41 ∷ field 43 41 ∷ field 84 11 ∷ field 95 81 ∷ field 176 36 ∷ field 212 6
    ∷ field 218 2 ∷ field 220 3 ∷ field 223 4 ∷ field 227 8 ∷ field 235 20 ∷ []

-- `02`, approved, slot, number, receipt, amount, condition, moment, unused
abbrev pub outcome_table : List FieldRange
outcome_table =
    field 0 1 ∷ field 1 1 ∷ field 2 4 ∷ field 6 3 ∷ field 9 2 ∷ field 11 6 ∷ field 17 1 ∷ field 18 8 ∷ field 26 229 ∷ []

-- `03`, how, sale, poi, service, currency, moment, unused
abbrev pub settled_table : List FieldRange
settled_table =
    field 0 1 ∷ field 1 1 ∷ field 2 41 ∷ field 43 41 ∷ field 84 11 ∷ field 95 2 ∷ field 97 8 ∷ field 105 150 ∷ []

-- the table of a record's kind
abbrev pub table_of : Record → List FieldRange
table_of (Intent _) = intent_table
table_of (Outcome _) = outcome_table
table_of (Settled _) = settled_table

-- the bytes of a body at a field
abbrev pub body_field : List ℕ → FieldRange → List ℕ
body_field body there = take there.size (drop there.offset body)

-- the table of the kind that a body's first byte says; a body of no kind is looked at as an Intent
abbrev pub table_at : List ℕ → List FieldRange
table_at body =
    if slice_index body 0 == 2 then outcome_table
    else (if slice_index body 0 == 3 then settled_table else intent_table)

-- a record and a body agree on their first fields, so many of them
abbrev pub Agree : ℕ → List (List ℕ) → List FieldRange → List ℕ → Type 0
Agree zero spelled table body = Unit {0}
Agree (suc count) [] table body = ⊥
Agree (suc count) (field ∷ spelled) [] body = ⊥
Agree (suc count) (field ∷ spelled) (there ∷ table) body = (field ≡ body_field body there) × Agree count spelled table body

-- the offset of the first field that no record spells: some record agrees with the body on the fields
-- before it, and none on these and the one at the offset
pub record IsFirstRecordFault (table : List FieldRange) (body : List ℕ) (reported : ℕ) : Type 0 where
  pub count : ℕ
  pub inside : count < length table
  pub offset : reported ≡ slice_index (map (λ there. there.offset) table) count
  pub spelled_before : (the_record : Record) × IsRecord the_record × Agree count (record_fields the_record) table body
  pub not_spelled : (the_record : Record) → IsRecord the_record → Agree (suc count) (record_fields the_record) table body → ⊥
