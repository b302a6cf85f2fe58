-- Inner: the table of keys, which has the slots of the records that have one, sorted by it.
use Rattle.std.specs.Prelude.{◌≡◌, ℕ, ◌+◌, ◌<◌, ◌≤◌, ◌==◌, min, Bool, true, false, if◌then◌else◌, List, [], ◌∷◌, ◌++◌, map, length, slice_index_or, Option, Some, None, IsSome}
use Rattle.std.specs.List.{All, Contains, IsDistinct}
use Rattle.std.specs.Ordering.{is_lt, nat_cmp, ordering_then}
use Rattle.std.specs.declared.cmp.Ordering.{Ordering}
use Rattle.std.specs.declared.cmp.Ordering.TheVariants.{Less}
use Rattle.gw_base.specs.Key.{key_cmp}
use Rattle.gw_base.specs.declared.key.Key.{Key}
use Rattle.jrn_record.specs.declared.records.Record.{Record}
use Rattle.jrn_record.specs.declared.records.Record.TheVariants.{Intent, Outcome, Settled}
use Rattle.gw_ledger.specs.Keys.{intent_key, key_at, settled_key, slot_of}
use Rattle.gw_ledger.specs.Table.{IsTable, value_at}

-- a key, or an empty one where there is none
abbrev pub key_or_empty : Option Key → Key
key_or_empty None = record { sale = []; poi = []; service = [] }
key_or_empty (Some key) = key

-- the slots, each with its key
abbrev pub key_rows : List Record → List ℕ → List (Key × ℕ)
key_rows records slots = map (λ slot. (key_or_empty (key_at records slot), slot)) slots

-- how the key of a record compares with another; no key is below each
abbrev pub compare_record : Option Record → Key → Ordering
compare_record None key = Less
compare_record (Some (Intent intent)) key = key_cmp (intent_key intent) key
compare_record (Some (Outcome outcome)) key = Less
compare_record (Some (Settled settled)) key = key_cmp (settled_key settled) key

-- each of the slots has a key
abbrev pub AreKeyed : List Record → List ℕ → Type 0
AreKeyed records slots = All (λ slot. IsSome (key_at records slot)) slots

-- the key of each row is that of the record at its slot
abbrev pub HaveTheirKeys : List Record → List (Key × ℕ) → Type 0
HaveTheirKeys records rows = All (λ row. key_at records row.1 ≡ Some row.0) rows

-- the table of keys agrees with the records
pub record AreKeys (records : List Record) (slots : List ℕ) : Type 0 where
  pub table : IsTable key_cmp (key_rows records slots)
  pub keyed : AreKeyed records slots
  pub values : (key : Key) → value_at key_cmp (key_rows records slots) key ≡ slot_of records key

-- the rows are the keys of the records, each with its slot, in some order
pub record AreRowsOf (records : List Record) (rows : List (Key × ℕ)) : Type 0 where
  pub sound : HaveTheirKeys records rows
  pub complete : (slot : ℕ) (key : Key) → key_at records slot ≡ Some key → Contains rows (key, slot)

-- two rows have the same slot
abbrev pub same_slot : Key × ℕ → Key × ℕ → Bool
same_slot a b = a.1 == b.1

-- the rows are the keys of the records, each with its slot, in some order, and no two have the same slot
pub record AreKeyRows (records : List Record) (rows : List (Key × ℕ)) : Type 0 where
  pub rows_are : AreRowsOf records rows
  pub apart : IsDistinct same_slot rows

-- the rows are the keys of the records below this slot, each with its slot, in their order
pub record AreRowsBelow (records : List Record) (below : ℕ) (rows : List (Key × ℕ)) : Type 0 where
  pub sound : HaveTheirKeys records rows
  pub complete : (slot : ℕ) (key : Key) → slot < below → key_at records slot ≡ Some key → Contains rows (key, slot)
  pub lower : All (λ row. row.1 < below) rows
  pub rising : (i j : ℕ) (d : Key × ℕ) → i < j → j < length rows → (slice_index_or rows i d).1 < (slice_index_or rows j d).1

-- the order of rows: by key, and then by slot
abbrev pub row_cmp : Key × ℕ → Key × ℕ → Ordering
row_cmp a b = ordering_then (key_cmp a.0 b.0) (nat_cmp a.1 b.1)

-- the slots of rows
abbrev pub slots_in : List (Key × ℕ) → List ℕ
slots_in rows = map (λ row. row.1) rows

-- the key of the row after this index isn't above that of the row at it
abbrev pub FallsAt : List (Key × ℕ) → ℕ → Type 0
FallsAt rows i = (d : Key × ℕ) → is_lt (key_cmp (slice_index_or rows i d).0 (slice_index_or rows (i + 1) d).0) ≡ false

-- of the rows before this index, the slot is the least of one whose key isn't above that of the row before it
pub record IsLeastFallTo (rows : List (Key × ℕ)) (to slot : ℕ) : Type 0 where
  pub at : ℕ
  pub inside : at + 1 < length rows
  pub falls : FallsAt rows at
  pub slot_is : (d : Key × ℕ) → (slice_index_or rows (at + 1) d).1 ≡ slot
  pub least : (i : ℕ) (d : Key × ℕ) → i + 1 < to → i + 1 < length rows → FallsAt rows i → slot ≤ (slice_index_or rows (i + 1) d).1

-- of all rows
abbrev pub IsLeastFall : List (Key × ℕ) → ℕ → Type 0
IsLeastFall rows slot = IsLeastFallTo rows (length rows) slot

-- each key before this index is below the next
abbrev pub RiseTo : List (Key × ℕ) → ℕ → Type 0
RiseTo rows to = (i : ℕ) (d : Key × ℕ) → i + 1 < to → i + 1 < length rows → is_lt (key_cmp (slice_index_or rows i d).0 (slice_index_or rows (i + 1) d).0) ≡ true

-- the lesser of a slot and the least so far
abbrev pub lesser_of : Option ℕ → ℕ → ℕ
lesser_of None slot = slot
lesser_of (Some least) slot = min least slot

-- the least so far, with one more row after that before it
abbrev pub least_with : Option ℕ → Key × ℕ → Key × ℕ → Option ℕ
least_with least before row = if is_lt (key_cmp before.0 row.0) then least else Some (lesser_of least row.1)

-- the rows with one more, where there is a key
abbrev pub rows_with : List (Key × ℕ) → Option Key → ℕ → List (Key × ℕ)
rows_with rows None slot = rows
rows_with rows (Some key) slot = rows ++ (key, slot) ∷ []
