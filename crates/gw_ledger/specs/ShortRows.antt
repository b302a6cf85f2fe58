-- Inner: the keys of the records in short rows, beside a table of their tills and terminals.
use Rattle.std.specs.Prelude.{◌≡◌, ℕ, ◌<◌, Bool, if◌then◌else◌, List, [], map, length, slice_index_or, Option, Some, IsSome}
use Rattle.std.specs.List.{All}
use Rattle.std.specs.Ordering.{is_lt, nat_cmp, ordering_then}
use Rattle.std.specs.Cmp.Lexicographic.{slice_cmp}
use Rattle.gw_base.specs.declared.key.Key.{Key}
use Rattle.jrn_record.specs.declared.records.Intent.{Intent as TheIntent}
use Rattle.jrn_record.specs.declared.records.Settled.{Settled as TheSettled}
use Rattle.jrn_record.specs.declared.records.Record.{Record}
use Rattle.gw_ledger.specs.declared.sorted.ShortRow.{ShortRow}
use Rattle.gw_ledger.specs.Keys.{key_at}
use Rattle.gw_ledger.specs.KeyTable.{lesser_of}
use Rattle.gw_ledger.specs.Slots.{intent_at, settled_at}
use Rattle.gw_ledger.specs.Table.{IsTable, value_at}
use Rattle.gw_ledger.specs.Tables.{pair_cmp}

-- tills and terminals, each with a slot
abbrev pub Pairs : Type 0
Pairs = List ((List ℕ × List ℕ) × ℕ)

-- the table has this till and terminal
abbrev pub HasPair : Pairs → List ℕ → List ℕ → Type 0
HasPair pairs sale poi = IsSome (value_at pair_cmp pairs (sale, poi))

-- the till and the terminal at an index, two empty texts past the end
abbrev pub pair_at : Pairs → ℕ → List ℕ × List ℕ
pair_at pairs at = (slice_index_or pairs at (([], []), 0)).0

-- the key of a short row, with its slot
abbrev pub full_row : Pairs → ShortRow → Key × ℕ
full_row pairs row = (record { sale = (pair_at pairs row.pair).0; poi = (pair_at pairs row.pair).1; service = row.service }, row.slot)

-- the keys of short rows, each with its slot
abbrev pub full_rows : Pairs → List ShortRow → List (Key × ℕ)
full_rows pairs rows = map (full_row pairs) rows

-- the table has the till and the terminal of each row
abbrev pub HavePairs : Pairs → List ShortRow → Type 0
HavePairs pairs rows = All (λ row. row.pair < length pairs) rows

-- tills and terminals are a table, which has those of each row
pub record AreShort (pairs : Pairs) (rows : List ShortRow) : Type 0 where
  pub table : IsTable pair_cmp pairs
  pub inside : HavePairs pairs rows

-- a table has the till and the terminal of each key
pub record ArePairsOf (records : List Record) (pairs : Pairs) : Type 0 where
  pub table : IsTable pair_cmp pairs
  pub complete : (slot : ℕ) (key : Key) → key_at records slot ≡ Some key → HasPair pairs key.sale key.poi

-- a table has the till and the terminal of each Intent, and of each Settled below this slot
pub record ArePairsBelow (records : List Record) (below : ℕ) (pairs : Pairs) : Type 0 where
  pub table : IsTable pair_cmp pairs
  pub asked : (slot : ℕ) (intent : TheIntent) → intent_at records slot ≡ Some intent → HasPair pairs intent.sale intent.poi
  pub closed : (slot : ℕ) (settled : TheSettled) → slot < below → settled_at records slot ≡ Some settled → HasPair pairs settled.sale settled.poi

-- the key of a short row is below that of another of the same table
abbrev pub is_below : ShortRow → ShortRow → Bool
is_below before row = is_lt (ordering_then (nat_cmp before.pair row.pair) (slice_cmp nat_cmp before.service row.service))

-- the least slot so far, with one more row after that before it
abbrev pub least_of : Option ℕ → ShortRow → ShortRow → Option ℕ
least_of least before row = if is_below before row then least else Some (lesser_of least row.slot)
