-- Inner: a table is rows of a key and a value, sorted by the key.
use Rattle.std.specs.Prelude.{◌≡◌, ℕ, ◌<◌, ◌≤◌, List, length, slice_index_or, Option}
use Rattle.std.specs.Map.{lookup}
use Rattle.std.specs.BTreeMap.{is_at}
use Rattle.std.specs.declared.cmp.Ordering.{Ordering}
use Rattle.std.specs.declared.cmp.Ordering.TheVariants.{Less, Equal, Greater}

-- the value of the row that has the key
abbrev pub value_at : {K V : Type 0} → (K → K → Ordering) → List (K × V) → K → Option V
value_at cmp rows key = lookup (is_at (cmp key)) rows

-- each key is below those after it
unfoldable pub IsTable : {K V : Type 0} → (K → K → Ordering) → List (K × V) → Type 0
IsTable {K} {V} cmp rows = (i j : ℕ) (d : K × V) → i < j → j < length rows
    → cmp (slice_index_or rows i d).0 (slice_index_or rows j d).0 ≡ Less

-- the row at this index has the key
pub record IsRowOf {K V : Type 0} (cmp : K → K → Ordering) (rows : List (K × V)) (key : K) (at : ℕ) : Type 0 where
  pub inside : at < length rows
  pub equal : (d : K × V) → cmp (slice_index_or rows at d).0 key ≡ Equal

-- no row has the key, which would come at this index
pub record IsGapFor {K V : Type 0} (cmp : K → K → Ordering) (rows : List (K × V)) (key : K) (at : ℕ) : Type 0 where
  pub inside : at ≤ length rows
  pub below : (i : ℕ) (d : K × V) → i < at → cmp (slice_index_or rows i d).0 key ≡ Less
  pub above : (i : ℕ) (d : K × V) → at ≤ i → i < length rows → cmp (slice_index_or rows i d).0 key ≡ Greater
