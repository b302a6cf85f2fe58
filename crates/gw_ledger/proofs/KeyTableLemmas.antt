-- The table of keys: what a search finds in it, and what one more record does to it.
use Rattle.std.proofs.Common.{◌≡◌, ◌∙◌, ℕ, zero, suc, ◌<◌, Bool, true, false, ◌&&◌, not, cond, List, [], ◌∷◌, ◌++◌, length, map, get_or, Option, Some, None, IsSome, is_some, IsTrue, Result, Ok, Err, IfOk, IfErr, slice_get, refl, sym, ap, subst, arith}
use Rattle.std.specs.Prelude.{option_and_then}
use Rattle.std.specs.List.{All, insert}
use Rattle.std.specs.List.Sorted.{IsSearchInRange, IsBinarySearchResult}
use Rattle.std.specs.Cmp.{IsTotalOrder, then_total, on_total}
use Rattle.std.specs.Ordering.{is_eq, ordering_index}
use Rattle.std.proofs.lemmas.Cmp.{nat_list_cmp_total}
use Rattle.std.proofs.lemmas.List.{get_or-map}
use Rattle.std.proofs.lemmas.Option.{same_Some}
use Rattle.gw_base.specs.Key.{key_cmp}
use Rattle.gw_base.specs.declared.key.Key.{Key}
use Rattle.jrn_record.specs.declared.records.Record.{Record}
use Rattle.jrn_record.specs.declared.records.Record.TheVariants.{Intent, Outcome, Settled}
use Rattle.gw_ledger.specs.Blocks.{IsInserted}
use Rattle.gw_ledger.specs.Fold.{fits, fits_beside_key, has_new_key}
use Rattle.gw_ledger.specs.Keys.{intent_key, is_key, key_at, record_key, settled_key, slot_in, slot_of}
use Rattle.gw_ledger.specs.KeyTable.{AreKeyed, AreKeys, HaveTheirKeys, compare_record, key_or_empty, key_rows}
use Rattle.gw_ledger.specs.Table.{IsGapFor, IsRowOf, IsTable, value_at}
use Rattle.gw_ledger.proofs.HistoryLemmas.{history-push}
use Rattle.gw_ledger.proofs.RecordLemmas.{get_last}
use Rattle.gw_ledger.proofs.TableLemmas.{searched, table_insert, value_found, values_insert_row}

pub key_total : IsTotalOrder key_cmp
key_total = then_total (on_total (λ (k : Key). k.sale) nat_list_cmp_total)
    (then_total (on_total (λ (k : Key). k.poi) nat_list_cmp_total) (on_total (λ (k : Key). k.service) nat_list_cmp_total))

-- ---- a search

-- a record that has a key compares by it
compare_is : (the_record : Option Record) (key : Key) → IsSome (option_and_then record_key the_record)
    → compare_record the_record key ≡ key_cmp (key_or_empty (option_and_then record_key the_record)) key
compare_is None key some = cc
compare_is (Some (Intent intent)) key some = refl
compare_is (Some (Outcome outcome)) key some = cc
compare_is (Some (Settled settled)) key some = refl

-- a slot with its key
abbrev pub key_row : List Record → ℕ → Key × ℕ
key_row records slot = (key_or_empty (key_at records slot), slot)

length_mapped : {X Y : Type 0} (f : X → Y) (xs : List X) → length (map f xs) ≡ length xs
length_mapped f [] = refl
length_mapped f (x ∷ xs) = ap suc (length_mapped f xs)

module _ (records : List Record) (slots : List ℕ) (keyed : AreKeyed records slots) (key : Key) where
  same : (i d : ℕ) (e : Key × ℕ) → i < length slots
      → key_cmp (get_or (key_rows records slots) i e).0 key ≡ compare_record (slice_get records (get_or slots i d)) key
  same i d e lt = ap (λ (row : Key × ℕ). key_cmp row.0 key) (get_or-map (key_row records) slots i d e lt)
      ∙ sym (compare_is (slice_get records (get_or slots i d)) key (keyed i d lt))

  len_rows : length (key_rows records slots) ≡ length slots
  len_rows = length_mapped (key_row records) slots

  -- a search among the slots is one among the rows
  by_rows : (r : Result ℕ ℕ) → IsSearchInRange r (length slots) → IsBinarySearchResult (λ slot. compare_record (slice_get records slot) key) slots r
      → IsBinarySearchResult (λ (row : Key × ℕ). key_cmp row.0 key) (key_rows records slots) r
  by_rows (Ok at) inside found = λ e. same at 0 e inside ∙ found 0
  by_rows (Err at) inside parted = λ rise.
      let len : length (key_rows records slots) ≡ length slots = len_rows in
      let parts = parted (λ i j d le lt.
      let e = key_row records d in
      omega (arith, ap ordering_index (same i d e (omega arith)), ap ordering_index (same j d e lt), rise i j e le (omega (arith, len)))) in (
        λ k e low lt. same k 0 e (omega (arith, inside)) ∙ parts.0 k 0 low lt,
        λ k e low lt. same k 0 e (omega (arith, len)) ∙ parts.1 k 0 low (omega (arith, len)),
      )

  pub searched_slots : IsTable key_cmp (key_rows records slots) → (r : Result ℕ ℕ) → IsSearchInRange r (length slots)
      → IsBinarySearchResult (λ slot. compare_record (slice_get records slot) key) slots r
      → IfOk r (IsRowOf key_cmp (key_rows records slots) key) × IfErr r (IsGapFor key_cmp (key_rows records slots) key)
  searched_slots sorted r inside found =
      searched key_total (key_rows records slots) sorted key r (subst (IsSearchInRange r) (sym (len_rows)) inside) (by_rows r inside found)

-- the slot of a row that is found
pub found_slot : (records : List Record) (slots : List ℕ) (key : Key) → IsTable key_cmp (key_rows records slots) → (at : ℕ) → IsRowOf key_cmp (key_rows records slots) key at
    → (d : ℕ) → value_at key_cmp (key_rows records slots) key ≡ Some (get_or slots at d)
found_slot records slots key table at row d =
    let inside : at < length slots = omega (arith, row.inside, length_mapped (key_row records) slots) in
    value_found key_total (key_rows records slots) table key at row (key_row records d) ∙ ap (λ (r : Key × ℕ). Some r.1) (get_or-map (key_row records) slots at d (key_row records d) inside)

-- ---- one more record

-- the key at a slot that has one stays
pub key_stays : (records more : List Record) (slot : ℕ) → IsSome (key_at records slot) → key_at (records ++ more) slot ≡ key_at records slot
key_stays [] more slot some = cc
key_stays (first ∷ records) more zero some = refl
key_stays (first ∷ records) more (suc slot) some = key_stays records more slot some

keyed_tail : (records : List Record) (slot : ℕ) (slots : List ℕ) → AreKeyed records (slot ∷ slots) → AreKeyed records slots
keyed_tail records slot slots keyed i d lt = keyed (suc i) d (omega arith)

pub rows_stay : (records more : List Record) (slots : List ℕ) → AreKeyed records slots → key_rows (records ++ more) slots ≡ key_rows records slots
rows_stay records more [] keyed = refl
rows_stay records more (slot ∷ slots) keyed =
    rw (key_stays records more slot (keyed 0 0 (omega arith)), rows_stay records more slots (keyed_tail records slot slots keyed)) refl

pub keyed_stays : (records more : List Record) (slots : List ℕ) → AreKeyed records slots → AreKeyed (records ++ more) slots
keyed_stays records more slots keyed i d lt = subst IsSome (sym (key_stays records more (get_or slots i d) (keyed i d lt))) (keyed i d lt)

-- the rows whose keys are those of the records stay so
pub their_keys_stay : (records more : List Record) (rows : List (Key × ℕ)) → HaveTheirKeys records rows → HaveTheirKeys (records ++ more) rows
their_keys_stay records more rows keys i d lt =
    key_stays records more (get_or rows i d).1 (subst IsSome (sym (keys i d lt)) refl) ∙ keys i d lt

pub map-insert : {X Y : Type 0} (f : X → Y) (xs : List X) (i : ℕ) (x : X) → map f (insert xs i x) ≡ insert (map f xs) i (f x)
map-insert f xs zero x = refl
map-insert f [] (suc i) x = refl
map-insert f (y ∷ xs) (suc i) x = ap (λ rest. f y ∷ rest) (map-insert f xs i x)

All-first : {X : Type 0} (P : X → Type 0) (xs : List X) (x : X) → P x → All P xs → All P (x ∷ xs)
All-first P xs x here all zero d lt = here
All-first P xs x here all (suc k) d lt = all k d (omega arith)

pub All-insert : {X : Type 0} (P : X → Type 0) (xs : List X) (i : ℕ) (x : X) → P x → All P xs → All P (insert xs i x)
All-insert P xs zero x here all = All-first P xs x here all
All-insert P [] (suc i) x here all = All-first P [] x here all
All-insert P (y ∷ xs) (suc i) x here all =
    All-first P (insert xs i x) y (all 0 y (omega arith)) (All-insert P xs i x here (λ j e inside. all (suc j) e (omega arith)))

pub slot_push : (records : List Record) (the_record : Record) (key : Key)
    → slot_of (records ++ the_record ∷ []) key ≡ cond (is_key key (record_key the_record)) (Some (length records)) (slot_of records key)
slot_push records the_record key = ap (slot_in key) (history-push records the_record)

pub key_last : (records : List Record) (the_record : Record) → key_at (records ++ the_record ∷ []) (length records) ≡ record_key the_record
key_last records the_record = ap (option_and_then record_key) (get_last records the_record)

-- one more record without a key
pub keys_without : (records : List Record) (the_record : Record) (slots : List ℕ) → record_key the_record ≡ None → AreKeys records slots → AreKeys (records ++ the_record ∷ []) slots
keys_without records the_record slots none keys = record {
  table = subst (IsTable key_cmp) (sym (rows_stay records (the_record ∷ []) slots keys.keyed)) keys.table;
  keyed = keyed_stays records (the_record ∷ []) slots keys.keyed;
  values = λ key.
      ap (λ rows. value_at key_cmp rows key) (rows_stay records (the_record ∷ []) slots keys.keyed) ∙ keys.values key
      ∙ sym (slot_push records the_record key ∙ ap (λ own. cond (is_key key own) (Some (length records)) (slot_of records key)) none);
}

module _ (records : List Record) (the_record : Record) (slots : List ℕ) (at : ℕ) (key : Key) (own : record_key the_record ≡ Some key) (keys : AreKeys records slots) where
  rows_push : key_rows (records ++ the_record ∷ []) (insert slots at (length records)) ≡ insert (key_rows records slots) at (key, length records)
  rows_push =
      map-insert (key_row (records ++ the_record ∷ [])) slots at (length records)
      ∙ rw (rows_stay records (the_record ∷ []) slots keys.keyed, key_last records the_record, own) refl

  -- one more record with a key, whose slot comes at the gap
  pub keys_push : IsGapFor key_cmp (key_rows records slots) key at → AreKeys (records ++ the_record ∷ []) (insert slots at (length records))
  keys_push gap = record {
    table = subst (IsTable key_cmp) (sym rows_push) (table_insert key_total (key_rows records slots) key at gap keys.table (length records));
    keyed = All-insert (λ slot. IsSome (key_at (records ++ the_record ∷ []) slot)) slots at (length records)
        (subst IsSome (sym (key_last records the_record ∙ own)) refl) (keyed_stays records (the_record ∷ []) slots keys.keyed);
    values = λ q.
        ap (λ rows. value_at key_cmp rows q) rows_push
        ∙ values_insert_row key_total (key_rows records slots) key at gap (length records) q
        ∙ ap (λ old. cond (is_eq (key_cmp q key)) (Some (length records)) old) (keys.values q)
        ∙ sym (slot_push records the_record q ∙ ap (λ mine. cond (is_key q mine) (Some (length records)) (slot_of records q)) own);
  }

-- one more record with a key, whose slot was inserted
pub keys_inserted : (records : List Record) (the_record : Record) (slots : List ℕ) (key : Key) → record_key the_record ≡ Some key → AreKeys records slots
    → (slot : ℕ) → slot ≡ length records → (more : List ℕ) → IsInserted (records ++ the_record ∷ []) slots key slot more → AreKeys (records ++ the_record ∷ []) more
keys_inserted records the_record slots key own keys slot last more placed =
    rw (placed.inserted, last) (keys_push records the_record slots placed.at key own keys
    (subst (λ rows. IsGapFor key_cmp rows key placed.at) (rows_stay records (the_record ∷ []) slots keys.keyed) placed.gap))

-- the table is one of the records with one more
pub table_stays : (records more : List Record) (slots : List ℕ) → AreKeys records slots → IsTable key_cmp (key_rows (records ++ more) slots)
table_stays records more slots keys = subst (IsTable key_cmp) (sym (rows_stay records more slots keys.keyed)) keys.table

-- ---- a new key

none_from : (slot : Option ℕ) → IsTrue (not (is_some slot)) → slot ≡ None
none_from None unknown = refl
none_from (Some slot) unknown = cc

first_part : (a b : Bool) → IsTrue (a && b) → IsTrue a
first_part true b both = refl
first_part false b both = cc

new_slot : (records : List Record) (the_record : Record) (key : Key) → record_key the_record ≡ Some key → IsTrue (has_new_key records the_record) → slot_of records key ≡ None
new_slot records (Intent intent) key own unknown = subst (λ k. slot_of records k ≡ None) (same_Some (intent_key intent) key own) (none_from (slot_of records (intent_key intent)) unknown)
new_slot records (Outcome outcome) key own unknown = cc
new_slot records (Settled settled) key own unknown = subst (λ k. slot_of records k ≡ None) (same_Some (settled_key settled) key own) (none_from (slot_of records (settled_key settled)) unknown)

-- a record that fits has a key that the table lacks, also once the record is added
pub new_value : (records : List Record) (the_record : Record) (slots : List ℕ) (key : Key) → record_key the_record ≡ Some key → IsTrue (fits records the_record) → AreKeys records slots
    → value_at key_cmp (key_rows (records ++ the_record ∷ []) slots) key ≡ None
new_value records the_record slots key own fitting keys =
    ap (λ rows. value_at key_cmp rows key) (rows_stay records (the_record ∷ []) slots keys.keyed) ∙ keys.values key ∙ new_slot records the_record key own (first_part (has_new_key records the_record) (fits_beside_key records the_record) fitting)
