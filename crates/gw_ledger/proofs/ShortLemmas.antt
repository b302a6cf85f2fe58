-- Short rows: a table that has each till and terminal, and rows that compare as the keys with their slots do.
use Rattle.std.proofs.Common.{◌≡◌, ◌∙◌, ℕ, ◌+◌, ◌<◌, ◌≤◌, Bool, true, false, ◌&&◌, cond, List, [], ◌∷◌, ◌++◌, length, map, get_or, Option, Some, None, IsSome, refl, sym, ap, subst, arith, inl, inr}
use Rattle.std.specs.Prelude.{IfSome, IsSorted, MatchOption, option_and_then, slice_get}
use Rattle.std.specs.Cmp.{IsTotalOrder, nat_cmp_is, on_total, then_total}
use Rattle.std.specs.Cmp.Lexicographic.{slice_cmp}
use Rattle.std.specs.List.Sorted.{IsPermutation}
use Rattle.std.specs.Ordering.{is_eq, is_lt, nat_cmp, ordering_reverse, ordering_then}
use Rattle.std.specs.declared.cmp.Ordering.{Ordering}
use Rattle.std.specs.declared.cmp.Ordering.TheVariants.{Less, Equal, Greater}
use Rattle.std.proofs.lemmas.Bool.{cases_lt}
use Rattle.std.proofs.lemmas.Cmp.{nat_list_cmp_total, tied_itself}
use Rattle.std.proofs.lemmas.List.{get_or-map, length-map, map-append}
use Rattle.std.proofs.lemmas.List.Sorted.{All-permutation, IsPermutation-map}
use Rattle.std.proofs.lemmas.Option.{same_Some}
use Rattle.gw_base.specs.Key.{key_cmp}
use Rattle.gw_base.specs.declared.key.Key.{Key}
use Rattle.gw_base.proofs.KeyLemmas.{slice_cmp-ties}
use Rattle.jrn_record.specs.declared.records.Intent.{Intent as TheIntent}
use Rattle.jrn_record.specs.declared.records.Settled.{Settled as TheSettled}
use Rattle.jrn_record.specs.declared.records.Record.{Record}
use Rattle.jrn_record.specs.declared.records.Record.TheVariants.{Intent, Outcome, Settled}
use Rattle.gw_ledger.specs.declared.sorted.ShortRow.{ShortRow}
use Rattle.gw_ledger.specs.Keys.{intent_key, is_asked_by, key_at, last_slot, record_key, settled_key}
use Rattle.gw_ledger.specs.KeyTable.{AreKeyRows, IsLeastFall, least_with, lesser_of, row_cmp, rows_with, slots_in}
use Rattle.gw_ledger.specs.History.{same_text}
use Rattle.gw_ledger.specs.ShortRows.{ArePairsBelow, ArePairsOf, HasPair, HavePairs, Pairs, least_of, pair_at, full_row, full_rows}
use Rattle.gw_ledger.specs.Slots.{as_intent, as_settled, intent_at, settled_at}
use Rattle.gw_ledger.specs.Table.{IsGapFor, IsRowOf, IsTable, value_at}
use Rattle.gw_ledger.specs.Tables.{pair_cmp}
use Rattle.gw_ledger.proofs.FirstBadLemmas.{IsLeastSoFar, least_all, least_step}
use Rattle.gw_ledger.proofs.HistoryLemmas.{history-push}
use Rattle.gw_ledger.proofs.RecordLemmas.{intent_push}
use Rattle.gw_ledger.proofs.SortedLemmas.{key_inside, one_by_one, rows_moved}
use Rattle.gw_ledger.proofs.TableLemmas.{none_has_value, value_absent}
use Rattle.gw_ledger.proofs.TieLemmas.{same_text-itself}

pub pair_total : IsTotalOrder pair_cmp
pair_total = then_total (on_total (λ (p : List ℕ × List ℕ). p.0) nat_list_cmp_total) (on_total (λ (p : List ℕ × List ℕ). p.1) nat_list_cmp_total)

-- ---- the till and the terminal of each key

-- each Intent's till has a last Intent at its terminal
abbrev HasLast : List Record → Type 0
HasLast records = (slot : ℕ) (intent : TheIntent) → intent_at records slot ≡ Some intent → IsSome (last_slot records intent.sale intent.poi)

some_then : (b : Bool) (slot : ℕ) (older : Option ℕ) → IsSome older → IsSome (cond b (Some slot) older)
some_then true slot older some = refl
some_then false slot older some = some

some_first : (b : Bool) (slot : ℕ) (older : Option ℕ) → b ≡ true → IsSome (cond b (Some slot) older)
some_first true slot older is = refl
some_first false slot older is = cc

asked_itself : (the_record : Record) (intent : TheIntent) → as_intent the_record ≡ Some intent → is_asked_by intent.sale intent.poi the_record ≡ true
asked_itself (Intent other) intent is =
    subst (λ (o : TheIntent). (same_text intent.sale o.sale && same_text intent.poi o.poi) ≡ true) (sym (same_Some other intent is))
    (rw (same_text-itself intent.sale, same_text-itself intent.poi) refl)
asked_itself (Outcome outcome) intent is = cc
asked_itself (Settled settled) intent is = cc

has_last_step : (before : List Record) (the_record : Record) → HasLast before → HasLast (before ++ the_record ∷ [])
has_last_step before the_record has slot intent found = rw (history-push before the_record) (elim (intent_push before the_record slot intent found) [
  | inl earlier ↦ some_then (is_asked_by intent.sale intent.poi the_record) (length before) (last_slot before intent.sale intent.poi) (has slot intent earlier.1)
  | inr last ↦ some_first (is_asked_by intent.sale intent.poi the_record) (length before) (last_slot before intent.sale intent.poi) (asked_itself the_record intent last.1)
])

none_has_last : HasLast []
none_has_last slot intent found = cc

has_last : (records : List Record) → HasLast records
has_last = one_by_one HasLast has_last_step none_has_last

pub pairs_none : (records : List Record) (pairs : Pairs) → IsTable pair_cmp pairs → ((sale poi : List ℕ) → value_at pair_cmp pairs (sale, poi) ≡ last_slot records sale poi)
    → ArePairsBelow records 0 pairs
pairs_none records pairs table are = record {
  table = table;
  asked = λ slot intent found. subst IsSome (sym (are intent.sale intent.poi)) (has_last records slot intent found);
  closed = λ slot settled lt found. absurd (omega arith);
}

-- a table with one more till and terminal
module _ (old more : Pairs) (pair : List ℕ × List ℕ) (slot : ℕ)
    (values : (q : List ℕ × List ℕ) → value_at pair_cmp more q ≡ cond (is_eq (pair_cmp q pair)) (Some slot) (value_at pair_cmp old q)) where
  pub pair_kept : (sale poi : List ℕ) → HasPair old sale poi → HasPair more sale poi
  pair_kept sale poi has =
      subst IsSome (sym (values (sale, poi))) (some_then (is_eq (pair_cmp (sale, poi) pair)) slot (value_at pair_cmp old (sale, poi)) has)

  pub pair_own : HasPair more pair.0 pair.1
  pair_own = subst IsSome (sym (values pair)) (some_first (is_eq (pair_cmp pair pair)) slot (value_at pair_cmp old pair) (ap is_eq (tied_itself pair_total pair)))

-- one more slot
pub pairs_next : (records : List Record) (slot : ℕ) (pairs more : Pairs) (own : Option TheSettled) → own ≡ settled_at records slot → ArePairsBelow records slot pairs
    → IsTable pair_cmp more → ((sale poi : List ℕ) → HasPair pairs sale poi → HasPair more sale poi) → IfSome own (λ settled. HasPair more settled.sale settled.poi)
    → ArePairsBelow records (slot + 1) more
pairs_next records slot pairs more own is below table kept has = record {
  table = table;
  asked = λ s intent found. kept intent.sale intent.poi (below.asked s intent found);
  closed = λ s settled lt found. elim (cases_lt s slot) [
    | inl earlier ↦ kept settled.sale settled.poi (below.closed s settled earlier found)
    | inr here ↦
        let same : s ≡ slot = omega arith in
        of_settled own settled (is ∙ ap (settled_at records) (sym same) ∙ found) has
  ];
}
  where
    of_settled : (own : Option TheSettled) (settled : TheSettled) → own ≡ Some settled → IfSome own (λ settled. HasPair more settled.sale settled.poi) → HasPair more settled.sale settled.poi
    of_settled None settled same has = cc
    of_settled (Some other) settled same has = subst (λ o. IfSome o (λ settled. HasPair more settled.sale settled.poi)) same has

pub pairs_all : (records : List Record) (to : ℕ) (pairs : Pairs) → length records ≤ to → ArePairsBelow records to pairs → ArePairsOf records pairs
pairs_all records to pairs le below = record {
  table = below.table;
  complete = λ slot key found. by_record slot key (key_inside records slot key found) (slice_get records slot) refl found;
}
  where
    like : (key own : Key) → Some own ≡ Some key → HasPair pairs own.sale own.poi → HasPair pairs key.sale key.poi
    like key own same has = subst (λ (k : Key). HasPair pairs k.sale k.poi) (same_Some own key same) has

    by_record : (slot : ℕ) (key : Key) → slot < length records → (found : Option Record) → slice_get records slot ≡ found → option_and_then record_key found ≡ Some key
        → HasPair pairs key.sale key.poi
    by_record slot key lt None is own = cc
    by_record slot key lt (Some (Intent intent)) is own = like key (intent_key intent) own (below.asked slot intent (ap (option_and_then as_intent) is))
    by_record slot key lt (Some (Outcome outcome)) is own = cc
    by_record slot key lt (Some (Settled settled)) is own =
        like key (settled_key settled) own (below.closed slot settled (omega (arith, lt, le)) (ap (option_and_then as_settled) is))

-- the table has the till and the terminal of a slot's key, where it has one
pub own_pair : (records : List Record) (pairs : Pairs) (slot : ℕ) (own : Option Key) → own ≡ key_at records slot → ArePairsOf records pairs
    → IfSome own (λ key. HasPair pairs key.sale key.poi)
own_pair records pairs slot None is all = tt
own_pair records pairs slot (Some key) is all = all.complete slot key (sym is)

-- ---- rows compare as the keys with their slots do

then_assoc : (a b c : Ordering) → ordering_then (ordering_then a b) c ≡ ordering_then a (ordering_then b c)
then_assoc Less b c = refl
then_assoc Equal b c = refl
then_assoc Greater b c = refl

module _ (pairs : Pairs) (table : IsTable pair_cmp pairs) where
  -- tills and terminals compare as their indices do
  pairs_compare : (i j : ℕ) → i < length pairs → j < length pairs → pair_cmp (pair_at pairs i) (pair_at pairs j) ≡ nat_cmp i j
  unfolding IsTable
  pairs_compare i j first second = elim (cases_lt i j) [
    | inl below ↦ table i j (([], []), 0) below second ∙ nat_cmp_is i j Less below
    | inr above ↦ elim (cases_lt j i) [
      | inl below ↦
          pair_total.antisymm (pair_at pairs i) (pair_at pairs j) ∙ ap ordering_reverse (table j i (([], []), 0) below first) ∙ nat_cmp_is i j Greater below
      | inr level ↦
          let same : i ≡ j = omega arith in
          ap (λ k. pair_cmp (pair_at pairs k) (pair_at pairs j)) same ∙ tied_itself pair_total (pair_at pairs j) ∙ nat_cmp_is i j Equal same
    ]
  ]

  module _ (a b : ShortRow) (first : a.pair < length pairs) (second : b.pair < length pairs) where
    pub keys_compare : key_cmp (full_row pairs a).0 (full_row pairs b).0 ≡ ordering_then (nat_cmp a.pair b.pair) (slice_cmp nat_cmp a.service b.service)
    keys_compare =
        sym (then_assoc (slice_cmp nat_cmp (pair_at pairs a.pair).0 (pair_at pairs b.pair).0) (slice_cmp nat_cmp (pair_at pairs a.pair).1 (pair_at pairs b.pair).1) (slice_cmp nat_cmp a.service b.service))
        ∙ ap (λ o. ordering_then o (slice_cmp nat_cmp a.service b.service)) (pairs_compare a.pair b.pair first second)

    rows_compare : row_cmp (full_row pairs a) (full_row pairs b) ≡ ordering_then (nat_cmp a.pair b.pair) (ordering_then (slice_cmp nat_cmp a.service b.service) (nat_cmp a.slot b.slot))
    rows_compare =
        ap (λ o. ordering_then o (nat_cmp a.slot b.slot)) keys_compare
        ∙ then_assoc (nat_cmp a.pair b.pair) (slice_cmp nat_cmp a.service b.service) (nat_cmp a.slot b.slot)

    pub least_same : (least : Option ℕ) → least_of least a b ≡ least_with least (full_row pairs a) (full_row pairs b)
    least_same least = ap (λ o. cond (is_lt o) least (Some (lesser_of least b.slot))) (sym keys_compare)

  -- rows in the order of short rows
  pub rows_sorted : (rows : List ShortRow) → HavePairs pairs rows
      → IsSorted (λ (a b : ShortRow). ordering_then (nat_cmp a.pair b.pair) (ordering_then (slice_cmp nat_cmp a.service b.service) (nat_cmp a.slot b.slot))) rows
      → IsSorted row_cmp (full_rows pairs rows)
  rows_sorted rows inside sorted k d low lt =
      let len : length (full_rows pairs rows) ≡ length rows = length-map rows (full_row pairs) in
      let e : ShortRow = record { pair = 0; service = []; slot = 0 } in
      let lt' : k + 1 < length rows = omega (arith, len, lt) in
      let earlier : get_or (full_rows pairs rows) k d ≡ full_row pairs (get_or rows k e) = get_or-map (full_row pairs) rows k e d (omega (arith, lt')) in
      let later : get_or (full_rows pairs rows) (k + 1) d ≡ full_row pairs (get_or rows (k + 1) e) = get_or-map (full_row pairs) rows (k + 1) e d lt' in
      rw (earlier, later, rows_compare (get_or rows (k + 1) e) (get_or rows k e) (inside (k + 1) e lt') (inside k e (omega (arith, lt')))) (sorted k e low lt')

-- ---- the rows of all records

pub short_row_is : (pairs : Pairs) (key : Key) (slot at : ℕ) → IsRowOf pair_cmp pairs (key.sale, key.poi) at
    → ◌≡◌ {A = Key × ℕ} (full_row pairs (record { pair = at; service = key.service; slot = slot })) (key, slot)
short_row_is pairs key slot at row =
    let tie : pair_cmp (pair_at pairs at) (key.sale, key.poi) ≡ Equal = row.equal (([], []), 0) in
    let sale = (slice_cmp-ties (pair_at pairs at).0 key.sale).0 (first_ties (slice_cmp nat_cmp (pair_at pairs at).0 key.sale) (slice_cmp nat_cmp (pair_at pairs at).1 key.poi) tie) in
    let poi = (slice_cmp-ties (pair_at pairs at).1 key.poi).0 (second_ties (slice_cmp nat_cmp (pair_at pairs at).0 key.sale) (slice_cmp nat_cmp (pair_at pairs at).1 key.poi) tie) in
    λ i. (record { sale = sale i; poi = poi i; service = key.service }, slot)
  where
    first_ties : (o p : Ordering) → ordering_then o p ≡ Equal → o ≡ Equal
    first_ties Less p tie = tie
    first_ties Equal p tie = refl
    first_ties Greater p tie = tie

    second_ties : (o p : Ordering) → ordering_then o p ≡ Equal → p ≡ Equal
    second_ties Less p tie = cc
    second_ties Equal p tie = tie
    second_ties Greater p tie = cc

pub pair_missing : (pairs : Pairs) (sale poi : List ℕ) (at : ℕ) → IsGapFor pair_cmp pairs (sale, poi) at → HasPair pairs sale poi → ⊥
pair_missing pairs sale poi at gap has = none_has_value (value_at pair_cmp pairs (sale, poi)) (value_absent pair_total pairs (sale, poi) at gap) has

pub rows_push : (pairs : Pairs) (rows : List ShortRow) (row : ShortRow) (key : Key) (slot : ℕ) → ◌≡◌ {A = Key × ℕ} (full_row pairs row) (key, slot)
    → full_rows pairs (rows ++ row ∷ []) ≡ rows_with (full_rows pairs rows) (Some key) slot
rows_push pairs rows row key slot is = map-append (full_row pairs) rows (row ∷ []) ∙ ap (λ r. full_rows pairs rows ++ r ∷ []) is

-- ---- sorted rows

pub short_moved : (records : List Record) (pairs : Pairs) (rows sorted : List ShortRow) → IsPermutation rows sorted → AreKeyRows records (full_rows pairs rows) → AreKeyRows records (full_rows pairs sorted)
short_moved records pairs rows sorted moved all =
    rows_moved records (full_rows pairs rows) (full_rows pairs sorted) (IsPermutation-map (full_row pairs) rows sorted moved) all

pub inside_moved : (pairs : Pairs) (rows sorted : List ShortRow) → IsPermutation rows sorted → HavePairs pairs rows → HavePairs pairs sorted
inside_moved pairs rows sorted moved inside = All-permutation (λ row. row.pair < length pairs) rows sorted moved inside

pub short_slots : (pairs : Pairs) (rows : List ShortRow) → map (λ (row : ShortRow). row.slot) rows ≡ slots_in (full_rows pairs rows)
short_slots pairs [] = refl
short_slots pairs (row ∷ rows) = ap (λ slots. row.slot ∷ slots) (short_slots pairs rows)

-- one more row, after that before it
pub fall_step : (pairs : Pairs) (rows : List ShortRow) (before row : ShortRow) (to at : ℕ) → IsTable pair_cmp pairs → HavePairs pairs rows
    → to + 1 ≡ at → at < length rows → get_or rows to before ≡ before → get_or rows at row ≡ row
    → (least : Option ℕ) → IsLeastSoFar (full_rows pairs rows) at least → IsLeastSoFar (full_rows pairs rows) (at + 1) (least_of least before row)
fall_step pairs rows before row to at table inside next lt first second least so_far =
    subst (IsLeastSoFar (full_rows pairs rows) (at + 1)) (sym (least_same pairs table before row (within to before (omega (arith, next)) first) (within at row lt second) least))
    (least_step (full_rows pairs rows) (full_row pairs before) (full_row pairs row) to at next (omega (arith, length-map rows (full_row pairs)))
    (get_or-map (full_row pairs) rows to before (full_row pairs before) (omega (arith, next)) ∙ ap (full_row pairs) first)
    (get_or-map (full_row pairs) rows at row (full_row pairs row) lt ∙ ap (full_row pairs) second) least so_far)
  where
    within : (i : ℕ) (r : ShortRow) → i < length rows → get_or rows i r ≡ r → r.pair < length pairs
    within i r lt is = subst (λ (r : ShortRow). r.pair < length pairs) is (inside i r lt)

pub fall_all : (pairs : Pairs) (rows : List ShortRow) (to : ℕ) (least : Option ℕ) → length rows ≤ to → IsLeastSoFar (full_rows pairs rows) to least
    → MatchOption least (IsTable key_cmp (full_rows pairs rows)) (IsLeastFall (full_rows pairs rows))
fall_all pairs rows to least le so_far = least_all (full_rows pairs rows) to least (omega (arith, length-map rows (full_row pairs))) so_far
