-- Keys that are sorted once: where each is below the next, the slots are the table of keys, and each key was new.
use Rattle.std.proofs.Common.{◌≡◌, ◌∙◌, ℕ, zero, suc, ◌+◌, ◌-◌, ◌<◌, ◌≤◌, Bool, true, false, ◌&&◌, cond, not, List, [], ◌∷◌, ◌++◌, length, map, get_or, Option, Some, None, IsSome, is_some, IsTrue, refl, sym, ap, subst, arith, ◌⊎◌, inl, inr, append_assoc}
use Rattle.std.specs.List.{All, Contains}
use Rattle.std.specs.List.Sorted.{IsPermutation}
use Rattle.std.specs.Ordering.{is_eq, is_lt}
use Rattle.std.specs.declared.cmp.Ordering.{Ordering}
use Rattle.std.specs.declared.cmp.Ordering.TheVariants.{Less, Equal, Greater}
use Rattle.std.proofs.lemmas.Bool.{cases_lt, ne_eqb}
use Rattle.std.proofs.lemmas.Bool.Decides.{nat_tests}
use Rattle.std.proofs.lemmas.Cmp.{tied_itself}
use Rattle.std.proofs.lemmas.List.{append-nil, get_or-map, get_or_default, length-append, length-map}
use Rattle.std.proofs.lemmas.List.Elements.{All-push, Contains-append_left, Contains-append_right}
use Rattle.std.proofs.lemmas.List.Sorted.{All-permutation, Contains-permutation}
use Rattle.std.proofs.lemmas.Map.Keys.{IsDistinct-IsPermutation, IsDistinct-from_apart}
use Rattle.std.proofs.lemmas.Option.{same_Some}
use Rattle.std.proofs.Math.ListN.{get_or-append}
use Rattle.std.proofs.Math.Seq.{get_or-append_seam}
use Rattle.gw_base.specs.Key.{key_cmp}
use Rattle.gw_base.specs.declared.key.Key.{Key}
use Rattle.gw_base.proofs.KeyLemmas.{key_cmp-ties}
use Rattle.jrn_record.specs.declared.records.Record.{Record}
use Rattle.jrn_record.specs.declared.records.Record.TheVariants.{Intent, Outcome, Settled}
use Rattle.gw_ledger.specs.Fold.{AreFolded, AreFoldedBesideKeys, Fit, FitBy, fits_beside_key, has_new_key, is_unknown}
use Rattle.gw_ledger.specs.History.{history}
use Rattle.gw_ledger.specs.Keys.{intent_key, is_key, key_at, record_key, settled_key, slot_of}
use Rattle.gw_ledger.specs.KeyTable.{AreKeyRows, AreKeys, AreRowsBelow, AreRowsOf, RiseTo, key_rows, rows_with, same_slot, slots_in}
use Rattle.gw_ledger.specs.Table.{IsRowOf, IsTable, value_at}
use Rattle.gw_ledger.proofs.KeyTableLemmas.{key_last, key_stays, key_total, slot_push}
use Rattle.gw_ledger.proofs.TableLemmas.{absent, value_found}
use Rattle.gw_ledger.proofs.TieLemmas.{is_equal}

-- what holds of no records, and stays with each more, holds of all
module _ (P : List Record → Type 0) (step : (before : List Record) (the_record : Record) → P before → P (before ++ the_record ∷ [])) where
  go : (before rest : List Record) → P before → P (before ++ rest)
  go before [] holds = rw (append-nil before) holds
  go before (the_record ∷ rest) holds = rw (← append_assoc before (the_record ∷ []) rest) (go (before ++ the_record ∷ []) rest (step before the_record holds))

  pub one_by_one : P [] → (records : List Record) → P records
  one_by_one none records = go [] records none

is_less : (o : Ordering) → is_lt o ≡ true → o ≡ Less
is_less Less e = refl
is_less Equal e = cc
is_less Greater e = cc

is_key-is : (key : Key) (own : Option Key) → is_key key own ≡ true → own ≡ Some key
is_key-is key None tie = cc
is_key-is key (Some other) tie = ap Some (sym ((key_cmp-ties key other).0 (is_equal (key_cmp key other) tie)))

is_key-itself : (key : Key) (own : Option Key) → own ≡ Some key → is_key key own ≡ true
is_key-itself key own same = ap (is_key key) same ∙ ap is_eq (tied_itself key_total key)

-- a key at one more record is that of an earlier one, or its own
key_push : (records : List Record) (the_record : Record) (slot : ℕ) (key : Key) → key_at (records ++ the_record ∷ []) slot ≡ Some key
    → (key_at records slot ≡ Some key) ⊎ (record_key the_record ≡ Some key)
key_push [] the_record zero key found = inr found
key_push [] the_record (suc slot) key found = cc
key_push (first ∷ records) the_record zero key found = inl found
key_push (first ∷ records) the_record (suc slot) key found = key_push records the_record slot key found

pub key_inside : (records : List Record) (slot : ℕ) (key : Key) → key_at records slot ≡ Some key → slot < length records
key_inside [] slot key found = cc
key_inside (first ∷ records) zero key found = omega arith
key_inside (first ∷ records) (suc slot) key found = omega (arith, key_inside records slot key found)

pub is_some-of : (own : Option Key) (key : Key) → own ≡ Some key → IsSome own
is_some-of own key same = subst IsSome (sym same) refl

-- the slot of a key has it
abbrev SlotHasKey : List Record → Type 0
SlotHasKey records = (key : Key) (slot : ℕ) → slot_of records key ≡ Some slot → key_at records slot ≡ Some key

has_step : (before : List Record) (the_record : Record) → SlotHasKey before → SlotHasKey (before ++ the_record ∷ [])
has_step before the_record has key slot found = by_test (is_key key (record_key the_record)) refl (sym (slot_push before the_record key) ∙ found)
  where
    by_test : (b : Bool) → is_key key (record_key the_record) ≡ b → cond b (Some (length before)) (slot_of before key) ≡ Some slot
        → key_at (before ++ the_record ∷ []) slot ≡ Some key
    by_test true tie here =
        subst (λ s. key_at (before ++ the_record ∷ []) s ≡ Some key) (same_Some (length before) slot here) (key_last before the_record ∙ is_key-is key (record_key the_record) tie)
    by_test false tie here = let earlier = has key slot here in key_stays before (the_record ∷ []) slot (is_some-of (key_at before slot) key earlier) ∙ earlier

none_has : SlotHasKey []
unfolding history
none_has key slot found = cc

pub slot_has_key : (records : List Record) → SlotHasKey records
slot_has_key = one_by_one SlotHasKey has_step none_has

-- a key without a slot is at none
abbrev pub NoneHasKey : List Record → Type 0
NoneHasKey records = (key : Key) → slot_of records key ≡ None → (slot : ℕ) → key_at records slot ≡ Some key → ⊥

lacks_step : (before : List Record) (the_record : Record) → NoneHasKey before → NoneHasKey (before ++ the_record ∷ [])
lacks_step before the_record lacks key unknown slot found = by_test (is_key key (record_key the_record)) refl (sym (slot_push before the_record key) ∙ unknown)
  where
    by_test : (b : Bool) → is_key key (record_key the_record) ≡ b → cond b (Some (length before)) (slot_of before key) ≡ None → ⊥
    by_test true tie none = cc
    by_test false tie none = elim (key_push before the_record slot key found) [
      | inl earlier ↦ lacks key none slot earlier
      | inr own ↦ let clash : true ≡ false = sym (is_key-itself key (record_key the_record) own) ∙ tie in absurd (cc)
    ]

none_lacks : NoneHasKey []
none_lacks key unknown slot found = cc

pub none_has_key : (records : List Record) → NoneHasKey records
none_has_key = one_by_one NoneHasKey lacks_step none_lacks

-- no two slots have one key
abbrev pub OneSlotEach : List Record → Type 0
OneSlotEach records = (key : Key) (a b : ℕ) → key_at records a ≡ Some key → key_at records b ≡ Some key → a < b → ⊥

module _ (records : List Record) (one_slot : OneSlotEach records) where
  -- a record's key is new where it comes
  new_key : (before rest : List Record) (the_record : Record) → (before ++ the_record ∷ []) ++ rest ≡ records → (key : Key) → record_key the_record ≡ Some key
      → IsTrue (is_unknown before key)
  new_key before rest the_record whole key own = by_slot (slot_of before key) refl
    where
      at_end : key_at records (length before) ≡ Some key
      at_end =
          let last : key_at (before ++ the_record ∷ []) (length before) ≡ Some key = key_last before the_record ∙ own in
          ap (λ r. key_at r (length before)) (sym whole) ∙ key_stays (before ++ the_record ∷ []) rest (length before) (is_some-of (key_at (before ++ the_record ∷ []) (length before)) key last) ∙ last

      by_slot : (found : Option ℕ) → slot_of before key ≡ found → IsTrue (not (is_some found))
      by_slot None unknown = refl
      by_slot (Some slot) found =
          let earlier = slot_has_key before key slot found in
          let pushed : key_at (before ++ the_record ∷ []) slot ≡ Some key = key_stays before (the_record ∷ []) slot (is_some-of (key_at before slot) key earlier) ∙ earlier in
          let at_slot : key_at records slot ≡ Some key =
          ap (λ r. key_at r slot) (sym whole) ∙ key_stays (before ++ the_record ∷ []) rest slot (is_some-of (key_at (before ++ the_record ∷ []) slot) key pushed) ∙ pushed in
          absurd (one_slot key slot (length before) at_slot at_end (key_inside before slot key earlier))

  new_record : (before rest : List Record) (the_record : Record) → (before ++ the_record ∷ []) ++ rest ≡ records → IsTrue (has_new_key before the_record)
  new_record before rest (Intent intent) whole = new_key before rest (Intent intent) whole (intent_key intent) refl
  new_record before rest (Outcome outcome) whole = refl
  new_record before rest (Settled settled) whole = new_key before rest (Settled settled) whole (settled_key settled) refl

  both_true : (a b : Bool) → IsTrue a → IsTrue b → IsTrue (a && b)
  both_true true b first second = second
  both_true false b first second = cc

  fit_with_keys : (before rest : List Record) → before ++ rest ≡ records → FitBy fits_beside_key before rest → Fit before rest
  fit_with_keys before [] whole fit = tt
  fit_with_keys before (the_record ∷ rest) whole fit =
      let whole' : (before ++ the_record ∷ []) ++ rest ≡ records = append_assoc before (the_record ∷ []) rest ∙ whole in (
        both_true (has_new_key before the_record) (fits_beside_key before the_record) (new_record before rest the_record whole') fit.0,
        fit_with_keys (before ++ the_record ∷ []) rest whole' fit.1,
      )

  pub folded_with_keys : AreFoldedBesideKeys records → AreFolded records
  folded_with_keys beside = record { within = beside.within; fit = fit_with_keys [] records refl beside.fit }

module _ (records : List Record) (rows : List (Key × ℕ)) (table : IsTable key_cmp rows) (all : AreRowsOf records rows) where
  read_row : (k : ℕ) (d row : Key × ℕ) → k < length rows → get_or rows k row ≡ row → get_or rows k d ≡ row
  read_row k d row lt here = get_or_default rows k d row lt ∙ here

  -- two rows of one key have one slot
  pub one_slot : (key : Key) (a b : ℕ) → key_at records a ≡ Some key → key_at records b ≡ Some key → a < b → ⊥
  unfolding IsTable
  one_slot key a b at_a at_b lt =
      let here = all.complete a key at_a in
      let there = all.complete b key at_b in
      elim (cases_lt here.0 there.0) [
        | inl below ↦ tied here.0 there.0 (key, a) (key, b) below there.1 (read_row here.0 (key, a) (key, a) here.1 here.2) (read_row there.0 (key, a) (key, b) there.1 there.2) refl
        | inr above ↦ elim (cases_lt there.0 here.0) [
          | inl below ↦ tied there.0 here.0 (key, b) (key, a) below here.1 (read_row there.0 (key, b) (key, b) there.1 there.2) (read_row here.0 (key, b) (key, a) here.1 here.2) refl
          | inr level ↦
              let same : here.0 ≡ there.0 = omega arith in
              let rows_same : ◌≡◌ {A = Key × ℕ} (key, a) (key, b) = sym (read_row here.0 (key, a) (key, a) here.1 here.2) ∙ ap (λ k. get_or rows k (key, a)) same ∙ read_row there.0 (key, a) (key, b) there.1 there.2 in
              let clash : a ≡ b = ap (λ (row : Key × ℕ). row.1) rows_same in
              omega (arith, clash)
        ]
      ]
    where
      tied : (i j : ℕ) (first second : Key × ℕ) → i < j → j < length rows → get_or rows i first ≡ first → get_or rows j first ≡ second → first.0 ≡ second.0 → ⊥
      tied i j first second lt inside at_i at_j same =
          let less : key_cmp first.0 first.0 ≡ Less = ap (λ (row : Key × ℕ). key_cmp row.0 first.0) (sym at_i) ∙ ap (λ k. key_cmp (get_or rows i first).0 k) (same ∙ ap (λ (row : Key × ℕ). row.0) (sym at_j)) ∙ table i j first lt inside in
          let clash : Less ≡ Equal = sym less ∙ tied_itself key_total first.0 in
          cc

  -- a key's row has its slot
  value_of : (q : Key) (found : Option ℕ) → slot_of records q ≡ found → value_at key_cmp rows q ≡ found
  value_of q None unknown = absent key_total rows q (λ i d lt inside. apart i d inside (is_eq (key_cmp q (get_or rows i d).0)) refl)
    where
      apart : (i : ℕ) (d : Key × ℕ) → i < length rows → (b : Bool) → is_eq (key_cmp q (get_or rows i d).0) ≡ b → is_eq (key_cmp q (get_or rows i d).0) ≡ false
      apart i d inside false tie = tie
      apart i d inside true tie =
          let same : q ≡ (get_or rows i d).0 = (key_cmp-ties q (get_or rows i d).0).0 (is_equal (key_cmp q (get_or rows i d).0) tie) in
          absurd (none_has_key records q unknown (get_or rows i d).1 (all.sound i d inside ∙ ap Some (sym same)))
  value_of q (Some slot) found =
      let here = all.complete slot q (slot_has_key records q slot found) in
      let read = λ (d : Key × ℕ). read_row here.0 d (q, slot) here.1 here.2 in
      let row : IsRowOf key_cmp rows q here.0 = record {
        inside = here.1;
        equal = λ d. ap (λ (row : Key × ℕ). key_cmp row.0 q) (read d) ∙ tied_itself key_total q;
      } in
      value_found key_total rows table q here.0 row (q, slot) ∙ ap (λ (row : Key × ℕ). Some row.1) (read (q, slot))

-- the slots of sound rows have these rows
pub rows_again : (records : List Record) (rows : List (Key × ℕ)) → All (λ (row : Key × ℕ). key_at records row.1 ≡ Some row.0) rows
    → key_rows records (map (λ (row : Key × ℕ). row.1) rows) ≡ rows
rows_again records [] sound = refl
rows_again records (row ∷ rows) sound =
    rw (sound 0 row (omega arith), rows_again records rows (λ i d lt. sound (suc i) d (omega arith))) refl

module _ (records : List Record) (rows : List (Key × ℕ)) (table : IsTable key_cmp rows) (all : AreRowsOf records rows) where
  again : key_rows records (slots_in rows) ≡ rows
  again = rows_again records rows all.sound

  keyed : (i d : ℕ) → i < length (slots_in rows) → IsSome (key_at records (get_or (slots_in rows) i d))
  keyed i d lt =
      let row : Key × ℕ = (record { sale = []; poi = []; service = [] }, d) in
      let inside : i < length rows = omega (arith, length-map rows (λ (row : Key × ℕ). row.1)) in
      subst (λ s. IsSome (key_at records s)) (sym (get_or-map (λ (row : Key × ℕ). row.1) rows i row d inside)) (is_some-of (key_at records (get_or rows i row).1) (get_or rows i row).0 (all.sound i row inside))

  pub keys_from_rows : AreKeys records (slots_in rows)
  keys_from_rows = record {
    table = subst (IsTable key_cmp) (sym again) table;
    keyed = keyed;
    values = λ key. ap (λ r. value_at key_cmp r key) again ∙ value_of records rows table all key (slot_of records key) refl;
  }

  pub folded_from_rows : AreFoldedBesideKeys records → AreFolded records
  folded_from_rows = folded_with_keys records (one_slot records rows table all)

-- ---- the rows of all records

rising_push : (rows : List (Key × ℕ)) (row : Key × ℕ) → All (λ (r : Key × ℕ). r.1 < row.1) rows
    → ((i j : ℕ) (d : Key × ℕ) → i < j → j < length rows → (get_or rows i d).1 < (get_or rows j d).1)
    → (i j : ℕ) (d : Key × ℕ) → i < j → j < length (rows ++ row ∷ []) → (get_or (rows ++ row ∷ []) i d).1 < (get_or (rows ++ row ∷ []) j d).1
rising_push rows row lower rising i j d lt inside = elim (cases_lt j (length rows)) [
  | inl before ↦ rw (get_or-append rows (row ∷ []) d i (omega arith), get_or-append rows (row ∷ []) d j before) (rising i j d lt before)
  | inr last ↦
      let len : length (rows ++ row ∷ []) ≡ length rows + 1 = length-append rows (row ∷ []) in
      let here : j ≡ length rows = omega (arith, len) in
      let earlier : i < length rows = omega arith in
      rw (get_or-append rows (row ∷ []) d i earlier, here, get_or-append_seam rows row [] d) (lower i d earlier)
]

pub rows_more : (records : List Record) (rows : List (Key × ℕ)) (slot : ℕ) (key : Key) → key_at records slot ≡ Some key → AreRowsBelow records slot rows
    → AreRowsBelow records (slot + 1) (rows ++ (key, slot) ∷ [])
rows_more records rows slot key own below = record {
  sound = All-push (λ (row : Key × ℕ). key_at records row.1 ≡ Some row.0) rows (key, slot) below.sound own;
  complete = λ s k lt at. elim (cases_lt s slot) [
    | inl earlier ↦ Contains-append_left rows ((key, slot) ∷ []) (k, s) (below.complete s k earlier at)
    | inr here ↦
        let same : s ≡ slot = omega arith in
        let same_key : key ≡ k = same_Some key k (sym own ∙ ap (key_at records) (sym same) ∙ at) in
        subst (Contains (rows ++ (key, slot) ∷ [])) (row_same key k slot s same_key (sym same)) (Contains-append_right rows ((key, slot) ∷ []) (key, slot) (0, omega arith, refl))
  ];
  lower = All-push (λ (row : Key × ℕ). row.1 < slot + 1) rows (key, slot) (λ i d lt. let low : (get_or rows i d).1 < slot = below.lower i d lt in omega arith) (omega arith);
  rising = rising_push rows (key, slot) below.lower below.rising;
}
  where
    row_same : (a b : Key) (i j : ℕ) → a ≡ b → i ≡ j → ◌≡◌ {A = Key × ℕ} (a, i) (b, j)
    row_same a b i j first second = ap (λ k. (k, i)) first ∙ ap (λ n. (b, n)) second

pub rows_same : (records : List Record) (rows : List (Key × ℕ)) (slot : ℕ) → key_at records slot ≡ None → AreRowsBelow records slot rows → AreRowsBelow records (slot + 1) rows
rows_same records rows slot none below = record {
  sound = below.sound;
  complete = λ s k lt at. elim (cases_lt s slot) [
    | inl earlier ↦ below.complete s k earlier at
    | inr here ↦
        let same : s ≡ slot = omega arith in
        let clash : None ≡ Some k = sym none ∙ ap (key_at records) (sym same) ∙ at in
        absurd (cc)
  ];
  lower = λ i d lt. let low : (get_or rows i d).1 < slot = below.lower i d lt in omega arith;
  rising = below.rising;
}

-- the rows with that of the next record, where it has a key
pub rows_next : (records : List Record) (rows : List (Key × ℕ)) (slot : ℕ) (own : Option Key) → own ≡ key_at records slot → AreRowsBelow records slot rows
    → AreRowsBelow records (slot + 1) (rows_with rows own slot)
rows_next records rows slot None none below = rows_same records rows slot (sym none) below
rows_next records rows slot (Some key) own below = rows_more records rows slot key (sym own) below

pub rows_all : (records : List Record) (to : ℕ) (rows : List (Key × ℕ)) → length records ≤ to → AreRowsBelow records to rows → AreKeyRows records rows
rows_all records to rows le below = record {
  rows_are = record { sound = below.sound; complete = λ slot key at. below.complete slot key (omega (arith, key_inside records slot key at)) at };
  apart = IsDistinct-from_apart same_slot rows (λ i j d lt inside. let less : (get_or rows i d).1 < (get_or rows j d).1 = below.rising i j d lt inside in ne_eqb (get_or rows i d).1 (get_or rows j d).1 (omega arith));
}

pub no_rows : (records : List Record) → AreRowsBelow records 0 []
no_rows records = record {
  sound = λ i d lt. absurd (omega arith);
  complete = λ slot key lt at. absurd (omega arith);
  lower = λ i d lt. absurd (omega arith);
  rising = λ i j d lt inside. absurd (omega arith);
}

-- the rows in another order
pub rows_moved : (records : List Record) (rows sorted : List (Key × ℕ)) → IsPermutation rows sorted → AreKeyRows records rows → AreKeyRows records sorted
rows_moved records rows sorted moved all = record {
  rows_are = record {
    sound = All-permutation (λ (row : Key × ℕ). key_at records row.1 ≡ Some row.0) rows sorted moved all.rows_are.sound;
    complete = λ slot key at. Contains-permutation rows sorted (key, slot) moved (all.rows_are.complete slot key at);
  };
  apart = IsDistinct-IsPermutation same_slot flips rows sorted moved all.apart;
}
  where
    flips : (a b : Key × ℕ) → same_slot a b ≡ same_slot b a
    flips a b = grind (arith, nat_tests)

-- keys that rise from one to the next are a table
module _ (rows : List (Key × ℕ)) (rise : RiseTo rows (length rows)) where
  next_less : (i : ℕ) (d : Key × ℕ) → i + 1 < length rows → key_cmp (get_or rows i d).0 (get_or rows (i + 1) d).0 ≡ Less
  next_less i d lt = is_less (key_cmp (get_or rows i d).0 (get_or rows (i + 1) d).0) (rise i d lt lt)

  far : (m i : ℕ) (d : Key × ℕ) → i + suc m < length rows → key_cmp (get_or rows i d).0 (get_or rows (i + suc m) d).0 ≡ Less
  far zero i d lt =
      let next : i + 1 ≡ i + suc zero = omega arith in
      subst (λ j. key_cmp (get_or rows i d).0 (get_or rows j d).0 ≡ Less) next (next_less i d (omega arith))
  far (suc m) i d lt =
      let next : i + suc m + 1 ≡ i + suc (suc m) = omega arith in
      key_total.trans (get_or rows i d).0 (get_or rows (i + suc m) d).0 (get_or rows (i + suc (suc m)) d).0 (far m i d (omega arith))
      (subst (λ j. key_cmp (get_or rows (i + suc m) d).0 (get_or rows j d).0 ≡ Less) next (next_less (i + suc m) d (omega arith)))

  pub table_from_rise : IsTable key_cmp rows
  unfolding IsTable
  table_from_rise i j d lt inside =
      let to : i + suc (j - i - 1) ≡ j = omega arith in
      subst (λ k. key_cmp (get_or rows i d).0 (get_or rows k d).0 ≡ Less) to (far (j - i - 1) i d (omega arith))
