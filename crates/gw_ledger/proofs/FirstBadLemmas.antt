-- The first record that may not come next: the first whose key an earlier one has, or the one after those that were added.
use Rattle.std.proofs.Common.{◌≡◌, ◌∙◌, ℕ, zero, suc, ◌+◌, ◌-◌, ◌<◌, ◌≤◌, Bool, true, false, ◌&&◌, cond, not, List, [], ◌∷◌, ◌++◌, length, map, take, drop, get_or, slice_get, Option, Some, None, is_some, IsTrue, refl, sym, ap, subst, arith, inl, inr}
use Rattle.std.specs.Prelude.{IsSorted, MatchOption, min, option_and_then}
use Rattle.std.specs.Ordering.{is_lt, nat_cmp, ordering_reverse, ordering_then}
use Rattle.std.specs.declared.cmp.Ordering.{Ordering}
use Rattle.std.specs.declared.cmp.Ordering.TheVariants.{Less, Equal, Greater}
use Rattle.std.proofs.lemmas.Bool.{cases_lt, eqb-false}
use Rattle.std.proofs.lemmas.Cmp.{tied_itself}
use Rattle.std.proofs.lemmas.List.{get_or_default, take-append-drop, take_all}
use Rattle.std.proofs.lemmas.List.Elements.{All-take}
use Rattle.std.proofs.lemmas.List.MinMax.{ranks_by}
use Rattle.std.proofs.lemmas.List.Sorted.{sorted_far}
use Rattle.std.proofs.lemmas.Map.Keys.{apart_from_distinct, ge_from_not_lt}
use Rattle.std.proofs.lemmas.Option.{get_or_from_slice_get, same_Some, slice_get_within}
use Rattle.gw_base.specs.Key.{key_cmp}
use Rattle.gw_base.specs.declared.key.Key.{Key}
use Rattle.gw_base.proofs.KeyLemmas.{key_cmp-ties}
use Rattle.jrn_record.specs.Grammar.{record_body}
use Rattle.jrn_record.specs.Limits.{IsRecord}
use Rattle.jrn_record.specs.declared.records.Record.{Record}
use Rattle.jrn_record.specs.declared.records.Record.TheVariants.{Intent, Outcome, Settled}
use Rattle.gw_ledger.specs.Fold.{AreBodiesOf, AreFirstBodiesOf, AreFoldedBesideKeys, FitBy, IsFirstBad, fits, fits_beside_key, has_new_key}
use Rattle.gw_ledger.specs.Keys.{intent_key, key_at, record_key, settled_key, slot_of}
use Rattle.gw_ledger.specs.KeyTable.{AreKeyRows, AreRowsOf, FallsAt, IsLeastFall, IsLeastFallTo, RiseTo, least_with, lesser_of, row_cmp, same_slot}
use Rattle.gw_ledger.specs.Table.{IsTable}
use Rattle.gw_ledger.proofs.KeyTableLemmas.{key_stays, key_total}
use Rattle.gw_ledger.proofs.RecordLemmas.{fits_beside}
use Rattle.gw_ledger.proofs.SortedLemmas.{OneSlotEach, folded_from_rows, folded_with_keys, is_some-of, key_inside, none_has_key, table_from_rise}

-- ---- the rows

-- the least slot so far of a row whose key isn't above that of the row before it, or that there is none
abbrev pub IsLeastSoFar : List (Key × ℕ) → ℕ → Option ℕ → Type 0
IsLeastSoFar rows to None = RiseTo rows to
IsLeastSoFar rows to (Some slot) = IsLeastFallTo rows to slot

module _ (rows : List (Key × ℕ)) (before row : Key × ℕ) (to : ℕ) (inside : to + 1 < length rows)
    (at_before : (d : Key × ℕ) → get_or rows to d ≡ before) (at_row : (d : Key × ℕ) → get_or rows (to + 1) d ≡ row) where
  read : (d : Key × ℕ) → is_lt (key_cmp (get_or rows to d).0 (get_or rows (to + 1) d).0) ≡ is_lt (key_cmp before.0 row.0)
  read d = ap (λ (r : Key × ℕ). is_lt (key_cmp r.0 (get_or rows (to + 1) d).0)) (at_before d) ∙ ap (λ (r : Key × ℕ). is_lt (key_cmp before.0 r.0)) (at_row d)

  slot_read : (d : Key × ℕ) → (get_or rows (to + 1) d).1 ≡ row.1
  slot_read d = ap (λ (r : Key × ℕ). r.1) (at_row d)

  rises : (least : Option ℕ) → is_lt (key_cmp before.0 row.0) ≡ true → IsLeastSoFar rows (to + 1) least → IsLeastSoFar rows (to + 1 + 1) least
  rises None less so_far = λ i d lt within. elim (cases_lt (i + 1) (to + 1)) [
    | inl earlier ↦ so_far i d earlier within
    | inr last ↦ let here : i ≡ to = omega arith in rw here (read d ∙ less)
  ]
  rises (Some slot) less so_far = record {
    at = so_far.at;
    inside = so_far.inside;
    falls = so_far.falls;
    slot_is = so_far.slot_is;
    least = λ i d lt within falls. elim (cases_lt (i + 1) (to + 1)) [
      | inl earlier ↦ so_far.least i d earlier within falls
      | inr last ↦
          let here : i ≡ to = omega arith in
          let clash : true ≡ false = sym less ∙ sym (read d) ∙ ap (λ k. is_lt (key_cmp (get_or rows k d).0 (get_or rows (k + 1) d).0)) (sym here) ∙ falls d in
          absurd (cc)
    ];
  }

  falls_here : is_lt (key_cmp before.0 row.0) ≡ false → FallsAt rows to
  falls_here falls d = read d ∙ falls

  never : (i : ℕ) (d : Key × ℕ) → is_lt (key_cmp (get_or rows i d).0 (get_or rows (i + 1) d).0) ≡ true → FallsAt rows i → ⊥
  never i d less falls = let clash : true ≡ false = sym less ∙ falls d in cc

  falls_next : (least : Option ℕ) → is_lt (key_cmp before.0 row.0) ≡ false → IsLeastSoFar rows (to + 1) least → IsLeastSoFar rows (to + 1 + 1) (Some (lesser_of least row.1))
  falls_next None falls so_far = record {
    at = to;
    inside = inside;
    falls = falls_here falls;
    slot_is = slot_read;
    least = λ i d lt within fallen. elim (cases_lt (i + 1) (to + 1)) [
      | inl earlier ↦ absurd (never i d (so_far i d earlier within) fallen)
      | inr last ↦ let here : i ≡ to = omega arith in rw here (omega (arith, slot_read d))
    ];
  }
  falls_next (Some slot) falls so_far = elim (cases_lt slot row.1) [
    | inl lower ↦
        let least_is : min slot row.1 ≡ slot = omega arith in
        record {
          at = so_far.at;
          inside = so_far.inside;
          falls = so_far.falls;
          slot_is = λ d. so_far.slot_is d ∙ sym least_is;
          least = λ i d lt within fallen. rw least_is (elim (cases_lt (i + 1) (to + 1)) [
            | inl earlier ↦ so_far.least i d earlier within fallen
            | inr last ↦ let here : i ≡ to = omega arith in rw here (omega (arith, slot_read d))
          ]);
        }
    | inr upper ↦
        let least_is : min slot row.1 ≡ row.1 = omega arith in
        record {
          at = to;
          inside = inside;
          falls = falls_here falls;
          slot_is = λ d. slot_read d ∙ sym least_is;
          least = λ i d lt within fallen. rw least_is (elim (cases_lt (i + 1) (to + 1)) [
            | inl earlier ↦ let le : slot ≤ (get_or rows (i + 1) d).1 = so_far.least i d earlier within fallen in omega arith
            | inr last ↦ let here : i ≡ to = omega arith in rw here (omega (arith, slot_read d))
          ]);
        }
  ]

  pub least_next : (least : Option ℕ) → IsLeastSoFar rows (to + 1) least → IsLeastSoFar rows (to + 1 + 1) (least_with least before row)
  least_next least so_far = by_test (is_lt (key_cmp before.0 row.0)) refl
    where
      by_test : (b : Bool) → is_lt (key_cmp before.0 row.0) ≡ b → IsLeastSoFar rows (to + 1 + 1) (cond b least (Some (lesser_of least row.1)))
      by_test true less = rises least less so_far
      by_test false falls = falls_next least falls so_far

-- the same, where the index after that of the row before is the row's
pub least_step : (rows : List (Key × ℕ)) (before row : Key × ℕ) (to at : ℕ) → to + 1 ≡ at → at < length rows → get_or rows to before ≡ before → get_or rows at row ≡ row
    → (least : Option ℕ) → IsLeastSoFar rows at least → IsLeastSoFar rows (at + 1) (least_with least before row)
least_step rows before row to at next inside first second least so_far =
    subst (λ n. IsLeastSoFar rows (n + 1) (least_with least before row)) next
    (least_next rows before row to inside' (λ d. get_or_default rows to d before (omega arith) ∙ first) (λ d. get_or_default rows (to + 1) d row inside' ∙ second') least
    (subst (λ n. IsLeastSoFar rows n least) (sym next) so_far))
  where
    inside' : to + 1 < length rows
    inside' = omega (arith, next, inside)

    second' : get_or rows (to + 1) row ≡ row
    second' = ap (λ n. get_or rows n row) next ∙ second

-- the least of all rows
pub least_all : (rows : List (Key × ℕ)) (to : ℕ) (least : Option ℕ) → length rows ≤ to → IsLeastSoFar rows to least → MatchOption least (IsTable key_cmp rows) (IsLeastFall rows)
least_all rows to None le so_far = table_from_rise rows (λ i d lt within. so_far i d (omega arith) within)
least_all rows to (Some slot) le so_far = record {
  at = so_far.at;
  inside = so_far.inside;
  falls = so_far.falls;
  slot_is = so_far.slot_is;
  least = λ i d lt within fallen. so_far.least i d (omega arith) within fallen;
}

-- ---- the records before a slot

-- those of the first bodies are the first records
pub prefix_bodies : (bodies : List (List ℕ)) (records : List Record) → map record_body records ≡ take (length records) bodies → (slot : ℕ) → slot ≤ length records
    → take slot bodies ≡ map record_body (take slot records)
prefix_bodies bodies records are zero le = refl
prefix_bodies bodies [] are (suc slot) le = absurd (omega arith)
prefix_bodies [] (first ∷ records) are (suc slot) le = cc
prefix_bodies (body ∷ bodies) (first ∷ records) are (suc slot) le =
    let here : record_body first ≡ body = cc in
    let rest : map record_body records ≡ take (length records) bodies = cc in
    ap (λ b. b ∷ take slot bodies) (sym here) ∙ ap (λ more. record_body first ∷ more) (prefix_bodies bodies records rest slot (omega arith))

fit_before : (test : List Record → Record → Bool) (before first rest : List Record) → FitBy test before (first ++ rest) → FitBy test before first
fit_before test before [] rest fit = tt
fit_before test before (the_record ∷ first) rest fit = (fit.0, fit_before test (before ++ the_record ∷ []) first rest fit.1)

pub folded_before : (records : List Record) (slot : ℕ) → AreFoldedBesideKeys records → AreFoldedBesideKeys (take slot records)
folded_before records slot folded = record {
  within = All-take IsRecord slot records folded.within;
  fit = fit_before fits_beside_key [] (take slot records) (drop slot records) (subst (FitBy fits_beside_key []) (sym (take-append-drop slot records)) folded.fit);
}

-- a key at one of the first slots stays
key_in_all : (records : List Record) (slot at : ℕ) (key : Key) → key_at (take slot records) at ≡ Some key → key_at records at ≡ Some key
key_in_all records slot at key found =
    ap (λ r. key_at r at) (sym (take-append-drop slot records)) ∙ key_stays (take slot records) (drop slot records) at (is_some-of (key_at (take slot records) at) key found) ∙ found

-- and is one of the first, where the slot is
key_in_first : (records : List Record) (slot at : ℕ) (key : Key) → at < slot → key_at records at ≡ Some key → key_at (take slot records) at ≡ Some key
key_in_first [] slot at key lt found = cc
key_in_first (first ∷ records) zero at key lt found = absurd (omega arith)
key_in_first (first ∷ records) (suc slot) zero key lt found = found
key_in_first (first ∷ records) (suc slot) (suc at) key lt found = key_in_first records slot at key (omega arith) found

-- ---- a record whose key an earlier one has

module _ (records : List Record) (rows : List (Key × ℕ)) (all : AreKeyRows records rows) (sorted : IsSorted row_cmp rows) where
  not_below : (a b : Key × ℕ) → is_lt (row_cmp a b) ≡ false → is_lt (key_cmp a.0 b.0) ≡ false
  not_below a b test = by_order (key_cmp a.0 b.0) test
    where
      by_order : (o : Ordering) → is_lt (ordering_then o (nat_cmp a.1 b.1)) ≡ false → is_lt o ≡ false
      by_order Less e = cc
      by_order Equal e = refl
      by_order Greater e = refl

  by_key : (i j : ℕ) (d : Key × ℕ) → i ≤ j → j < length rows → is_lt (key_cmp (get_or rows j d).0 (get_or rows i d).0) ≡ false
  by_key = sorted_far (λ (a b : Key × ℕ). is_lt (key_cmp a.0 b.0)) (ranks_by key_total (λ (row : Key × ℕ). row.0)) rows
      (λ k d low lt. not_below (get_or rows (k + 1) d) (get_or rows k d) (sorted k d low lt))

  -- of two rows of one key the key falls before the later
  falls_before : (m k : ℕ) (key : Key) → m ≤ k → k + 1 < length rows → ((d : Key × ℕ) → (get_or rows m d).0 ≡ key) → ((d : Key × ℕ) → (get_or rows (k + 1) d).0 ≡ key) → FallsAt rows k
  falls_before m k key le inside first second d =
      subst (λ q. is_lt (key_cmp (get_or rows k d).0 q) ≡ false) (first d ∙ sym (second d)) (by_key m k d le (omega arith))

  module _ (slot : ℕ) (least : IsLeastFall rows slot) where
    -- no two rows of slots before it have one key
    two_rows : (i j a b : ℕ) (key : Key) → i < j → j < length rows → ((d : Key × ℕ) → get_or rows i d ≡ (key, a)) → ((d : Key × ℕ) → get_or rows j d ≡ (key, b)) → b < slot → ⊥
    two_rows i j a b key lt inside first second below =
        let k = j - 1 in
        let next : k + 1 ≡ j = omega arith in
        let there : (d : Key × ℕ) → get_or rows (k + 1) d ≡ (key, b) = λ d. ap (λ n. get_or rows n d) next ∙ second d in
        let falls : FallsAt rows k = falls_before i k key (omega arith) (omega arith) (λ d. ap (λ (r : Key × ℕ). r.0) (first d)) (λ d. ap (λ (r : Key × ℕ). r.0) (there d)) in
        let le : slot ≤ (get_or rows (k + 1) (key, b)).1 = least.least k (key, b) (omega arith) (omega arith) falls in
        let is : (get_or rows (k + 1) (key, b)).1 ≡ b = ap (λ (r : Key × ℕ). r.1) (there (key, b)) in
        omega (arith, le, is, below)

    read_row : (k : ℕ) (row : Key × ℕ) → k < length rows → get_or rows k row ≡ row → (d : Key × ℕ) → get_or rows k d ≡ row
    read_row k row lt here d = get_or_default rows k d row lt ∙ here

    same_row : (i j a b : ℕ) (key : Key) → i ≡ j → get_or rows i (key, a) ≡ (key, a) → get_or rows j (key, a) ≡ (key, b) → a ≡ b
    same_row i j a b key same first second = ap (λ (r : Key × ℕ). r.1) (sym first ∙ ap (λ n. get_or rows n (key, a)) same ∙ second)

    pub one_slot_before : OneSlotEach (take slot records)
    one_slot_before key a b at_a at_b lt =
        let a_below : a < slot = omega (arith, key_inside (take slot records) a key at_a, length-take-le-any slot records) in
        let b_below : b < slot = omega (arith, key_inside (take slot records) b key at_b, length-take-le-any slot records) in
        let here = all.rows_are.complete a key (key_in_all records slot a key at_a) in
        let there = all.rows_are.complete b key (key_in_all records slot b key at_b) in
        let row_a = read_row here.0 (key, a) here.1 here.2 in
        let row_b = read_row there.0 (key, b) there.1 there.2 in
        elim (cases_lt here.0 there.0) [
          | inl below ↦ two_rows here.0 there.0 a b key below there.1 row_a row_b b_below
          | inr above ↦ elim (cases_lt there.0 here.0) [
            | inl below ↦ two_rows there.0 here.0 b a key below here.1 row_b row_a a_below
            | inr level ↦
                let same : here.0 ≡ there.0 = omega arith in
                let clash : a ≡ b = same_row here.0 there.0 a b key same (row_a (key, a)) (row_b (key, a)) in
                omega (arith, clash)
          ]
        ]
      where
        length-take-le-any : {X : Type 0} (n : ℕ) (xs : List X) → length (take n xs) ≤ n
        length-take-le-any zero xs = omega arith
        length-take-le-any (suc n) [] = omega arith
        length-take-le-any (suc n) (x ∷ xs) = omega (arith, length-take-le-any n xs)

    -- an earlier slot has the key of this one
    equal_from : (o p : Ordering) → o ≡ ordering_reverse p → is_lt o ≡ false → is_lt p ≡ false → o ≡ Equal
    equal_from o Less flipped first second = cc
    equal_from o Equal flipped first second = flipped
    equal_from o Greater flipped first second = let clash : true ≡ false = sym (ap is_lt flipped) ∙ first in absurd (cc)

    slot_rises : (a b : Key × ℕ) → is_lt (row_cmp a b) ≡ false → a.0 ≡ b.0 → b.1 ≤ a.1
    slot_rises a b test same = ge_from_not_lt a.1 b.1 (sym (ap (λ o. is_lt (ordering_then o (nat_cmp a.1 b.1))) tie) ∙ test)
      where
        tie : key_cmp a.0 b.0 ≡ Equal
        tie = ap (λ k. key_cmp k b.0) same ∙ tied_itself key_total b.0

    pub earlier_of : (d : Key × ℕ) → (key : Key) × (earlier : ℕ) × (earlier < slot) × (key_at records earlier ≡ Some key) × (key_at records slot ≡ Some key)
    earlier_of d =
        let at = least.at in
        let first = get_or rows at d in
        let second = get_or rows (at + 1) d in
        let not_above = by_key at (at + 1) d (omega arith) least.inside in
        let tie : key_cmp first.0 second.0 ≡ Equal = equal_from (key_cmp first.0 second.0) (key_cmp second.0 first.0) (key_total.antisymm first.0 second.0) (least.falls d) not_above in
        let same : first.0 ≡ second.0 = (key_cmp-ties first.0 second.0).0 tie in
        let le : first.1 ≤ second.1 = slot_rises second first (sorted at d (omega arith) least.inside) (sym same) in
        let apart : (first.1 ≡ second.1 → ⊥) = eqb-false first.1 second.1 (apart_from_distinct same_slot rows at (at + 1) d all.apart (omega arith) least.inside) in
        let slot_is : second.1 ≡ slot = least.slot_is d in
        let lower : first.1 < slot = three le apart slot_is in
        let sound_first : key_at records first.1 ≡ Some first.0 = all.rows_are.sound at d (omega (arith, least.inside)) in
        let sound_second : key_at records second.1 ≡ Some second.0 = all.rows_are.sound (at + 1) d least.inside in
        (first.0, first.1, lower, sound_first, ap (key_at records) (sym slot_is) ∙ sound_second ∙ ap Some (sym same))
      where
        three : {a b s : ℕ} → a ≤ b → (a ≡ b → ⊥) → b ≡ s → a < s
        three {a} {b} {s} le apart is = elim (cases_lt a b) [ inl lt ↦ omega (arith, lt, is) | inr ge ↦ absurd (apart (omega (arith, le, ge))) ]

-- ---- the first bad slot

-- a record whose key is known doesn't fit
known_key : (before : List Record) (the_record : Record) (key : Key) (earlier : ℕ) → key_at before earlier ≡ Some key → record_key the_record ≡ Some key → IsTrue (fits before the_record) → ⊥
known_key before the_record key earlier found own fitting = none_has_key before key (unknown the_record own (first_part (has_new_key before the_record) (fits_beside_key before the_record) fitting)) earlier found
  where
    first_part : (a b : Bool) → IsTrue (a && b) → IsTrue a
    first_part true b both = refl
    first_part false b both = cc

    none_from : (slot : Option ℕ) → IsTrue (not (is_some slot)) → slot ≡ None
    none_from None new = refl
    none_from (Some slot) new = cc

    unknown : (the_record : Record) → record_key the_record ≡ Some key → IsTrue (has_new_key before the_record) → slot_of before key ≡ None
    unknown (Intent intent) own new = ap (slot_of before) (sym (same_Some (intent_key intent) key own)) ∙ none_from (slot_of before (intent_key intent)) new
    unknown (Outcome outcome) own new = cc
    unknown (Settled settled) own new = ap (slot_of before) (sym (same_Some (settled_key settled) key own)) ∙ none_from (slot_of before (settled_key settled)) new

module _ (bodies : List (List ℕ)) (records : List Record) (rows : List (Key × ℕ)) (first : AreFirstBodiesOf bodies records) (folded : AreFoldedBesideKeys records)
    (one_record : (a b : Record) → IsRecord a → IsRecord b → record_body a ≡ record_body b → a ≡ b) where
  -- the body at a slot is that of the record there
  body_at : (slot : ℕ) (the_record : Record) → slice_get records slot ≡ Some the_record → slice_get bodies slot ≡ Some (record_body the_record)
  body_at slot the_record found = in_first bodies records slot the_record first.bodies_are found
    where
      in_first : (bodies : List (List ℕ)) (records : List Record) (slot : ℕ) (the_record : Record) → map record_body records ≡ take (length records) bodies
          → slice_get records slot ≡ Some the_record → slice_get bodies slot ≡ Some (record_body the_record)
      in_first bodies [] slot the_record are found = cc
      in_first [] (head ∷ records) slot the_record are found = cc
      in_first (body ∷ bodies) (head ∷ records) zero the_record are found =
          let one : head ≡ the_record = same_Some head the_record found in
          let same : record_body head ≡ body = cc in
          ap Some (sym same ∙ ap record_body one)
      in_first (body ∷ bodies) (head ∷ records) (suc slot) the_record are found =
          let rest : map record_body records ≡ take (length records) bodies = cc in
          in_first bodies records slot the_record rest found

  -- a slot whose record has a known key is the first bad one, where no two before it have one key
  bad_at_repeat : (slot : ℕ) (the_record : Record) (key : Key) (earlier : ℕ) → OneSlotEach (take slot records) → slot < length records
      → slice_get records slot ≡ Some the_record → IsRecord the_record → record_key the_record ≡ Some key → earlier < slot → key_at records earlier ≡ Some key → IsFirstBad bodies slot
  bad_at_repeat slot the_record key earlier one inside found within own lower known = record {
    records = take slot records;
    before = record {
      bodies_are = prefix_bodies bodies records first.bodies_are slot (omega arith);
      folded = folded_with_keys (take slot records) one (folded_before records slot folded);
    };
    inside = omega (arith, first.inside);
    none_fits = λ other other_within at fitting.
        let same_body : record_body other ≡ record_body the_record = same_Some (record_body other) (record_body the_record) (sym at ∙ body_at slot the_record found) in
        let same : other ≡ the_record = one_record other the_record other_within within same_body in
        known_key (take slot records) other key earlier (key_in_first records slot earlier key lower known) (ap record_key same ∙ own) fitting;
  }

  record_there : (slot : ℕ) (key : Key) (found : Option Record) → slice_get records slot ≡ found → option_and_then record_key found ≡ Some key
      → (the_record : Record) × (slice_get records slot ≡ Some the_record) × (record_key the_record ≡ Some key)
  record_there slot key None is own = cc
  record_there slot key (Some the_record) is own = (the_record, is, own)

  within_at : (slot : ℕ) (the_record : Record) → slice_get records slot ≡ Some the_record → IsRecord the_record
  within_at slot the_record is = subst IsRecord (get_or_from_slice_get records slot the_record the_record is) (folded.within slot the_record (slice_get_within records slot the_record is))

  pub bad_at_fall : AreKeyRows records rows → IsSorted row_cmp rows → (slot : ℕ) → IsLeastFall rows slot → IsFirstBad bodies slot
  bad_at_fall all sorted slot least =
      let d : Key × ℕ = (record { sale = []; poi = []; service = [] }, 0) in
      let earlier = earlier_of records rows all sorted slot least d in
      let there = record_there slot earlier.0 (slice_get records slot) refl earlier.4 in
      bad_at_repeat slot there.0 earlier.0 earlier.1 (one_slot_before records rows all sorted slot least) (key_inside records slot earlier.0 earlier.4) there.1
      (within_at slot there.0 there.1) there.2 earlier.2 earlier.3

  -- the slot after those that were added, where their keys are a table
  pub bad_after : AreRowsOf records rows → IsTable key_cmp rows → length records < length bodies → IsFirstBad bodies (length records)
  bad_after all table more = record {
    records = records;
    before = record { bodies_are = sym first.bodies_are; folded = folded_from_rows records rows table all folded };
    inside = more;
    none_fits = λ other within at fitting. first.refused (record_body other) at other within refl (fits_beside records other fitting);
  }

  -- all bodies, where their keys are a table
  pub all_folded : AreRowsOf records rows → IsTable key_cmp rows → length bodies ≤ length records → AreBodiesOf bodies records
  all_folded all table le = record {
    bodies_are = sym (take_all (length records) bodies le) ∙ sym first.bodies_are;
    folded = folded_from_rows records rows table all folded;
  }
