-- Facts that hold of the records of a ledger since each record keeps them: bounds of the sums, and how many are open.
use Rattle.std.proofs.Common.{◌≡◌, ◌∙◌, ℕ, zero, suc, ◌+◌, ◌-◌, ◌*◌, ◌<◌, ◌≤◌, eqb, Bool, true, false, ◌&&◌, not, List, [], ◌∷◌, ◌++◌, length, Option, Some, None, is_some, IsTrue, All, refl, sym, ap, arith, inl, inr, append_assoc}
use Rattle.std.specs.Prelude.{if◌then◌else◌}
use Rattle.std.proofs.lemmas.Bool.{cases_lt}
use Rattle.std.proofs.lemmas.Bool.Decides.{nat_tests}
use Rattle.std.proofs.lemmas.List.{append-nil, length-append}
use Rattle.jrn_record.specs.declared.records.Record.{Record}
use Rattle.jrn_record.specs.declared.records.Record.TheVariants.{Intent, Outcome, Settled}
use Rattle.jrn_record.specs.declared.records.Outcome.{Outcome as TheOutcome}
use Rattle.jrn_record.specs.Limits.{IsRecord, IsPresentAs}
use Rattle.gw_base.specs.Limits.{IsAmount}
use Rattle.gw_base.specs.declared.currency.Currency.{Currency}
use Rattle.gw_ledger.specs.Fold.{AreFoldedBesideKeys, FitBy, fits_beside_key}
use Rattle.gw_ledger.specs.History.{Placed, history}
use Rattle.gw_ledger.specs.Laws.{count_below}
use Rattle.gw_ledger.specs.Slots.{as_intent, ended_at, intent_at, is_open, is_outcome_of}
use Rattle.gw_ledger.specs.Steps.{HasRoomFor}
use Rattle.gw_ledger.specs.Sums.{approves, is_approval, sums_of, units_in, one_if, open_count_of, settles, sum_over, unsettled, Debit, ReverseDebit}
use Rattle.gw_ledger.proofs.RecordLemmas.{get_before, get_last, length-history}
use Rattle.gw_ledger.proofs.HistoryLemmas.{history-push}
use Rattle.gw_ledger.proofs.TieLemmas.{eqb_above, eqb_same}

module _ (P : List Record → Type 0)
    (step : (before : List Record) (the_record : Record) → P before → IsRecord the_record → IsTrue (fits_beside_key before the_record) → P (before ++ the_record ∷ [])) where
  go : (before rest : List Record) → P before → All IsRecord rest → FitBy fits_beside_key before rest → P (before ++ rest)
  go before [] holds within fit = rw (append-nil before) holds
  go before (the_record ∷ rest) holds within fit =
      rw (← append_assoc before (the_record ∷ []) rest)
      (go (before ++ the_record ∷ []) rest (step before the_record holds (within 0 the_record (omega arith)) fit.0) (λ i d lt. within (suc i) d (omega arith)) fit.1)

  -- what holds of no records, and stays with each that fits, holds of the records of a ledger
  pub along : P [] → (records : List Record) → AreFoldedBesideKeys records → P records
  along none records folded = go [] records none folded.within folded.fit

-- ---- bounds

-- each of the records past lies within its limits
abbrev EachWithin : List Placed → Type 0
EachWithin [] = Unit {0}
EachWithin (p ∷ older) = IsRecord p.the_record × EachWithin older

each_step : (before : List Record) (the_record : Record) → EachWithin (history before) → IsRecord the_record → IsTrue (fits_beside_key before the_record) → EachWithin (history (before ++ the_record ∷ []))
each_step before the_record each within fitting = rw (history-push before the_record) (within, each)

none_past : EachWithin (history [])
unfolding history
none_past = tt

pub each_within : (records : List Record) → AreFoldedBesideKeys records → EachWithin (history records)
each_within = along (λ records. EachWithin (history records)) each_step none_past

pub present-le : (approved : Bool) (amount : ℕ) → IsPresentAs approved IsAmount amount → amount ≤ 999999999999
present-le true amount present = present.1
present-le false amount present = omega (arith, present)

units-le : (the_record : Record) → IsRecord the_record → units_in the_record ≤ 999999999999
units-le (Intent intent) within = omega arith
units-le (Outcome outcome) within = present-le outcome.approved outcome.amount within.amount
units-le (Settled settled) within = omega arith

counted-le : (b : Bool) (n : ℕ) → n ≤ 999999999999 → (if b then n else 0) ≤ 999999999999
counted-le true n le = le
counted-le false n le = omega arith

pub units_sum-le : (test : List Record → Record → Bool) (past : List Placed) → EachWithin past
    → sum_over (λ before the_record. if test before the_record then units_in the_record else 0) past ≤ length past * 999999999999
units_sum-le test [] each = omega arith
units_sum-le test (p ∷ older) each =
    omega (arith, units_sum-le test older each.1, counted-le (test p.before p.the_record) (units_in p.the_record) (units-le p.the_record each.0))

one_if-le : (b : Bool) → one_if b ≤ 1
one_if-le true = omega arith
one_if-le false = omega arith

pub count_sum-le : (test : List Record → Record → Bool) (past : List Placed) → sum_over (λ before the_record. one_if (test before the_record)) past ≤ length past
count_sum-le test [] = omega arith
count_sum-le test (p ∷ older) = omega (arith, count_sum-le test older, one_if-le (test p.before p.the_record))

-- the records after the last Settled are some of them
pub unsettled-le : (poi : List ℕ) (past : List Placed) → length (unsettled poi past) ≤ length past
unsettled-le poi [] = omega arith
unsettled-le poi (p ∷ older) = by_test (settles poi p.the_record) (unsettled-le poi older)
  where
    by_test : (b : Bool) → length (unsettled poi older) ≤ length older → length (if b then [] else p ∷ unsettled poi older) ≤ suc (length older)
    by_test true le = omega arith
    by_test false le = omega arith

pub each_unsettled : (poi : List ℕ) (past : List Placed) → EachWithin past → EachWithin (unsettled poi past)
each_unsettled poi [] each = tt
each_unsettled poi (p ∷ older) each = by_test (settles poi p.the_record) (each_unsettled poi older each.1)
  where
    by_test : (b : Bool) → EachWithin (unsettled poi older) → EachWithin (if b then [] else p ∷ unsettled poi older)
    by_test true rest = tt
    by_test false rest = (each.0, rest)

-- a sum over some of the records, and one amount more, is far below 2^64
sum-below : (records : List Record) → length records < 1000000 → (past : List Placed) → length past ≤ length records → EachWithin past
    → (test : List Record → Record → Bool) (amount : ℕ) → amount ≤ 999999999999
    → sum_over (λ before the_record. if test before the_record then units_in the_record else 0) past + amount < 18446744073709551616
sum-below records few past le each test amount small = omega (arith, units_sum-le test past each)

count-small : (records : List Record) → length records < 1000000 → (past : List Placed) → length past ≤ length records
    → (test : List Record → Record → Bool) → sum_over (λ before the_record. one_if (test before the_record)) past + 1 < 4294967296
count-small records few past le test = omega (arith, count_sum-le test past)

pub room_for : (records : List Record) → AreFoldedBesideKeys records → length records < 1000000 → (amount : ℕ) → amount ≤ 999999999999
    → (poi : List ℕ) (currency : Currency) → HasRoomFor amount (sums_of records poi currency)
room_for records folded few amount small poi currency =
    let past = unsettled poi (history records) in
    let le : length past ≤ length records = omega (arith, unsettled-le poi (history records), length-history records) in
    let each = each_unsettled poi (history records) (each_within records folded) in
    record {
      debits = count-small records few past le (approves poi currency Debit);
      debited = sum-below records few past le each (approves poi currency Debit) amount small;
      reversals = count-small records few past le (approves poi currency ReverseDebit);
      undone = sum-below records few past le each (approves poi currency ReverseDebit) amount small;
    }

pub total-below : (records : List Record) → AreFoldedBesideKeys records → length records < 1000000 → (amount : ℕ) → amount ≤ 999999999999
    → sum_over (λ before the_record. if is_approval the_record then units_in the_record else 0) (history records) + amount < 18446744073709551616
total-below records folded few amount small =
    let le : length (history records) ≤ length records = omega (arith, length-history records) in
    sum-below records few (history records) le (each_within records folded) (λ before the_record. is_approval the_record) amount small

-- ---- how many are open

count_same : (p q : ℕ → Bool) (n : ℕ) → ((s : ℕ) → s < n → p s ≡ q s) → count_below p n ≡ count_below q n
count_same p q zero same = refl
count_same p q (suc n) same = rw (same n (omega arith), count_same p q n (λ s lt. same s (omega arith))) refl

count_less : (p q : ℕ → Bool) (x n : ℕ) → p x ≡ true → ((s : ℕ) → s < n → q s ≡ (p s && not (eqb x s))) → x < n → count_below q n + 1 ≡ count_below p n
count_less p q x zero passes less lt = absurd (omega arith)
count_less p q x (suc n) passes less lt = elim (cases_lt x n) [
  | inl below ↦
      let apart : eqb x n ≡ false = grind (arith, nat_tests) in
      let same : q n ≡ p n = less n (omega arith) ∙ rw apart (and_true (p n)) in
      let rest = count_less p q x n passes (λ s below. less s (omega arith)) below in
      let figures : one_if (q n) ≡ one_if (p n) = ap one_if same in
      omega (arith, rest, figures)
  | inr above ↦
      let here : x ≡ n = omega arith in
      let tie : eqb x n ≡ true = grind (arith, nat_tests) in
      let gone : one_if (q n) ≡ 0 = let off : q n ≡ false = less n (omega arith) ∙ rw tie (and_false (p n)) in ap one_if off in
      let one : one_if (p n) ≡ 1 = ap one_if (ap p (sym here) ∙ passes) in
      let rest : count_below q n ≡ count_below p n = count_same q p n (λ s below. less s (omega arith) ∙ rw (eqb_above x s (omega arith)) (and_true (p s))) in
      omega (arith, gone, one, rest)
]
  where
    and_true : (b : Bool) → (b && not false) ≡ b
    and_true true = refl
    and_true false = refl

    and_false : (b : Bool) → (b && not true) ≡ false
    and_false true = refl
    and_false false = refl

count_some : (p : ℕ → Bool) (x n : ℕ) → p x ≡ true → x < n → 1 ≤ count_below p n
count_some p x zero passes lt = absurd (omega arith)
count_some p x (suc n) passes lt = elim (cases_lt x n) [
  | inl below ↦ omega (arith, count_some p x n passes below)
  | inr above ↦
      let here : x ≡ n = omega arith in
      let one : one_if (p n) ≡ 1 = ap one_if (ap p (sym here) ∙ passes) in
      omega (arith, one)
]

-- a slot before the last record is open where it was and the record is no Outcome of it
pub open_before : (records : List Record) (the_record : Record) (s : ℕ) → s < length records
    → is_open (records ++ the_record ∷ []) s ≡ (is_open records s && not (is_outcome_of s the_record))
open_before records the_record s lt =
    rw (history-push records the_record, eqb_above (length records) s lt, get_before records (the_record ∷ []) s lt)
    (by_test (is_some (intent_at records s)) (is_outcome_of s the_record) (ended_at records s))
  where
    by_test : (asked b : Bool) (ended : Option ℕ)
        → (asked && not (is_some (if b then Some (length records) else ended))) ≡ ((asked && not (is_some ended)) && not b)
    by_test true true None = refl
    by_test true true (Some at) = refl
    by_test true false None = refl
    by_test true false (Some at) = refl
    by_test false b ended = refl

-- the last slot is open where it is an Intent's
pub open_last : (records : List Record) (the_record : Record) → is_open (records ++ the_record ∷ []) (length records) ≡ is_some (as_intent the_record)
open_last records the_record = rw (history-push records the_record, eqb_same (length records), get_last records the_record) (and_true (is_some (as_intent the_record)))
  where
    and_true : (b : Bool) → (b && true) ≡ b
    and_true true = refl
    and_true false = refl

-- the open slots are as many as the count says
abbrev OpenAreCounted : List Record → Type 0
OpenAreCounted records = open_count_of records ≡ count_below (is_open records) (length records)

open_of_none : OpenAreCounted []
unfolding history
open_of_none = refl

some_stays_counted : (before : List Record) (the_record : Record) → OpenAreCounted before → ((s : ℕ) → is_outcome_of s the_record ≡ false)
    → open_count_of (before ++ the_record ∷ []) ≡ open_count_of before + one_if (is_some (as_intent the_record)) → OpenAreCounted (before ++ the_record ∷ [])
some_stays_counted before the_record counted none more =
    let len : length (before ++ the_record ∷ []) ≡ suc (length before) = length-append before (the_record ∷ []) ∙ omega arith in
    let below : count_below (is_open (before ++ the_record ∷ [])) (length before) ≡ count_below (is_open before) (length before) =
    count_same (is_open (before ++ the_record ∷ [])) (is_open before) (length before) (λ s lt. open_before before the_record s lt ∙ rw (none s) (and_true (is_open before s))) in
    let last : one_if (is_open (before ++ the_record ∷ []) (length before)) ≡ one_if (is_some (as_intent the_record)) = ap one_if (open_last before the_record) in
    rw (len, more) (omega (arith, below, last, counted))
  where
    and_true : (b : Bool) → (b && not false) ≡ b
    and_true true = refl
    and_true false = refl

true_parts : (a b : Bool) → IsTrue (a && b) → (a ≡ true) × (b ≡ true)
true_parts true true both = (refl, refl)
true_parts true false both = cc
true_parts false b both = cc

-- a slot with an Intent is before the end
pub intent_inside : (records : List Record) (slot : ℕ) → is_some (intent_at records slot) ≡ true → slot < length records
intent_inside [] slot some = cc
intent_inside (first ∷ records) zero some = omega arith
intent_inside (first ∷ records) (suc slot) some = omega (arith, intent_inside records slot some)

pub open_parts : (records : List Record) (outcome : TheOutcome) → IsTrue (fits_beside_key records (Outcome outcome)) → is_open records outcome.slot ≡ true
open_parts records outcome fitting = (true_parts _ _ fitting).0

pub open_has_intent : (records : List Record) (slot : ℕ) → is_open records slot ≡ true → is_some (intent_at records slot) ≡ true
open_has_intent records slot opened = (true_parts _ _ opened).0

open_step : (before : List Record) (the_record : Record) → OpenAreCounted before → IsRecord the_record → IsTrue (fits_beside_key before the_record) → OpenAreCounted (before ++ the_record ∷ [])
open_step before (Intent intent) counted within fitting = some_stays_counted before (Intent intent) counted (λ s. refl) (rw (history-push before (Intent intent)) refl)
open_step before (Settled settled) counted within fitting = some_stays_counted before (Settled settled) counted (λ s. refl) (rw (history-push before (Settled settled)) (omega arith))
open_step before (Outcome outcome) counted within fitting =
    let the_record = Outcome outcome in
    let opened : is_open before outcome.slot ≡ true = open_parts before outcome fitting in
    let inside : outcome.slot < length before = intent_inside before outcome.slot (open_has_intent before outcome.slot opened) in
    let len : length (before ++ the_record ∷ []) ≡ suc (length before) = length-append before (the_record ∷ []) ∙ omega arith in
    let fewer : count_below (is_open (before ++ the_record ∷ [])) (length before) + 1 ≡ count_below (is_open before) (length before) =
    count_less (is_open before) (is_open (before ++ the_record ∷ [])) outcome.slot (length before) opened (λ s lt. open_before before the_record s lt) inside in
    let last : one_if (is_open (before ++ the_record ∷ []) (length before)) ≡ 0 = ap one_if (open_last before the_record) in
    let count : open_count_of (before ++ the_record ∷ []) ≡ open_count_of before - 1 = rw (history-push before the_record) refl in
    rw (len, count) (omega (arith, fewer, last, counted))

pub open_are_counted : (records : List Record) → AreFoldedBesideKeys records → open_count_of records ≡ count_below (is_open records) (length records)
open_are_counted = along OpenAreCounted open_step open_of_none

-- where a slot is open, the count of open ones isn't 0
pub open_is_counted : (records : List Record) → AreFoldedBesideKeys records → (slot : ℕ) → is_open records slot ≡ true → 1 ≤ open_count_of records
open_is_counted records folded slot opened =
    let counted = open_are_counted records folded in
    let inside = intent_inside records slot (open_has_intent records slot opened) in
    omega (arith, counted, count_some (is_open records) slot (length records) opened inside)
