-- When a record may come next, by what the ledger returns.
use Rattle.std.proofs.Common.{◌≡◌, ◌∙◌, ℕ, ◌<◌, ◌≤◌, Bool, true, false, List, Option, Some, None, is_some, IsTrue, slice_get, refl, sym, ap, arith}
use Rattle.std.specs.Prelude.{nat_le, option_and_then, option_map}
use Rattle.std.proofs.lemmas.Bool.Decides.{nat_tests}
use Rattle.gw_base.specs.declared.key.Key.{Key}
use Rattle.jrn_record.specs.declared.records.Deal.{Deal}
use Rattle.jrn_record.specs.declared.records.Deal.TheVariants.{Payment, Reversal}
use Rattle.jrn_record.specs.declared.records.Intent.{Intent as TheIntent}
use Rattle.jrn_record.specs.declared.records.Outcome.{Outcome as TheOutcome}
use Rattle.jrn_record.specs.declared.records.Settled.{Settled as TheSettled}
use Rattle.jrn_record.specs.declared.records.Record.{Record}
use Rattle.jrn_record.specs.declared.records.Record.TheVariants.{Intent, Outcome, Settled}
use Rattle.gw_ledger.specs.declared.entry.Entry.{Entry as TheEntry}
use Rattle.gw_ledger.specs.declared.entry.Found.{Found}
use Rattle.gw_ledger.specs.declared.entry.Found.TheVariants.{Entry}
use Rattle.gw_ledger.specs.Accounts.{is_settled, last_number_of, open_slot}
use Rattle.gw_ledger.specs.Fold.{AreFolded, fits, found_by, found_of, has_fitting_original, is_approved_with, may_reverse, open_entry, rises}
use Rattle.gw_ledger.specs.History.{same_text}
use Rattle.gw_ledger.specs.Keys.{intent_key, record_key, settled_key, slot_of}
use Rattle.gw_ledger.specs.Laws.{HasApproval, IsOriginalOf}
use Rattle.gw_ledger.specs.Slots.{as_intent, is_reversible, ended_at, entry_at, entry_with, intent_at, is_open, is_reversed}
use Rattle.gw_ledger.specs.Sums.{ordinal, same_currency}
use Rattle.gw_ledger.proofs.FoldLemmas.{open_has_intent}
use Rattle.gw_ledger.proofs.OpenLemmas.{open_slot_is}
use Rattle.gw_ledger.proofs.RecordLemmas.{folded_beside}
use Rattle.gw_ledger.proofs.SortedLemmas.{slot_has_key}
use Rattle.gw_ledger.proofs.TieLemmas.{eqb_same, same_text-itself}

some_mapped : {X Y : Type 0} (f : X → Y) (x : Option X) → is_some x ≡ true → option_map f x ≡ None → ⊥
some_mapped f None some none = cc
some_mapped f (Some x) some none = cc

none_mapped : {X Y : Type 0} (f : X → Y) (x : Option X) → option_map f x ≡ None → x ≡ None
none_mapped f None none = refl
none_mapped f (Some x) none = cc

module _ (records : List Record) (folded : AreFolded records) where
  -- a slot with an Intent has an entry
  has_entry : (slot : ℕ) → is_some (intent_at records slot) ≡ true → entry_at records slot ≡ None → ⊥
  has_entry slot some none = some_mapped (entry_with records slot (ended_at records slot)) (intent_at records slot) some none

  is_open_at : (poi : List ℕ) (slot : ℕ) → open_slot records poi ≡ Some slot → is_open records slot ≡ true
  is_open_at poi slot opened = ((open_slot_is records (folded_beside records folded) poi slot).0 opened).0

  -- without an open entry a terminal has no open slot
  no_open : (poi : List ℕ) → open_entry records poi ≡ None → open_slot records poi ≡ None
  no_open poi none = by_slot (open_slot records poi) refl none
    where
      by_slot : (found : Option ℕ) → open_slot records poi ≡ found → option_and_then (entry_at records) found ≡ None → open_slot records poi ≡ None
      by_slot None is lacks = is
      by_slot (Some slot) is lacks = absurd (has_entry slot (open_has_intent records slot (is_open_at poi slot is)) lacks)

  -- a key under which nothing is found has no slot
  no_slot : (key : Key) → found_of records key ≡ None → slot_of records key ≡ None
  no_slot key none = by_slot (slot_of records key) refl none
    where
      by_record : (slot : ℕ) (found : Option Record) → slice_get records slot ≡ found → option_and_then record_key found ≡ Some key → option_and_then (found_by records slot) found ≡ None → ⊥
      by_record slot None is own lacks = cc
      by_record slot (Some (Intent intent)) is own lacks =
          has_entry slot (ap (λ found. is_some (option_and_then as_intent found)) is) (none_mapped {Y = Found} Entry (entry_at records slot) lacks)
      by_record slot (Some (Outcome outcome)) is own lacks = cc
      by_record slot (Some (Settled settled)) is own lacks = cc

      by_slot : (found : Option ℕ) → slot_of records key ≡ found → option_and_then (λ slot. option_and_then (found_by records slot) (slice_get records slot)) found ≡ None → slot_of records key ≡ None
      by_slot None is lacks = is
      by_slot (Some slot) is lacks = absurd (by_record slot (slice_get records slot) refl (slot_has_key records key slot is) lacks)

pub payment_fits : (records : List Record) → AreFolded records → (intent : TheIntent) → intent.what ≡ Payment → found_of records (intent_key intent) ≡ None
    → open_entry records intent.poi ≡ None → last_number_of records intent.poi ≤ intent.before → IsTrue (fits records (Intent intent))
payment_fits records folded intent what none closed rising =
    let unknown : slot_of records (intent_key intent) ≡ None = no_slot records folded (intent_key intent) none in
    let free : open_slot records intent.poi ≡ None = no_open records folded intent.poi closed in
    let above : nat_le (last_number_of records intent.poi) intent.before ≡ true = grind (arith, nat_tests) in
    let payment : has_fitting_original records intent intent.what ≡ true = ap (has_fitting_original records intent) what in
    rw (unknown, free, above, payment) refl

-- the slot and the Intent of an entry
pub entry_parts : (records : List Record) (slot : ℕ) (entry : TheEntry) → entry_at records slot ≡ Some entry → (entry.slot ≡ slot) × (intent_at records slot ≡ Some entry.intent)
entry_parts records slot entry found = by_intent (intent_at records slot) refl found
  where
    by_intent : (asked : Option TheIntent) → intent_at records slot ≡ asked → option_map (entry_with records slot (ended_at records slot)) asked ≡ Some entry
        → (entry.slot ≡ slot) × (intent_at records slot ≡ Some entry.intent)
    by_intent None is same = cc
    by_intent (Some intent) is same =
        let one : entry_with records slot (ended_at records slot) intent ≡ entry = cc in
        (sym (ap (λ (e : TheEntry). e.slot) one), is ∙ ap (λ (e : TheEntry). Some e.intent) one)

rising : (approved : Bool) (intent : TheIntent) (trace : ℕ) → (approved ≡ true → intent.before < trace) → rises approved trace (Some intent) ≡ true
rising true intent trace above = let lt : intent.before < trace = above refl in grind (arith, nat_tests)
rising false intent trace above = refl

pub outcome_fits : (records : List Record) → AreFolded records → (poi : List ℕ) (entry : TheEntry) (outcome : TheOutcome) → open_entry records poi ≡ Some entry → outcome.slot ≡ entry.slot
    → (outcome.approved ≡ true → entry.intent.before < outcome.number) → IsTrue (fits records (Outcome outcome))
outcome_fits records folded poi entry outcome found same above = by_slot (open_slot records poi) refl found
  where
    by_slot : (slot : Option ℕ) → open_slot records poi ≡ slot → option_and_then (entry_at records) slot ≡ Some entry → IsTrue (fits records (Outcome outcome))
    by_slot None is at = cc
    by_slot (Some slot) is at =
        let parts = entry_parts records slot entry at in
        let here : outcome.slot ≡ slot = same ∙ parts.0 in
        let opened : is_open records outcome.slot ≡ true = ap (is_open records) here ∙ is_open_at records folded poi slot is in
        let asked : intent_at records outcome.slot ≡ Some entry.intent = ap (intent_at records) here ∙ parts.1 in
        let rises_here : rises outcome.approved outcome.number (intent_at records outcome.slot) ≡ true =
        ap (rises outcome.approved outcome.number) asked ∙ rising outcome.approved entry.intent outcome.number above in
        rw (opened, rises_here) refl

-- an approved payment that is neither reversed nor settled may be reversed
original_fits : (records : List Record) (intent : TheIntent) (slot : ℕ) (entry : TheEntry) → entry_at records slot ≡ Some entry → IsOriginalOf intent entry
    → is_reversed records slot ≡ false → is_settled records slot ≡ false → may_reverse records intent (Some slot) ≡ true
original_fits records intent slot entry found original kept unsettled =
    let payment : is_reversible entry.intent.what ≡ true = ap is_reversible original.what in
    let poi : same_text intent.poi entry.intent.poi ≡ true = ap (same_text intent.poi) original.poi ∙ same_text-itself intent.poi in
    let currency : same_currency intent.currency entry.intent.currency ≡ true = ap (same_currency intent.currency) original.currency ∙ eqb_same (ordinal intent.currency) in
    let amount : is_approved_with intent.amount entry.result ≡ true = by_result entry.result original.approved in
    rw (found, payment, poi, currency, amount, kept, unsettled) refl
  where
    by_result : (result : Option TheOutcome) → HasApproval intent.amount result → is_approved_with intent.amount result ≡ true
    by_result None none = absurd none
    by_result (Some outcome) both = rw (both.0, both.1, eqb_same intent.amount) refl

pub reversal_fits : (records : List Record) → AreFolded records → (intent : TheIntent) (slot : ℕ) (entry : TheEntry) → intent.original ≡ Some slot
    → found_of records (intent_key intent) ≡ None → open_entry records intent.poi ≡ None → last_number_of records intent.poi ≤ intent.before
    → entry_at records slot ≡ Some entry → IsOriginalOf intent entry → is_reversed records slot ≡ false → is_settled records slot ≡ false → IsTrue (fits records (Intent intent))
reversal_fits records folded intent slot entry at none closed rising found original kept unsettled =
    let unknown : slot_of records (intent_key intent) ≡ None = no_slot records folded (intent_key intent) none in
    let free : open_slot records intent.poi ≡ None = no_open records folded intent.poi closed in
    let above : nat_le (last_number_of records intent.poi) intent.before ≡ true = grind (arith, nat_tests) in
    let reversible : may_reverse records intent intent.original ≡ true = ap (may_reverse records intent) at ∙ original_fits records intent slot entry found original kept unsettled in
    let fitting : has_fitting_original records intent intent.what ≡ true = by_deal intent.what reversible in
    rw (unknown, free, above, fitting) refl
  where
    by_deal : (what : Deal) → may_reverse records intent intent.original ≡ true → has_fitting_original records intent what ≡ true
    by_deal Payment reversible = refl
    by_deal Reversal reversible = reversible

pub settled_fits : (records : List Record) → AreFolded records → (settled : TheSettled) → found_of records (settled_key settled) ≡ None → IsTrue (fits records (Settled settled))
settled_fits records folded settled none =
    let unknown : slot_of records (settled_key settled) ≡ None = no_slot records folded (settled_key settled) none in
    rw unknown refl
