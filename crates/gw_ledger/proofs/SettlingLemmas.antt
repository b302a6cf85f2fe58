-- What one more Settled does: to keys, totals, entries, what is open and what is settled.
use Rattle.std.proofs.Common.{◌≡◌, ◌∙◌, ℕ, zero, suc, ◌<◌, Bool, true, false, ◌&&◌, not, cond, List, [], ◌∷◌, ◌++◌, length, Option, Some, None, IsSome, is_some, slice_get, refl, sym, ap, arith}
use Rattle.std.specs.Prelude.{if◌then◌else◌, option_and_then, option_map}
use Rattle.std.proofs.lemmas.Cmp.{tied_itself}
use Rattle.std.proofs.lemmas.List.{take-append-le}
use Rattle.std.proofs.lemmas.Option.{slice_get_within}
use Rattle.std.proofs.Math.Seq.{take-append_seam}
use Rattle.std.specs.Ordering.{is_eq}
use Rattle.gw_base.specs.Key.{key_cmp}
use Rattle.gw_base.specs.declared.currency.Currency.{Currency}
use Rattle.gw_base.specs.declared.key.Key.{Key}
use Rattle.gw_base.proofs.KeyLemmas.{key_cmp-ties}
use Rattle.jrn_record.specs.declared.records.Intent.{Intent as TheIntent}
use Rattle.jrn_record.specs.declared.records.Settled.{Settled as TheSettled}
use Rattle.jrn_record.specs.declared.records.Record.{Record}
use Rattle.jrn_record.specs.declared.records.Record.TheVariants.{Intent, Outcome, Settled}
use Rattle.gw_ledger.specs.declared.account.Account.{Account}
use Rattle.gw_ledger.specs.declared.entry.Entry.{Entry as TheEntry}
use Rattle.gw_ledger.specs.declared.entry.Found.TheVariants.{Entry, Closed}
use Rattle.gw_ledger.specs.Accounts.{account_of, account_with, is_settled, last_number_of, open_slot}
use Rattle.gw_ledger.specs.Fold.{found_by, found_of, is_approved_payment, may_reverse, open_entry}
use Rattle.gw_ledger.specs.History.{same_text}
use Rattle.gw_ledger.specs.Keys.{same_key, settled_key, slot_of}
use Rattle.gw_ledger.specs.Laws.{HaveSameOpen, IsEndedPayment}
use Rattle.gw_ledger.specs.Slots.{ended_at, entry_at, entry_with, intent_at, is_reversed, outcome_at}
use Rattle.gw_ledger.specs.Sums.{totals_of}
use Rattle.gw_ledger.proofs.FitLemmas.{entry_parts}
use Rattle.gw_ledger.proofs.FoldLemmas.{intent_inside}
use Rattle.gw_ledger.proofs.HistoryLemmas.{history-push}
use Rattle.gw_ledger.proofs.KeyTableLemmas.{key_total, slot_push}
use Rattle.gw_ledger.proofs.OpenLemmas.{account_push}
use Rattle.gw_ledger.proofs.RecordLemmas.{get_before, get_last}
use Rattle.gw_ledger.proofs.SettledAfterLemmas.{EndsAtOutcomes, ends_step, no_ends, of_all, settled_is_after}
use Rattle.gw_ledger.proofs.SortedLemmas.{key_inside, slot_has_key}
use Rattle.gw_ledger.proofs.TieLemmas.{eqb_above, is_equal, plus_zero, same_text-is, same_text-itself}

-- two texts that aren't the same, by the test
texts_apart : (a b : List ℕ) → (a ≡ b → ⊥) → (tie : Bool) → same_text a b ≡ tie → same_text a b ≡ false
texts_apart a b apart true tie = absurd (apart (same_text-is a b tie))
texts_apart a b apart false tie = tie

-- two keys that aren't the same, by the test
keys_apart : (a b : Key) → (a ≡ b → ⊥) → (tie : Bool) → same_key a b ≡ tie → same_key a b ≡ false
keys_apart a b apart true tie = absurd (apart ((key_cmp-ties a b).0 (is_equal (key_cmp a b) tie)))
keys_apart a b apart false tie = tie

-- texts and keys differ where the test says so
pub texts_differ : (a b : List ℕ) → same_text a b ≡ false → a ≡ b → ⊥
texts_differ a b test same =
    let clash : true ≡ false = sym (same_text-itself a) ∙ ap (same_text a) same ∙ test in
    cc

pub keys_differ : (a b : Key) → same_key a b ≡ false → a ≡ b → ⊥
keys_differ a b test same =
    let clash : true ≡ false = sym (ap is_eq (tied_itself key_total a)) ∙ ap (same_key a) same ∙ test in
    cc

-- of three tests the last fails
last_fails : (a b c : Bool) → c ≡ true → (a && not b && not c) ≡ false
last_fails true true true passed = refl
last_fails true false true passed = refl
last_fails false b true passed = refl
last_fails a b false passed = cc

-- a Settled is neither an Intent nor an Outcome
intent_stays : (settled : TheSettled) (records : List Record) (slot : ℕ) → intent_at (records ++ Settled settled ∷ []) slot ≡ intent_at records slot
intent_stays settled [] zero = refl
intent_stays settled [] (suc slot) = refl
intent_stays settled (first ∷ records) zero = refl
intent_stays settled (first ∷ records) (suc slot) = intent_stays settled records slot

outcome_stays : (settled : TheSettled) (records : List Record) (slot : ℕ) → outcome_at (records ++ Settled settled ∷ []) slot ≡ outcome_at records slot
outcome_stays settled [] zero = refl
outcome_stays settled [] (suc slot) = refl
outcome_stays settled (first ∷ records) zero = refl
outcome_stays settled (first ∷ records) (suc slot) = outcome_stays settled records slot

-- an entry that has its Outcome, has it at a slot
ended_slot : (records : List Record) (entry : TheEntry) → entry_at records entry.slot ≡ Some entry → IsSome entry.result → (ended : ℕ) × (ended_at records entry.slot ≡ Some ended)
ended_slot records entry kept has = by_intent (intent_at records entry.slot) kept
  where
    by_ended : (intent : TheIntent) (at : Option ℕ) → ended_at records entry.slot ≡ at → entry_with records entry.slot at intent ≡ entry
        → (ended : ℕ) × (ended_at records entry.slot ≡ Some ended)
    by_ended intent None none same =
        let lacks : None ≡ entry.result = ap (λ (e : TheEntry). e.result) same in
        let clash : false ≡ true = ap is_some lacks ∙ has in
        absurd (cc)
    by_ended intent (Some ended) found same = (ended, found)

    by_intent : (asked : Option TheIntent) → option_map (entry_with records entry.slot (ended_at records entry.slot)) asked ≡ Some entry
        → (ended : ℕ) × (ended_at records entry.slot ≡ Some ended)
    by_intent None same = cc
    by_intent (Some intent) same =
        let one : entry_with records entry.slot (ended_at records entry.slot) intent ≡ entry = cc in
        by_ended intent (ended_at records entry.slot) refl one

module _ (records : List Record) (settled : TheSettled) where
  abbrev closed : List Record
  closed = records ++ Settled settled ∷ []

  pub settled_is_found : found_of closed (settled_key settled)
      ≡ Some (Closed (record { slot = length records; settled = settled; totals = totals_of records settled.poi settled.currency }))
  settled_is_found =
      let tie : same_key (settled_key settled) (settled_key settled) ≡ true = ap is_eq (tied_itself key_total (settled_key settled)) in
      let slot : slot_of closed (settled_key settled) ≡ Some (length records) =
      slot_push records (Settled settled) (settled_key settled) ∙ ap (λ b. cond b (Some (length records)) (slot_of records (settled_key settled))) tie in
      ap (option_and_then (λ slot. option_and_then (found_by closed slot) (slice_get closed slot))) slot
      ∙ ap (option_and_then (found_by closed (length records))) (get_last records (Settled settled))
      ∙ ap (λ past. Some (Closed (record { slot = length records; settled = settled; totals = totals_of past settled.poi settled.currency }))) (take-append_seam records (Settled settled ∷ []))

  pub totals_begin_anew : (currency : Currency) → totals_of closed settled.poi currency ≡ record { debit = (0, 0); reversed = (0, 0); currency = currency }
  totals_begin_anew currency = rw (history-push records (Settled settled), same_text-itself settled.poi) refl

  pub other_totals_stay : (poi : List ℕ) → (poi ≡ settled.poi → ⊥) → (currency : Currency) → totals_of closed poi currency ≡ totals_of records poi currency
  other_totals_stay poi apart currency =
      rw (history-push records (Settled settled), texts_apart poi settled.poi apart (same_text poi settled.poi) refl) (simp plus_zero)

  ended_stays : (slot : ℕ) → slot < length records → ended_at closed slot ≡ ended_at records slot
  ended_stays slot lt = rw (history-push records (Settled settled), eqb_above (length records) slot lt) refl

  result_stays : (ended : Option ℕ) → option_and_then (outcome_at closed) ended ≡ option_and_then (outcome_at records) ended
  result_stays None = refl
  result_stays (Some at) = outcome_stays settled records at

  pub entries_stay : (slot : ℕ) → entry_at closed slot ≡ entry_at records slot
  entries_stay slot = by_intent (intent_at records slot) refl
    where
      by_intent : (asked : Option TheIntent) → intent_at records slot ≡ asked → entry_at closed slot ≡ entry_at records slot
      by_intent None is = rw (intent_stays settled records slot, is) refl
      by_intent (Some intent) is =
          rw (intent_stays settled records slot, is, ended_stays slot (intent_inside records slot (ap is_some is)))
          (ap (λ result. Some (record { slot = slot; intent = intent; result = result })) (result_stays (ended_at records slot)))

  pub other_keys_stay : (key : Key) → (key ≡ settled_key settled → ⊥) → found_of closed key ≡ found_of records key
  other_keys_stay key apart =
      let tie = keys_apart key (settled_key settled) apart (same_key key (settled_key settled)) refl in
      let same : slot_of closed key ≡ slot_of records key =
      slot_push records (Settled settled) key ∙ ap (λ b. cond b (Some (length records)) (slot_of records key)) tie in
      ap (option_and_then (λ slot. option_and_then (found_by closed slot) (slice_get closed slot))) same ∙ by_slot (slot_of records key) refl
    where
      by_record : (slot : ℕ) → slot < length records → (found : Option Record) → option_and_then (found_by closed slot) found ≡ option_and_then (found_by records slot) found
      by_record slot lt None = refl
      by_record slot lt (Some (Intent intent)) = ap (λ (entry : Option TheEntry). option_map Entry entry) (entries_stay slot)
      by_record slot lt (Some (Outcome outcome)) = refl
      by_record slot lt (Some (Settled other)) =
          ap (λ past. Some (Closed (record { slot = slot; settled = other; totals = totals_of past other.poi other.currency }))) (take-append-le slot records (Settled settled ∷ []) (omega (arith, lt)))

      by_slot : (at : Option ℕ) → slot_of records key ≡ at
          → option_and_then (λ slot. option_and_then (found_by closed slot) (slice_get closed slot)) at
          ≡ option_and_then (λ slot. option_and_then (found_by records slot) (slice_get records slot)) at
      by_slot None none = refl
      by_slot (Some slot) found =
          let lt = key_inside records slot key (slot_has_key records key slot found) in
          ap (option_and_then (found_by closed slot)) (get_before records (Settled settled ∷ []) slot lt) ∙ by_record slot lt (slice_get records slot)

  open_slot_stays : (poi : List ℕ) → open_slot closed poi ≡ open_slot records poi
  open_slot_stays poi = ap (λ (a : Account). a.unresolved) (account_push records (Settled settled) poi) ∙ by_test (same_text poi settled.poi)
    where
      by_test : (b : Bool) → (if b then account_with (length records) (Settled settled) (account_of records poi) else account_of records poi).unresolved ≡ open_slot records poi
      by_test true = refl
      by_test false = refl

  last_number_stays : (poi : List ℕ) → last_number_of closed poi ≡ last_number_of records poi
  last_number_stays poi = ap (λ (a : Account). a.trace) (account_push records (Settled settled) poi) ∙ by_test (same_text poi settled.poi)
    where
      by_test : (b : Bool) → (if b then account_with (length records) (Settled settled) (account_of records poi) else account_of records poi).trace ≡ last_number_of records poi
      by_test true = refl
      by_test false = refl

  open_entry_stays : (poi : List ℕ) → open_entry closed poi ≡ open_entry records poi
  open_entry_stays poi = ap (option_and_then (entry_at closed)) (open_slot_stays poi) ∙ by_slot (open_slot records poi)
    where
      by_slot : (at : Option ℕ) → option_and_then (entry_at closed) at ≡ option_and_then (entry_at records) at
      by_slot None = refl
      by_slot (Some slot) = entries_stay slot

  pub open_stays : HaveSameOpen records closed
  open_stays = record { entries = open_entry_stays; traces = last_number_stays; count = rw (history-push records (Settled settled)) refl }

  payment_is_settled : (entry : TheEntry) → IsEndedPayment records settled.poi entry → is_settled closed entry.slot ≡ true
  payment_is_settled entry payment =
      let ended = ended_slot records entry payment.kept payment.ended in
      let asked = (entry_parts records entry.slot entry payment.kept).1 in
      let outcome = of_all EndsAtOutcomes ends_step no_ends records entry.slot ended.0 ended.1 in
      let asked_now : intent_at closed entry.slot ≡ Some entry.intent = intent_stays settled records entry.slot ∙ asked in
      let ended_now : ended_at closed entry.slot ≡ Some ended.0 = ended_stays entry.slot (intent_inside records entry.slot (ap is_some asked)) ∙ ended.1 in
      (settled_is_after closed entry.slot ended.0 entry.intent asked_now payment.what ended_now).1 (record {
        at = length records;
        settled = settled;
        found = get_last records (Settled settled);
        poi_is = sym payment.poi_is;
        after = slice_get_within records ended.0 (Outcome outcome.outcome) outcome.found;
      })

  pub payments_are_settled : (entry : TheEntry) → IsEndedPayment records settled.poi entry
      → (is_settled closed entry.slot ≡ true) × ((intent : TheIntent) → may_reverse closed intent (Some entry.slot) ≡ false)
  payments_are_settled entry payment =
      let done = payment_is_settled entry payment in (
        done,
        λ intent. last_fails (is_approved_payment intent.poi intent.currency intent.amount (entry_at closed entry.slot)) (is_reversed closed entry.slot) (is_settled closed entry.slot) done,
      )
