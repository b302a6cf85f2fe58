-- The tables after an Intent.
use Rattle.std.proofs.Common.{◌≡◌, ◌∙◌, ℕ, ◌+◌, ◌<◌, Bool, true, false, cond, List, [], ◌∷◌, ◌++◌, length, take, Option, Some, None, IsSome, slice_get, refl, sym, ap, subst, arith, inl, inr}
use Rattle.std.specs.Ordering.{is_eq, nat_cmp}
use Rattle.std.specs.Cmp.Lexicographic.{slice_cmp}
use Rattle.std.proofs.lemmas.Bool.{cases_lt}
use Rattle.std.proofs.lemmas.List.{take-append-le, length-append}
use Rattle.gw_base.specs.Key.{key_cmp}
use Rattle.gw_base.specs.declared.currency.Currency.{Currency}
use Rattle.gw_base.specs.declared.key.Key.{Key}
use Rattle.jrn_record.specs.declared.records.Record.{Record}
use Rattle.jrn_record.specs.declared.records.Record.TheVariants.{Intent, Settled}
use Rattle.jrn_record.specs.declared.records.Intent.{Intent as TheIntent}
use Rattle.jrn_record.specs.declared.records.Settled.{Settled as TheSettled}
use Rattle.gw_ledger.specs.declared.account.Desk.{Desk}
use Rattle.gw_ledger.specs.declared.tables.Mark.{Mark}
use Rattle.gw_ledger.specs.declared.totals.Tally.{Tally}
use Rattle.gw_ledger.specs.declared.totals.Totals.{Totals}
use Rattle.gw_ledger.specs.Accounts.{account_of, account_with}
use Rattle.gw_ledger.specs.History.{same_text}
use Rattle.gw_ledger.specs.Keys.{intent_key, last_slot, slot_of}
use Rattle.gw_ledger.specs.Slots.{intent_at}
use Rattle.gw_ledger.specs.Sums.{sums_of, tally_of, totals_of}
use Rattle.gw_ledger.specs.Table.{value_at}
use Rattle.gw_ledger.specs.Tables.{account_in_row, mark_of, pair_cmp, poi_cmp, sums_in_row}
use Rattle.gw_ledger.proofs.RecordLemmas.{get_before, get_last, get_push, intent_push}
use Rattle.gw_ledger.proofs.HistoryLemmas.{history-push}
use Rattle.gw_ledger.proofs.TieLemmas.{eqb_above, eqb_same, plus_zero, same_text-is, same_text-itself, some_here, some_stays, ties_in_turn}

module _ (records : List Record) (intent : TheIntent) where
  pub keys_after : (key : Key) (keys : List (Key × ℕ)) → value_at key_cmp keys key ≡ slot_of records key
      → cond (is_eq (key_cmp key (intent_key intent))) (Some (length records)) (value_at key_cmp keys key) ≡ slot_of (records ++ Intent intent ∷ []) key
  keys_after key keys are = rw (history-push records (Intent intent), are) refl

  pub lasts_after : (sale poi : List ℕ) (old : Option ℕ) → old ≡ last_slot records sale poi
      → cond (is_eq (pair_cmp (sale, poi) (intent.sale, intent.poi))) (Some (length records)) old ≡ last_slot (records ++ Intent intent ∷ []) sale poi
  lasts_after sale poi old are =
      rw (history-push records (Intent intent), are)
      (ap (λ b. cond b (Some (length records)) (last_slot records sale poi))
      (sym (ties_in_turn (slice_cmp nat_cmp sale intent.sale) (slice_cmp nat_cmp poi intent.poi))))

  marks_after : (slot : ℕ) → slot < length records → mark_of (records ++ Intent intent ∷ []) slot ≡ mark_of records slot
  marks_after slot lt = rw (history-push records (Intent intent), eqb_above (length records) slot lt) refl

  mark_new : mark_of (records ++ Intent intent ∷ []) (length records) ≡ record { ended = None; reversed = false }
  mark_new = rw (history-push records (Intent intent), eqb_same (length records)) refl

  pub marks_are_after : (marks : List Mark) → length marks ≡ length records
      → ((slot : ℕ) → slot < length records → slice_get marks slot ≡ Some (mark_of records slot))
      → (slot : ℕ) → slot < length (records ++ Intent intent ∷ [])
      → slice_get (marks ++ record { ended = None; reversed = false } ∷ []) slot ≡ Some (mark_of (records ++ Intent intent ∷ []) slot)
  marks_are_after marks len are slot inside = elim (cases_lt slot (length records)) [
    | inl before ↦ get_before marks _ slot (omega arith) ∙ are slot before ∙ ap Some (sym (marks_after slot before))
    | inr after ↦
        let inside' : slot < length records + 1 = omega (arith, length-append {A = Record}) in
        let same : slot ≡ length records = omega arith in
        let last : slot ≡ length marks = omega arith in
        ap (slice_get (marks ++ record { ended = None; reversed = false } ∷ [])) last ∙ get_last marks _ ∙ ap Some (sym (ap (mark_of (records ++ Intent intent ∷ [])) same ∙ mark_new))
  ]

  module _ (desk : Desk) (poi : List ℕ) (old : Option Desk) where
    account_by_tie : (b : Bool) → same_text poi intent.poi ≡ b
        → desk.account ≡ account_with (length records) (Intent intent) (account_of records intent.poi) → account_in_row old ≡ account_of records poi
        → account_in_row (cond b (Some desk) old) ≡ cond b (account_with (length records) (Intent intent) (account_of records poi)) (account_of records poi)
    account_by_tie true tie new are = rw (same_text-is poi intent.poi tie) new
    account_by_tie false tie new are = are

    pub account_after : desk.account ≡ account_with (length records) (Intent intent) (account_of records intent.poi) → account_in_row old ≡ account_of records poi
        → account_in_row (cond (is_eq (poi_cmp poi intent.poi)) (Some desk) old) ≡ account_of (records ++ Intent intent ∷ []) poi
    account_after new are = rw (history-push records (Intent intent)) (account_by_tie (same_text poi intent.poi) refl new are)

    sums_same : (currency : Currency) → sums_of (records ++ Intent intent ∷ []) poi currency ≡ sums_of records poi currency
    sums_same currency = rw (history-push records (Intent intent)) (simp plus_zero)

    sums_by_tie : (currency : Currency) (b : Bool) → same_text poi intent.poi ≡ b
        → sums_in_row (Some desk) currency ≡ sums_of records intent.poi currency → sums_in_row old currency ≡ sums_of records poi currency
        → sums_in_row (cond b (Some desk) old) currency ≡ sums_of records poi currency
    sums_by_tie currency true tie new are = rw (same_text-is poi intent.poi tie) new
    sums_by_tie currency false tie new are = are

    pub sums_after : (currency : Currency)
        → sums_in_row (Some desk) currency ≡ sums_of records intent.poi currency → sums_in_row old currency ≡ sums_of records poi currency
        → sums_in_row (cond (is_eq (poi_cmp poi intent.poi)) (Some desk) old) currency ≡ sums_of (records ++ Intent intent ∷ []) poi currency
    sums_after currency new are = sums_by_tie currency (same_text poi intent.poi) refl new are ∙ sym (sums_same currency)

  pub desks_after : (desk : Desk) (desks new : List (List ℕ × Desk))
      → ((poi : List ℕ) → value_at poi_cmp new poi ≡ cond (is_eq (poi_cmp poi intent.poi)) (Some desk) (value_at poi_cmp desks poi))
      → ((slot : ℕ) (asked : TheIntent) → intent_at records slot ≡ Some asked → IsSome (value_at poi_cmp desks asked.poi))
      → (slot : ℕ) (asked : TheIntent) → intent_at (records ++ Intent intent ∷ []) slot ≡ Some asked → IsSome (value_at poi_cmp new asked.poi)
  desks_after desk desks new values have slot asked found = elim (intent_push records (Intent intent) slot asked found) [
    | inl before ↦ rw (values asked.poi) (some_stays (is_eq (poi_cmp asked.poi intent.poi)) desk (value_at poi_cmp desks asked.poi) (have slot asked before.1))
    | inr last ↦
        let same : intent ≡ asked = cc (last.1) in
        rw (values asked.poi) (some_here (is_eq (poi_cmp asked.poi intent.poi)) desk (value_at poi_cmp desks asked.poi)
        (subst (λ (i : TheIntent). is_eq (poi_cmp i.poi intent.poi) ≡ true) same (same_text-itself intent.poi)))
  ]

  pub closings_after : (closings : List (ℕ × Totals))
      → ((slot : ℕ) (settled : TheSettled) → slice_get records slot ≡ Some (Settled settled) → value_at nat_cmp closings slot ≡ Some (totals_of (take slot records) settled.poi settled.currency))
      → (slot : ℕ) (settled : TheSettled) → slice_get (records ++ Intent intent ∷ []) slot ≡ Some (Settled settled)
      → value_at nat_cmp closings slot ≡ Some (totals_of (take slot (records ++ Intent intent ∷ [])) settled.poi settled.currency)
  closings_after closings are slot settled found = elim (get_push records (Intent intent) slot (Settled settled) found) [
    | inl before ↦ are slot settled before.1 ∙ ap (λ past. Some (totals_of past settled.poi settled.currency)) (sym (take-append-le slot records (Intent intent ∷ []) (omega (arith, before.0))))
    | inr last ↦ absurd (not_settled last.1)
  ]
    where
      not_settled : {settled : TheSettled} → Intent intent ≡ Settled settled → ⊥
      not_settled same = cc

  pub tally_after : (tally : Tally) → tally ≡ tally_of records
      → record tally { accepted = tally.accepted + 1; unresolved = tally.unresolved + 1 } ≡ tally_of (records ++ Intent intent ∷ [])
  tally_after tally are = rw (history-push records (Intent intent), are) (simp plus_zero)
