-- The tables after an Outcome.
use Rattle.std.proofs.Common.{◌≡◌, ◌∙◌, ℕ, ◌+◌, ◌<◌, eqb, Bool, true, false, ◌&&◌, cond, List, [], ◌∷◌, ◌++◌, length, take, Option, Some, None, IsSome, slice_get, refl, sym, ap, arith, inl, inr}
use Rattle.std.specs.Ordering.{is_eq, nat_cmp}
use Rattle.std.proofs.lemmas.Bool.{cases_lt}
use Rattle.std.proofs.lemmas.List.{take-append-le, length-append}
use Rattle.gw_base.specs.declared.currency.Currency.{Currency}
use Rattle.gw_base.specs.declared.key.Key.{Key}
use Rattle.jrn_record.specs.declared.records.Record.{Record}
use Rattle.jrn_record.specs.declared.records.Record.TheVariants.{Outcome, Settled}
use Rattle.jrn_record.specs.declared.records.Intent.{Intent as TheIntent}
use Rattle.jrn_record.specs.declared.records.Outcome.{Outcome as TheOutcome}
use Rattle.jrn_record.specs.declared.records.Deal.{Deal}
use Rattle.jrn_record.specs.declared.records.Deal.TheVariants.{Payment, Reversal}
use Rattle.std.specs.Prelude.{◌-◌, not, if◌then◌else◌, option_map}
use Rattle.jrn_record.specs.declared.records.Settled.{Settled as TheSettled}
use Rattle.gw_ledger.specs.declared.account.Desk.{Desk}
use Rattle.gw_ledger.specs.declared.account.Sums.{Sums}
use Rattle.gw_ledger.specs.declared.tables.Mark.{Mark}
use Rattle.gw_ledger.specs.declared.totals.Tally.{Tally}
use Rattle.gw_ledger.specs.declared.totals.Totals.{Totals}
use Rattle.gw_ledger.specs.Accounts.{account_of, account_with}
use Rattle.gw_ledger.specs.History.{same_text}
use Rattle.gw_ledger.specs.Keys.{last_slot, slot_of}
use Rattle.gw_ledger.specs.Slots.{intent_at, is_original}
use Rattle.gw_ledger.specs.Sums.{one_if, same_currency, counts_in, count_of, units_sum_of, sums_of, tally_of, totals_of, Debit, ReverseDebit}
use Rattle.gw_ledger.specs.Table.{value_at}
use Rattle.gw_ledger.specs.Tables.{account_in_row, mark_of, poi_cmp, sums_in_row}
use Rattle.gw_ledger.proofs.RecordLemmas.{get_before, get_last, get_push, intent_push}
use Rattle.gw_ledger.proofs.HistoryLemmas.{history-push}
use Rattle.gw_ledger.proofs.TieLemmas.{eqb_above, eqb_same, plus_zero, same_text-is, some_stays}
use Rattle.gw_ledger.specs.Steps.{marks_with, sums_added, sums_with, tally_with}
use Rattle.gw_ledger.proofs.MarkLemmas.{after_mark, get_marked, length-marked}

module _ (records : List Record) (outcome : TheOutcome) (intent : TheIntent) (asked : intent_at records outcome.slot ≡ Some intent) where
  pub keys_after : (key : Key) → slot_of (records ++ Outcome outcome ∷ []) key ≡ slot_of records key
  keys_after key = rw (history-push records (Outcome outcome)) refl

  pub lasts_after : (sale poi : List ℕ) → last_slot (records ++ Outcome outcome ∷ []) sale poi ≡ last_slot records sale poi
  lasts_after sale poi = rw (history-push records (Outcome outcome)) refl

  marks_after : (slot : ℕ) → slot < length records
      → after_mark (length records) (eqb outcome.slot slot) (outcome.approved && is_original slot intent.original) (mark_of records slot)
      ≡ mark_of (records ++ Outcome outcome ∷ []) slot
  marks_after slot lt = rw (history-push records (Outcome outcome), eqb_above (length records) slot lt, asked) refl

  mark_new : mark_of (records ++ Outcome outcome ∷ []) (length records) ≡ record { ended = None; reversed = false }
  mark_new = rw (history-push records (Outcome outcome), eqb_same (length records)) refl

  pub marks_are_after : (marks : List Mark) → length marks ≡ length records
      → ((slot : ℕ) → slot < length records → slice_get marks slot ≡ Some (mark_of records slot))
      → (slot : ℕ) → slot < length (records ++ Outcome outcome ∷ [])
      → slice_get (marks_with outcome intent.original (length records) marks ++ record { ended = None; reversed = false } ∷ []) slot ≡ Some (mark_of (records ++ Outcome outcome ∷ []) slot)
  marks_are_after marks len are slot inside =
      let now = marks_with outcome intent.original (length records) marks in
      let kept : length now ≡ length records = length-marked outcome intent.original (length records) marks ∙ len in
      elim (cases_lt slot (length records)) [
        | inl before ↦ get_before now _ slot (omega arith) ∙ get_marked outcome intent.original (length records) marks slot
            ∙ ap (option_map (after_mark (length records) (eqb outcome.slot slot) (outcome.approved && is_original slot intent.original))) (are slot before)
            ∙ ap Some (marks_after slot before)
        | inr after ↦
            let inside' : slot < length records + 1 = omega (arith, length-append {A = Record}) in
            let same : slot ≡ length records = omega arith in
            let last : slot ≡ length now = omega arith in
            ap (slice_get (now ++ record { ended = None; reversed = false } ∷ [])) last ∙ get_last now _ ∙ ap Some (sym (ap (mark_of (records ++ Outcome outcome ∷ [])) same ∙ mark_new))
      ]

  module _ (desk : Desk) (poi : List ℕ) (old : Option Desk) where
    account_by_tie : (b : Bool) → same_text poi intent.poi ≡ b
        → desk.account ≡ account_with (length records) (Outcome outcome) (account_of records intent.poi) → account_in_row old ≡ account_of records poi
        → account_in_row (cond b (Some desk) old) ≡ cond b (account_with (length records) (Outcome outcome) (account_of records poi)) (account_of records poi)
    account_by_tie true tie new are = rw (same_text-is poi intent.poi tie) new
    account_by_tie false tie new are = are

    pub account_after : desk.account ≡ account_with (length records) (Outcome outcome) (account_of records intent.poi) → account_in_row old ≡ account_of records poi
        → account_in_row (cond (is_eq (poi_cmp poi intent.poi)) (Some desk) old) ≡ account_of (records ++ Outcome outcome ∷ []) poi
    account_after new are = rw (history-push records (Outcome outcome), asked) (account_by_tie (same_text poi intent.poi) refl new are)

    -- the sums with one more that is of this terminal, of this currency, and approved, or isn't
    sums_by : (currency : Currency) (approved tie same : Bool) (what : Deal) → Sums
    sums_by currency approved tie same what = record {
      debit = (
        count_of records poi currency Debit + one_if (approved && (tie && same && counts_in Debit what)),
        units_sum_of records poi currency Debit + (if approved && (tie && same && counts_in Debit what) then outcome.amount else 0),
      );
      reversed = (
        count_of records poi currency ReverseDebit + one_if (approved && (tie && same && counts_in ReverseDebit what)),
        units_sum_of records poi currency ReverseDebit + (if approved && (tie && same && counts_in ReverseDebit what) then outcome.amount else 0),
      );
    }

    sums_are_by : (currency : Currency) (approved tie same : Bool) (what : Deal)
        → cond tie (if approved && same then sums_added what outcome.amount (sums_of records poi currency) else sums_of records poi currency) (sums_of records poi currency)
        ≡ sums_by currency approved tie same what
    unfolding sums_by
    sums_are_by currency true true true Payment = simp plus_zero
    sums_are_by currency true true true Reversal = simp plus_zero
    sums_are_by currency true true false what = simp plus_zero
    sums_are_by currency true false same what = simp plus_zero
    sums_are_by currency false true same what = simp plus_zero
    sums_are_by currency false false same what = simp plus_zero

    sums_of_by : (currency : Currency) → sums_by currency outcome.approved (same_text poi intent.poi) (same_currency currency intent.currency) intent.what
        ≡ sums_of (records ++ Outcome outcome ∷ []) poi currency
    unfolding sums_by
    sums_of_by currency = rw (history-push records (Outcome outcome), asked) refl

    sums_by_tie : (currency : Currency) (b : Bool) → same_text poi intent.poi ≡ b
        → sums_in_row (Some desk) currency ≡ sums_with intent outcome currency (sums_of records intent.poi currency) → sums_in_row old currency ≡ sums_of records poi currency
        → sums_in_row (cond b (Some desk) old) currency ≡ cond b (sums_with intent outcome currency (sums_of records poi currency)) (sums_of records poi currency)
    sums_by_tie currency true tie new are = rw (same_text-is poi intent.poi tie) new
    sums_by_tie currency false tie new are = are

    pub sums_after : (currency : Currency)
        → sums_in_row (Some desk) currency ≡ sums_with intent outcome currency (sums_of records intent.poi currency) → sums_in_row old currency ≡ sums_of records poi currency
        → sums_in_row (cond (is_eq (poi_cmp poi intent.poi)) (Some desk) old) currency ≡ sums_of (records ++ Outcome outcome ∷ []) poi currency
    sums_after currency new are =
        sums_by_tie currency (same_text poi intent.poi) refl new are
        ∙ sums_are_by currency outcome.approved (same_text poi intent.poi) (same_currency currency intent.currency) intent.what
        ∙ sums_of_by currency

  pub desks_after : (desk : Desk) (desks new : List (List ℕ × Desk))
      → ((poi : List ℕ) → value_at poi_cmp new poi ≡ cond (is_eq (poi_cmp poi intent.poi)) (Some desk) (value_at poi_cmp desks poi))
      → ((slot : ℕ) (other : TheIntent) → intent_at records slot ≡ Some other → IsSome (value_at poi_cmp desks other.poi))
      → (slot : ℕ) (other : TheIntent) → intent_at (records ++ Outcome outcome ∷ []) slot ≡ Some other → IsSome (value_at poi_cmp new other.poi)
  desks_after desk desks new values have slot other found = elim (intent_push records (Outcome outcome) slot other found) [
    | inl before ↦ rw (values other.poi) (some_stays (is_eq (poi_cmp other.poi intent.poi)) desk (value_at poi_cmp desks other.poi) (have slot other before.1))
    | inr last ↦ cc (last.1)
  ]

  pub closings_after : (closings : List (ℕ × Totals))
      → ((slot : ℕ) (settled : TheSettled) → slice_get records slot ≡ Some (Settled settled) → value_at nat_cmp closings slot ≡ Some (totals_of (take slot records) settled.poi settled.currency))
      → (slot : ℕ) (settled : TheSettled) → slice_get (records ++ Outcome outcome ∷ []) slot ≡ Some (Settled settled)
      → value_at nat_cmp closings slot ≡ Some (totals_of (take slot (records ++ Outcome outcome ∷ [])) settled.poi settled.currency)
  closings_after closings are slot settled found = elim (get_push records (Outcome outcome) slot (Settled settled) found) [
    | inl before ↦ are slot settled before.1 ∙ ap (λ past. Some (totals_of past settled.poi settled.currency)) (sym (take-append-le slot records (Outcome outcome ∷ []) (omega (arith, before.0))))
    | inr last ↦ absurd (not_settled last.1)
  ]
    where
      not_settled : {settled : TheSettled} → Outcome outcome ≡ Settled settled → ⊥
      not_settled same = cc

  -- the tally with one more Outcome that is approved, or isn't
  tally_by : Bool → Tally → Tally
  tally_by approved tally = record {
    accepted = tally.accepted + 0;
    approved = tally.approved + one_if approved;
    declined = tally.declined + one_if (not approved);
    unresolved = tally.unresolved - 1;
    sum = tally.sum + (if approved then outcome.amount else 0);
  }

  tally_is_by : (approved : Bool) (tally : Tally)
      → (if approved
      then record { accepted = tally.accepted; approved = tally.approved + 1; declined = tally.declined; unresolved = tally.unresolved - 1; sum = tally.sum + outcome.amount }
      else record { accepted = tally.accepted; approved = tally.approved; declined = tally.declined + 1; unresolved = tally.unresolved - 1; sum = tally.sum })
      ≡ tally_by approved tally
  unfolding tally_by
  tally_is_by true tally = simp plus_zero
  tally_is_by false tally = simp plus_zero

  tally_of_by : tally_by outcome.approved (tally_of records) ≡ tally_of (records ++ Outcome outcome ∷ [])
  unfolding tally_by
  tally_of_by = rw (history-push records (Outcome outcome)) refl

  pub tally_after : (tally : Tally) → tally ≡ tally_of records → tally_with outcome tally ≡ tally_of (records ++ Outcome outcome ∷ [])
  tally_after tally are = rw are (tally_is_by outcome.approved (tally_of records) ∙ tally_of_by)

  unresolved_by : (approved : Bool) (tally : Tally) → (tally_by approved tally).unresolved ≡ tally.unresolved - 1
  unfolding tally_by
  unresolved_by approved tally = refl

  pub unresolved_after : (tally : Tally) → (tally_with outcome tally).unresolved ≡ tally.unresolved - 1
  unresolved_after tally = ap (λ (t : Tally). t.unresolved) (tally_is_by outcome.approved tally) ∙ unresolved_by outcome.approved tally
