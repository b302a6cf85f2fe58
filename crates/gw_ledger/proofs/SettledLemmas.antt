-- The tables after a Settled.
use Rattle.std.proofs.Common.{◌≡◌, ◌∙◌, ℕ, ◌+◌, ◌<◌, Bool, true, false, cond, List, [], ◌∷◌, ◌++◌, length, take, Option, Some, None, IsSome, slice_get, refl, sym, ap, arith, inl, inr}
use Rattle.std.specs.Ordering.{is_eq, nat_cmp}
use Rattle.std.proofs.lemmas.Bool.{cases_lt}
use Rattle.std.proofs.lemmas.List.{take-append-le, length-append}
use Rattle.gw_base.specs.Key.{key_cmp}
use Rattle.gw_base.specs.declared.currency.Currency.{Currency}
use Rattle.std.proofs.Math.Seq.{take-append_seam}
use Rattle.std.specs.Prelude.{if◌then◌else◌}
use Rattle.gw_base.specs.declared.key.Key.{Key}
use Rattle.jrn_record.specs.declared.records.Record.{Record}
use Rattle.jrn_record.specs.declared.records.Record.TheVariants.{Settled}
use Rattle.jrn_record.specs.declared.records.Intent.{Intent as TheIntent}
use Rattle.jrn_record.specs.declared.records.Settled.{Settled as TheSettled}
use Rattle.gw_ledger.specs.declared.account.Desk.{Desk}
use Rattle.gw_ledger.specs.declared.account.Sums.{Sums}
use Rattle.gw_ledger.specs.declared.tables.Mark.{Mark}
use Rattle.gw_ledger.specs.declared.totals.Tally.{Tally}
use Rattle.gw_ledger.specs.declared.totals.Totals.{Totals}
use Rattle.gw_ledger.specs.Accounts.{account_of, account_with}
use Rattle.gw_ledger.specs.History.{Placed, history, same_text}
use Rattle.gw_ledger.specs.Keys.{settled_key, last_slot, slot_of}
use Rattle.gw_ledger.specs.Slots.{intent_at}
use Rattle.gw_ledger.specs.Sums.{approves, units_in, one_if, sums_of, sum_over, tally_of, totals_of, unsettled, Debit, ReverseDebit}
use Rattle.gw_ledger.specs.Table.{value_at}
use Rattle.gw_ledger.specs.Tables.{account_in_row, no_sums, mark_of, poi_cmp, sums_in_row}
use Rattle.gw_ledger.proofs.RecordLemmas.{get_before, get_last, get_push, intent_push}
use Rattle.gw_ledger.proofs.HistoryLemmas.{history-push}
use Rattle.gw_ledger.proofs.TieLemmas.{eqb_above, eqb_same, nat_apart, nat_tie, plus_zero, same_text-is, some_stays}

module _ (records : List Record) (settled : TheSettled) where
  pub keys_after : (key : Key) (keys : List (Key × ℕ)) → value_at key_cmp keys key ≡ slot_of records key
      → cond (is_eq (key_cmp key (settled_key settled))) (Some (length records)) (value_at key_cmp keys key) ≡ slot_of (records ++ Settled settled ∷ []) key
  keys_after key keys are = rw (history-push records (Settled settled), are) refl

  pub lasts_after : (sale poi : List ℕ) → last_slot (records ++ Settled settled ∷ []) sale poi ≡ last_slot records sale poi
  lasts_after sale poi = rw (history-push records (Settled settled)) refl

  marks_after : (slot : ℕ) → slot < length records → mark_of (records ++ Settled settled ∷ []) slot ≡ mark_of records slot
  marks_after slot lt = rw (history-push records (Settled settled), eqb_above (length records) slot lt) refl

  mark_new : mark_of (records ++ Settled settled ∷ []) (length records) ≡ record { ended = None; reversed = false }
  mark_new = rw (history-push records (Settled settled), eqb_same (length records)) refl

  pub marks_are_after : (marks : List Mark) → length marks ≡ length records
      → ((slot : ℕ) → slot < length records → slice_get marks slot ≡ Some (mark_of records slot))
      → (slot : ℕ) → slot < length (records ++ Settled settled ∷ [])
      → slice_get (marks ++ record { ended = None; reversed = false } ∷ []) slot ≡ Some (mark_of (records ++ Settled settled ∷ []) slot)
  marks_are_after marks len are slot inside = elim (cases_lt slot (length records)) [
    | inl before ↦ get_before marks _ slot (omega arith) ∙ are slot before ∙ ap Some (sym (marks_after slot before))
    | inr after ↦
        let inside' : slot < length records + 1 = omega (arith, length-append {A = Record}) in
        let same : slot ≡ length records = omega arith in
        let last : slot ≡ length marks = omega arith in
        ap (slice_get (marks ++ record { ended = None; reversed = false } ∷ [])) last ∙ get_last marks _ ∙ ap Some (sym (ap (mark_of (records ++ Settled settled ∷ [])) same ∙ mark_new))
  ]

  module _ (desk : Desk) (poi : List ℕ) (old : Option Desk) where
    account_by_tie : (b : Bool) → same_text poi settled.poi ≡ b
        → desk.account ≡ account_with (length records) (Settled settled) (account_of records settled.poi) → account_in_row old ≡ account_of records poi
        → account_in_row (cond b (Some desk) old) ≡ cond b (account_with (length records) (Settled settled) (account_of records poi)) (account_of records poi)
    account_by_tie true tie new are = rw (same_text-is poi settled.poi tie) new
    account_by_tie false tie new are = are

    pub account_after : desk.account ≡ account_with (length records) (Settled settled) (account_of records settled.poi) → account_in_row old ≡ account_of records poi
        → account_in_row (cond (is_eq (poi_cmp poi settled.poi)) (Some desk) old) ≡ account_of (records ++ Settled settled ∷ []) poi
    account_after new are = rw (history-push records (Settled settled)) (account_by_tie (same_text poi settled.poi) refl new are)

    -- the sums over the records after the last Settled, where the new one is of this terminal, or isn't
    sums_with : Bool → Currency → Sums
    sums_with b currency = record {
      debit = (sum_over (λ before the_record. one_if (approves poi currency Debit before the_record)) (past b), sum_over (λ before the_record. if approves poi currency Debit before the_record then units_in the_record else 0) (past b));
      reversed = (sum_over (λ before the_record. one_if (approves poi currency ReverseDebit before the_record)) (past b), sum_over (λ before the_record. if approves poi currency ReverseDebit before the_record then units_in the_record else 0) (past b));
    }
      where
        past : Bool → List Placed
        past b = if b then [] else record { before = records; the_record = Settled settled } ∷ unsettled poi (history records)

    sums_by_tie : (currency : Currency) (b : Bool)
        → sums_in_row (Some desk) currency ≡ no_sums → sums_in_row old currency ≡ sums_of records poi currency
        → sums_in_row (cond b (Some desk) old) currency ≡ sums_with b currency
    unfolding history sums_with
    sums_by_tie currency true new are = new
    sums_by_tie currency false new are = are ∙ simp plus_zero

    pub sums_after : (currency : Currency)
        → sums_in_row (Some desk) currency ≡ no_sums → sums_in_row old currency ≡ sums_of records poi currency
        → sums_in_row (cond (is_eq (poi_cmp poi settled.poi)) (Some desk) old) currency ≡ sums_of (records ++ Settled settled ∷ []) poi currency
    unfolding sums_with
    sums_after currency new are = rw (history-push records (Settled settled)) (sums_by_tie currency (same_text poi settled.poi) new are)

  pub desks_after : (desk : Desk) (desks new : List (List ℕ × Desk))
      → ((poi : List ℕ) → value_at poi_cmp new poi ≡ cond (is_eq (poi_cmp poi settled.poi)) (Some desk) (value_at poi_cmp desks poi))
      → ((slot : ℕ) (asked : TheIntent) → intent_at records slot ≡ Some asked → IsSome (value_at poi_cmp desks asked.poi))
      → (slot : ℕ) (asked : TheIntent) → intent_at (records ++ Settled settled ∷ []) slot ≡ Some asked → IsSome (value_at poi_cmp new asked.poi)
  desks_after desk desks new values have slot asked found = elim (intent_push records (Settled settled) slot asked found) [
    | inl before ↦ rw (values asked.poi) (some_stays (is_eq (poi_cmp asked.poi settled.poi)) desk (value_at poi_cmp desks asked.poi) (have slot asked before.1))
    | inr last ↦ cc (last.1)
  ]

  pub closings_after : (closings new : List (ℕ × Totals)) (totals : Totals) → totals ≡ totals_of records settled.poi settled.currency
      → ((slot : ℕ) → value_at nat_cmp new slot ≡ cond (is_eq (nat_cmp slot (length records))) (Some totals) (value_at nat_cmp closings slot))
      → ((slot : ℕ) (closing : TheSettled) → slice_get records slot ≡ Some (Settled closing) → value_at nat_cmp closings slot ≡ Some (totals_of (take slot records) closing.poi closing.currency))
      → (slot : ℕ) (closing : TheSettled) → slice_get (records ++ Settled settled ∷ []) slot ≡ Some (Settled closing)
      → value_at nat_cmp new slot ≡ Some (totals_of (take slot (records ++ Settled settled ∷ [])) closing.poi closing.currency)
  closings_after closings new totals totals_are values are slot closing found = elim (get_push records (Settled settled) slot (Settled closing) found) [
    | inl before ↦
        values slot ∙ ap (λ b. cond b (Some totals) (value_at nat_cmp closings slot)) (nat_apart slot (length records) before.0)
        ∙ are slot closing before.1 ∙ ap (λ past. Some (totals_of past closing.poi closing.currency)) (sym (take-append-le slot records (Settled settled ∷ []) (omega (arith, before.0))))
    | inr last ↦
        let same : settled ≡ closing = cc (last.1) in
        values slot ∙ ap (λ b. cond b (Some totals) (value_at nat_cmp closings slot)) (nat_tie slot (length records) last.0)
        ∙ ap Some (totals_are ∙ ap (λ (s : TheSettled). totals_of records s.poi s.currency) same
        ∙ ap (λ past. totals_of past closing.poi closing.currency) (sym (ap (λ n. take n (records ++ Settled settled ∷ [])) last.0 ∙ take-append_seam records (Settled settled ∷ []))))
  ]

  pub tally_after : (tally : Tally) → tally ≡ tally_of records → tally ≡ tally_of (records ++ Settled settled ∷ [])
  tally_after tally are = rw (history-push records (Settled settled), are) (simp plus_zero)
