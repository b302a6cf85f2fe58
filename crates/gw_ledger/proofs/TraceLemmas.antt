-- A terminal's last trace number is the greatest in its records.
use Rattle.std.proofs.Common.{◌≡◌, ◌∙◌, ℕ, zero, suc, ◌≤◌, Bool, true, false, List, [], ◌∷◌, length, Some, slice_get, refl, sym, subst, arith, ◌⊎◌, inl, inr}
use Rattle.std.specs.Prelude.{if◌then◌else◌}
use Rattle.std.proofs.lemmas.Bool.{cases_lt}
use Rattle.std.proofs.lemmas.Option.{same_Some}
use Rattle.jrn_record.specs.declared.records.Record.{Record}
use Rattle.jrn_record.specs.declared.records.Record.TheVariants.{Intent, Outcome, Settled}
use Rattle.gw_ledger.specs.declared.account.Account.{Account}
use Rattle.gw_ledger.specs.Accounts.{account_in, account_with, last_number_of}
use Rattle.gw_ledger.specs.History.{Placed, history}
use Rattle.gw_ledger.specs.Laws.{IsTraceOf, is_of_poi, trace_in}

-- one of these records has the trace number
record HasTrace (poi : List ℕ) (past : List Placed) (trace : ℕ) : Type 0 where
  at : ℕ
  placed : Placed
  found : slice_get past at ≡ Some placed
  of_poi : is_of_poi poi placed ≡ true
  trace_is : trace_in placed.the_record ≡ trace

trace_after : (slot : ℕ) (the_record : Record) (account : Account) → trace_in the_record ≤ (account_with slot the_record account).trace
trace_after slot (Intent intent) account = omega arith
trace_after slot (Outcome outcome) account = omega arith
trace_after slot (Settled settled) account = omega arith

trace_stays : (slot : ℕ) (the_record : Record) (account : Account) → account.trace ≤ (account_with slot the_record account).trace
trace_stays slot (Intent intent) account = omega arith
trace_stays slot (Outcome outcome) account = omega arith
trace_stays slot (Settled settled) account = omega arith

-- the trace number after a record is that before it, or the record's own
trace_cases : (slot : ℕ) (the_record : Record) (account : Account)
    → ((account_with slot the_record account).trace ≡ account.trace) ⊎ ((account_with slot the_record account).trace ≡ trace_in the_record)
trace_cases slot (Intent intent) account = elim (cases_lt account.trace intent.before) [ inl lt ↦ inr (omega arith) | inr ge ↦ inl (omega arith) ]
trace_cases slot (Outcome outcome) account = elim (cases_lt account.trace outcome.number) [ inl lt ↦ inr (omega arith) | inr ge ↦ inl (omega arith) ]
trace_cases slot (Settled settled) account = inl refl

module _ (poi : List ℕ) where
  grows : (p : Placed) (account : Account) (b : Bool) → account.trace ≤ (if b then account_with (length p.before) p.the_record account else account).trace
  grows p account true = trace_stays (length p.before) p.the_record account
  grows p account false = omega arith

  traces_below : (past : List Placed) (at : ℕ) (p : Placed) → slice_get past at ≡ Some p → is_of_poi poi p ≡ true → trace_in p.the_record ≤ (account_in poi past).trace
  traces_below [] at p found mine = cc
  traces_below (q ∷ older) zero p found mine =
      subst (λ (r : Placed). is_of_poi poi r ≡ true → trace_in r.the_record ≤ (account_in poi (q ∷ older)).trace) (same_Some q p found) (λ mine. rw mine (trace_after (length q.before) q.the_record (account_in poi older))) mine
  traces_below (q ∷ older) (suc at) p found mine = omega (arith, traces_below older at p found mine, grows q (account_in poi older) (is_of_poi poi q))

  older_trace : (q : Placed) (older : List Placed) (trace : ℕ) → HasTrace poi older trace → HasTrace poi (q ∷ older) trace
  older_trace q older trace has = record { at = suc has.at; placed = has.placed; found = has.found; of_poi = has.of_poi; trace_is = has.trace_is }

  has_it : (past : List Placed) → ((account_in poi past).trace ≡ 0) ⊎ HasTrace poi past (account_in poi past).trace
  has_it [] = inl refl
  has_it (q ∷ older) = by_test (is_of_poi poi q) refl (has_it older)
    where
      lift : (trace : ℕ) → trace ≡ (account_in poi older).trace → ((account_in poi older).trace ≡ 0) ⊎ HasTrace poi older (account_in poi older).trace → (trace ≡ 0) ⊎ HasTrace poi (q ∷ older) trace
      lift trace same (inl none) = inl (same ∙ none)
      lift trace same (inr has) = inr (subst (HasTrace poi (q ∷ older)) (sym same) (older_trace q older (account_in poi older).trace has))

      by_test : (b : Bool) → is_of_poi poi q ≡ b → ((account_in poi older).trace ≡ 0) ⊎ HasTrace poi older (account_in poi older).trace
          → ((if b then account_with (length q.before) q.the_record (account_in poi older) else account_in poi older).trace ≡ 0)
          ⊎ HasTrace poi (q ∷ older) (if b then account_with (length q.before) q.the_record (account_in poi older) else account_in poi older).trace
      by_test false other rest = lift (account_in poi older).trace refl rest
      by_test true mine rest = elim (trace_cases (length q.before) q.the_record (account_in poi older)) [
        | inl same ↦ lift (account_with (length q.before) q.the_record (account_in poi older)).trace same rest
        | inr own ↦ inr (record { at = 0; placed = q; found = refl; of_poi = mine; trace_is = sym own })
      ]

of_records : (records : List Record) (poi : List ℕ) (trace : ℕ) → (trace ≡ 0) ⊎ HasTrace poi (history records) trace → (trace ≡ 0) ⊎ IsTraceOf records poi trace
of_records records poi trace (inl none) = inl none
of_records records poi trace (inr has) = inr (record { at = has.at; placed = has.placed; found = has.found; of_poi = has.of_poi; trace_is = has.trace_is })

pub last_is_greatest : (records : List Record) (poi : List ℕ)
    → ((at : ℕ) (p : Placed) → slice_get (history records) at ≡ Some p → is_of_poi poi p ≡ true → trace_in p.the_record ≤ last_number_of records poi)
    × ((last_number_of records poi ≡ 0) ⊎ IsTraceOf records poi (last_number_of records poi))
last_is_greatest records poi = (traces_below poi (history records), of_records records poi (last_number_of records poi) (has_it poi (history records)))
