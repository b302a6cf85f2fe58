-- Equal texts of approved entries.
use Rattle.std.proofs.Common.{◌≡◌, ◌∙◌, ℕ, Some, sym, ap}
use Rattle.std.specs.Prelude.{option_map}
use Rattle.std.proofs.lemmas.Option.{same_Some}
use Rattle.gw_base.specs.Transaction.{AreTransactionNumbers, transaction_text}
use Rattle.jrn_record.specs.declared.records.Outcome.{Outcome as TheOutcome}
use Rattle.gw_ledger.specs.declared.entry.Entry.{Entry}
use Rattle.gw_ledger.specs.Transaction.{text_of}
use Rattle.xlate.specs.Text.{TextIdentifiesEntry}
use Rattle.xlate.proofs.LimitLemmas.{numbers_limited}

text_is : (entry : Entry) (outcome : TheOutcome) → entry.result ≡ Some outcome → text_of entry ≡ Some (transaction_text outcome.number outcome.receipt entry.slot)
text_is entry outcome e = ap (option_map (λ (o : TheOutcome). transaction_text o.number o.receipt entry.slot)) e

-- equal texts of numbers within the limits are of equal numbers
abbrev pub TextIdentifiesNumbers : Type 0
TextIdentifiesNumbers = (trace receipt slot other_trace other_receipt other_slot : ℕ)
    → AreTransactionNumbers trace receipt slot → AreTransactionNumbers other_trace other_receipt other_slot
    → transaction_text trace receipt slot ≡ transaction_text other_trace other_receipt other_slot
    → (trace ≡ other_trace) × (receipt ≡ other_receipt) × (slot ≡ other_slot)

pub text_identifies_entry : TextIdentifiesNumbers → TextIdentifiesEntry
text_identifies_entry apart a b by_a by_b is_a is_b e =
    apart by_a.number by_a.receipt a.slot by_b.number by_b.receipt b.slot
    (numbers_limited by_a a.slot is_a.within is_a.slot) (numbers_limited by_b b.slot is_b.within is_b.slot)
    (same_Some (transaction_text by_a.number by_a.receipt a.slot) (transaction_text by_b.number by_b.receipt b.slot)
    (sym (text_is a by_a is_a.result) ∙ e ∙ text_is b by_b is_b.result))
