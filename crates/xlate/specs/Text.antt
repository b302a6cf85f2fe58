-- The texts of approved entries.
use Rattle.std.specs.Prelude.{◌≡◌, ◌^◌, ◌<◌, true, Some}
use Rattle.jrn_record.specs.declared.records.Outcome.{Outcome as TheOutcome}
use Rattle.jrn_record.specs.Limits.{IsOutcome}
use Rattle.gw_ledger.specs.declared.entry.Entry.{Entry}
use Rattle.gw_ledger.specs.Transaction.{text_of}

-- the entry is approved by this Outcome, whose fields lie within their limits, and its slot fits the text
pub record IsApprovedBy (entry : Entry) (outcome : TheOutcome) : Type 0 where
  pub result : entry.result ≡ Some outcome
  pub approved : outcome.approved ≡ true
  pub within : IsOutcome outcome
  pub slot : entry.slot < 2 ^ 32

-- of approved entries, equal texts have equal number, receipt and slot
abbrev pub TextIdentifiesEntry : Type 0
TextIdentifiesEntry = (a b : Entry) (by_a by_b : TheOutcome) → IsApprovedBy a by_a → IsApprovedBy b by_b → text_of a ≡ text_of b
    → (by_a.number ≡ by_b.number) × (by_a.receipt ≡ by_b.receipt) × (a.slot ≡ b.slot)
