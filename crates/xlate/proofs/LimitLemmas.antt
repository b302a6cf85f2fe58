-- The numbers of an Outcome lie within the limits of a transaction's text.
use Rattle.std.proofs.Common.{ℕ, ◌^◌, ◌<◌, ◌≤◌, Bool, true, false, arith}
use Rattle.gw_base.specs.Limits.{IsReceipt, IsTrace}
use Rattle.jrn_record.specs.Limits.{IsOutcome, IsPresentAs}
use Rattle.jrn_record.specs.declared.records.Outcome.{Outcome as TheOutcome}
use Rattle.gw_base.specs.Transaction.{AreTransactionNumbers}

pub trace_limited : (present : Bool) (trace : ℕ) → IsPresentAs present (λ n. (1 ≤ n) × IsTrace n) trace → IsTrace trace
trace_limited true trace h = h.1
trace_limited false trace h = omega (arith, h)

pub receipt_limited : (present : Bool) (receipt : ℕ) → IsPresentAs present (λ n. (0 ≤ n) × IsReceipt n) receipt → IsReceipt receipt
receipt_limited true receipt h = h.1
receipt_limited false receipt h = omega (arith, h)

pub numbers_limited : (outcome : TheOutcome) (slot : ℕ) → IsOutcome outcome → slot < 2 ^ 32 → AreTransactionNumbers outcome.number outcome.receipt slot
numbers_limited outcome slot is small = record {
  six_digits = trace_limited outcome.approved outcome.number is.number;
  four_digits = receipt_limited outcome.approved outcome.receipt is.receipt;
  slot_fits = small;
}
