-- The text that names a transaction of a terminal.
use Rattle.std.specs.Prelude.{◌≡◌, ℕ, ◌^◌, ◌<◌, List, ◌∷◌, ◌++◌, codes, decimal}
use Rattle.gw_base.specs.Digits.{digits}
use Rattle.gw_base.specs.Limits.{IsTrace, IsReceipt}

-- the trace number in six digits, `-`, the receipt number in four digits, `-`, and the Intent's slot in decimal
unfoldable pub transaction_text : ℕ → ℕ → ℕ → List ℕ
transaction_text trace receipt slot = digits 6 trace ++ (0x2D ∷ (digits 4 receipt ++ (0x2D ∷ decimal slot)))

-- numbers that a transaction's text shows whole
pub record AreTransactionNumbers (trace receipt slot : ℕ) : Type 0 where
  pub six_digits : IsTrace trace
  pub four_digits : IsReceipt receipt
  pub slot_fits : slot < 2 ^ 32

-- texts of such numbers are equal only where the numbers are
abbrev pub TransactionTextsDiffer : Type 0
TransactionTextsDiffer = (trace receipt slot other_trace other_receipt other_slot : ℕ)
    → AreTransactionNumbers trace receipt slot → AreTransactionNumbers other_trace other_receipt other_slot
    → transaction_text trace receipt slot ≡ transaction_text other_trace other_receipt other_slot
    → (trace ≡ other_trace) × (receipt ≡ other_receipt) × (slot ≡ other_slot)

-- the greatest numbers are shown whole; their text, that of an approval, and that of a decline, which has no numbers
pub record ExampleTransactionTexts : Type 0 where
  pub greatest_shown : AreTransactionNumbers 999999 9999 4294967295
  pub greatest : transaction_text 999999 9999 4294967295 ≡ codes "999999-9999-4294967295"
  pub approved : transaction_text 123 17 0 ≡ codes "000123-0017-0"
  pub declined : transaction_text 0 0 2 ≡ codes "000000-0000-2"
