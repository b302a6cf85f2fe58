-- Proof of the contract of `is_transaction`.
use Rattle.std.proofs.Common.{sym, true≢false}
use Rattle.sale_seen.proofs.TransactionLemmas.{no_receipt, no_trace, slot_is, slot_left}
use Rattle.sale_seen.proofs.transaction.is_transaction.Goals as goal

pub returns-in-None : goal.returns-in-None
returns-in-None c = (λ f. absurd (true≢false (sym f)), λ is. absurd (no_trace c.args.text.now c.in-None.ensures is))

pub returns-in-None-after_digits : goal.returns-in-None-after_digits
returns-in-None-after_digits c =
    (λ f. absurd (true≢false (sym f)), λ is. absurd (no_receipt c.args.text.now c.in-Some.rest.now c.in-Some.ensures c.in-None-after_digits.ensures is))

pub returns-in-Some-after_digits : goal.returns-in-Some-after_digits
returns-in-Some-after_digits c =
    let rest = c.in-Some.rest.now in
    let slot = c.in-Some-after_digits.slot.now in (
      λ t. slot_is c.args.text.now rest slot c.in-Some.ensures c.in-Some-after_digits.ensures (c.is_slot.ensures.0 t),
      λ is. c.is_slot.ensures.1 (slot_left c.args.text.now rest slot c.in-Some.ensures c.in-Some-after_digits.ensures is),
    )
