-- Proof of the contract of `reversal_parts`.
use Rattle.sale_msg.specs.Canonical.{reversed_amount}
use Rattle.sale_msg.proofs.WriterLemmas.{reversal_spelled}
use Rattle.sale_msg.proofs.writer.reversal_parts.Goals as goal

pub returns : goal.returns
returns c =
    let ask = c.args.ask.now in
    rw c.as_bytes.ensures.value (reversal_spelled ask.transaction (reversed_amount ask.amount))
