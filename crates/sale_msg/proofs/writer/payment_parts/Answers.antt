-- Proof of the contract of `payment_parts`.
use Rattle.sale_msg.specs.Canonical.{payment_data}
use Rattle.sale_msg.proofs.WriterLemmas.{payment_spelled}
use Rattle.sale_values.specs.Money.{money_text}
use Rattle.sale_msg.proofs.writer.payment_parts.Goals as goal

pub returns : goal.returns
returns c =
    let ask = c.args.ask.now in
    rw (c.as_bytes.ensures.value, c.as_bytes-2.ensures.value, c.requires)
    (payment_spelled ask.transaction ask.stamp ask.currency (money_text ask.amount) (payment_data ask.kind))
