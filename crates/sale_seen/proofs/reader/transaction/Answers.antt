-- Proof of the contract of `transaction`.
use Rattle.sale_seen.proofs.TransactionLemmas.{transaction_length}
use Rattle.sale_seen.proofs.reader.transaction.Goals as goal

pub copied-requires : goal.copied-requires
copied-requires c = transaction_length c.in-Some-transaction_text.text.now (c.is_transaction.ensures.0 c.if-is_transaction.true)
