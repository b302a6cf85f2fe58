-- Proof of the contract of `law_transaction_texts`.
use Rattle.gw_base.proofs.TransactionLemmas.{transaction_texts_differ}
use Rattle.gw_base.proofs.transaction.law_transaction_texts.Goals as goal

pub returns : goal.returns
returns c = transaction_texts_differ
