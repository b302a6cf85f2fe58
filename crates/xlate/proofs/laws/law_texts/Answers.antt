-- Proof of the contract of `law_texts`.
use Rattle.xlate.proofs.TextLemmas.{text_identifies_entry}
use Rattle.xlate.proofs.laws.law_texts.Goals as goal

pub returns : goal.returns
returns c = text_identifies_entry c.law_transaction_texts.ensures
