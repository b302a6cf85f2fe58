-- Proof of the contract of `law_last_number`.
use Rattle.gw_ledger.proofs.TraceLemmas.{last_is_greatest}
use Rattle.gw_ledger.proofs.laws.law_last_number.Goals as goal

pub returns : goal.returns
returns c = last_is_greatest
