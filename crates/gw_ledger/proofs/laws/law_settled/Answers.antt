-- Proof of the contract of `law_settled`.
use Rattle.gw_ledger.proofs.SettledAfterLemmas.{settled_is_after}
use Rattle.gw_ledger.proofs.laws.law_settled.Goals as goal

pub returns : goal.returns
returns c = settled_is_after
