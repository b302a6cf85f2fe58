-- Proof of the contract of `law_within`.
use Rattle.gw_ledger.proofs.WithinLemmas.{entry_within, found_within}
use Rattle.gw_ledger.proofs.laws.law_within.Goals as goal

pub returns : goal.returns
returns c records folded = (entry_within records folded, found_within records folded)
