-- Proof of the contract of `law_prefix`.
use Rattle.gw_rules.proofs.PrefixLemmas.{prefix-lawful}
use Rattle.gw_rules.proofs.law_prefix.Goals as goal

pub returns : goal.returns
returns c = record { prefix = prefix-lawful }
