-- Proof of the contract of `law_crash`.
use Rattle.gw_rules.proofs.PrefixLemmas.{restart-lawful}
use Rattle.gw_rules.proofs.law_crash.Goals as goal

pub returns : goal.returns
returns c = record { restart = restart-lawful }
