-- Proof of the contract of `law_setup`.
use Rattle.gw_rules.proofs.SetupLemmas.{setup-within-limits}
use Rattle.gw_rules.proofs.law_setup.Goals as goal

pub returns : goal.returns
returns c = record { within = setup-within-limits }
