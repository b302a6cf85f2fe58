-- Proof of the contract of `law_meanings`.
use Rattle.gw_owes.proofs.HeardLemmas.{meant-fits}
use Rattle.gw_owes.proofs.record_laws.law_meanings.Goals as goal

pub returns : goal.returns
returns c = meant-fits
