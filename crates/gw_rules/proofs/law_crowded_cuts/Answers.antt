-- Proof of the contract of `law_crowded_cuts`.
use Rattle.gw_rules.proofs.CrowdLemmas.{crowded-cuts}
use Rattle.gw_rules.proofs.law_crowded_cuts.Goals as goal

pub returns : goal.returns
returns c = record { cuts = crowded-cuts }
