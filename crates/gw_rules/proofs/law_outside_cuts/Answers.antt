-- Proof of the contract of `law_outside_cuts`.
use Rattle.gw_rules.proofs.OutsideCutLemmas.{outside-cuts}
use Rattle.gw_rules.proofs.law_outside_cuts.Goals as goal

pub returns : goal.returns
returns c = record { cuts = outside-cuts }
