-- Proof of the contract of `law_bad_frame_cuts`.
use Rattle.gw_rules.proofs.CutLemmas.{bad-frame-cuts}
use Rattle.gw_rules.proofs.law_bad_frame_cuts.Goals as goal

pub returns : goal.returns
returns c = record { cuts = bad-frame-cuts }
