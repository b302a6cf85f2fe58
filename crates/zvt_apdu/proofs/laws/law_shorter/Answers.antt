-- Proof of the contract of `law_shorter`.
use Rattle.zvt_apdu.proofs.DecodeStreamLemmas.{begins_shrinks}
use Rattle.zvt_apdu.proofs.laws.law_shorter.Goals as goal

pub returns : goal.returns
returns c = begins_shrinks
