-- Proof of the contract of `frame_found`.
use Rattle.sale_frame.proofs.DecodeLemmas.{frames_found}
use Rattle.sale_frame.proofs.laws.frame_found.Goals as goal

pub returns : goal.returns
returns c = frames_found
