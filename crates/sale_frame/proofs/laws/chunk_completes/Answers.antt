-- Proof of the contract of `chunk_completes`.
use Rattle.sale_frame.proofs.DecodeLemmas.{completes}
use Rattle.sale_frame.proofs.laws.chunk_completes.Goals as goal

pub returns : goal.returns
returns c = completes
