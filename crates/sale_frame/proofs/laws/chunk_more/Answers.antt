-- Proof of the contract of `chunk_more`.
use Rattle.sale_frame.proofs.DecodeLemmas.{chunks_add}
use Rattle.sale_frame.proofs.laws.chunk_more.Goals as goal

pub returns : goal.returns
returns c = chunks_add
