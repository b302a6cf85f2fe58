-- Proof of the contract of `reading`.
use Rattle.sale_frame.proofs.DecodeLemmas.{reads_all}
use Rattle.sale_frame.proofs.laws.reading.Goals as goal

pub returns : goal.returns
returns c = reads_all
