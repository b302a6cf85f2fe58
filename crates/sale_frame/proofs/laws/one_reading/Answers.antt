-- Proof of the contract of `one_reading`.
use Rattle.sale_frame.proofs.StreamLemmas.{one_reading}
use Rattle.sale_frame.proofs.laws.one_reading.Goals as goal

pub returns : goal.returns
returns c = one_reading
