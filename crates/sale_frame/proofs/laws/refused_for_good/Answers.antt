-- Proof of the contract of `refused_for_good`.
use Rattle.sale_frame.proofs.StreamLemmas.{refused}
use Rattle.sale_frame.proofs.laws.refused_for_good.Goals as goal

pub returns : goal.returns
returns c = refused
