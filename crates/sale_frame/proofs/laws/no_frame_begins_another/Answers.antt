-- Proof of the contract of `no_frame_begins_another`.
use Rattle.sale_frame.proofs.FrameLemmas.{one_payload}
use Rattle.sale_frame.proofs.laws.no_frame_begins_another.Goals as goal

pub returns : goal.returns
returns c = one_payload
