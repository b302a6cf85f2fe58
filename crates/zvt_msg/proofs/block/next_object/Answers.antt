-- Proof of the contract of `next_object`.
use Rattle.zvt_msg.proofs.BytesLeftLemmas.{finds_object}
use Rattle.zvt_msg.proofs.block.next_object.Goals as goal

pub returns-in-Ok : goal.returns-in-Ok
returns-in-Ok c = finds_object c.args.tlv.now _ _ c.in-Ok.ensures.computes c.in-Ok.ensures.leaves

pub returns-in-Err : goal.returns-in-Err
returns-in-Err c = (c.in-Err.ensures.computes.2, c.in-Err.ensures.leaves)
