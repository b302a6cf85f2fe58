-- Proof of the contract of `plain_lanes`.
use Rattle.sale_reply.proofs.PlainLemmas.{plain_lanes_are}
use Rattle.sale_reply.proofs.plain.plain_lanes.Goals as goal

pub returns : goal.returns
returns c = plain_lanes_are c.args.lanes c.fits-lanes.0
