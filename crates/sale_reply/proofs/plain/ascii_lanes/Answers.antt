-- Proof of the contract of `ascii_lanes`.
use Rattle.sale_reply.proofs.PlainLemmas.{ascii_lanes_are}
use Rattle.sale_reply.proofs.plain.ascii_lanes.Goals as goal

pub returns : goal.returns
returns c = ascii_lanes_are c.args.lanes c.fits-lanes.0
