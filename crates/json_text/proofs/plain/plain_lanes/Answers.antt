-- Proof of the contract of `plain_lanes`.
use Rattle.json_text.proofs.PlainLemmas.{lanes_of, lanes_plain}
use Rattle.json_text.proofs.plain.plain_lanes.Goals as goal

pub returns : goal.returns
returns c = lanes_plain c.args.lanes _ c.fits-lanes.0 (lanes_of c.args.lanes c.fits-lanes.0)
