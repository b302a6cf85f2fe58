-- Proof of the contract of `digit_lanes`.
use Rattle.json_text.proofs.DigitLemmas.{digit_lanes_of, lanes_digits}
use Rattle.json_text.proofs.digits.digit_lanes.Goals as goal

pub returns : goal.returns
returns c = lanes_digits c.args.lanes _ c.fits-lanes.0 (digit_lanes_of c.args.lanes c.fits-lanes.0)
