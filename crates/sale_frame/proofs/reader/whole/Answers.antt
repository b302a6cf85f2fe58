-- Proof of the contract of `whole`.
use Rattle.sale_frame.proofs.FrameLemmas.{incomplete_payload}
use Rattle.sale_frame.proofs.reader.whole.Goals as goal

pub returns : goal.returns
returns c = incomplete_payload c.args.waiting.now c.args.length c.requires.length c.requires.begins c.get.result c.get.ensures.lookup.0
