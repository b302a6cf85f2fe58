-- Proof of the contract of `Out::line`.
use Rattle.sale_reply.proofs.PartLemmas.{and_then, spelled, line_is}
use Rattle.sale_reply.proofs.buffer.Out.line.Goals as goal

pub returns : goal.returns
returns c = spelled (and_then c.raw.ensures (and_then c.characters.ensures c.raw-2.ensures)) (line_is c.args.line.now)
