-- Proof of the contract of `Out::string_between`.
use Rattle.sale_reply.proofs.PartLemmas.{and_then}
use Rattle.sale_reply.proofs.buffer.Out.string_between.Goals as goal

pub returns : goal.returns
returns c = and_then c.raw.ensures (and_then c.escape.ensures c.raw-2.ensures)
