-- Proof of the contract of `Out::next_number`.
use Rattle.std.proofs.Common.{append_assoc}
use Rattle.sale_reply.specs.inner.CanonicalMembers.{next_name, next_number}
use Rattle.sale_reply.proofs.PartLemmas.{and_then, spelled}
use Rattle.sale_reply.proofs.buffer.Out.next_number.Goals as goal

pub returns : goal.returns
unfolding next_name next_number
returns c = spelled (and_then c.next_name.ensures c.raw.ensures) (simp append_assoc)
