-- Proof of the contract of `Out::next_text`.
use Rattle.std.proofs.Common.{append_assoc}
use Rattle.sale_reply.specs.inner.CanonicalMembers.{next_name, next_text}
use Rattle.sale_reply.proofs.PartLemmas.{and_then, spelled}
use Rattle.sale_reply.proofs.buffer.Out.next_text.Goals as goal

pub returns : goal.returns
unfolding next_name next_text
returns c = spelled (and_then c.next_name.ensures c.string.ensures) (simp append_assoc)
