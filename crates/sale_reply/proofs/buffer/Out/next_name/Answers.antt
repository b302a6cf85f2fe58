-- Proof of the contract of `Out::next_name`.
use Rattle.std.proofs.Common.{append_assoc}
use Rattle.sale_reply.specs.inner.CanonicalMembers.{next_name}
use Rattle.sale_reply.proofs.PartLemmas.{spelled}
use Rattle.sale_reply.proofs.buffer.Out.next_name.Goals as goal

pub returns : goal.returns
unfolding next_name
returns c = spelled c.string_between.ensures (simp append_assoc)
