-- Proof of the contract of `Out::first_text`.
use Rattle.std.proofs.Common.{append_assoc}
use Rattle.sale_reply.specs.inner.CanonicalMembers.{first_name, first_text}
use Rattle.sale_reply.proofs.PartLemmas.{and_then, spelled}
use Rattle.sale_reply.proofs.buffer.Out.first_text.Goals as goal

pub returns : goal.returns
unfolding first_name first_text
returns c = spelled (and_then c.first_name.ensures c.string.ensures) (simp append_assoc)
