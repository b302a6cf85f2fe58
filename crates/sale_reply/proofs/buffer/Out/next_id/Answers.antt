-- Proof of the contract of `Out::next_id`.
use Rattle.std.proofs.Common.{sym}
use Rattle.sale_reply.specs.inner.CanonicalMembers.{next_optional}
use Rattle.sale_reply.proofs.PartLemmas.{nothing, spelled, next_optional_none}
use Rattle.sale_reply.proofs.buffer.Out.next_id.Goals as goal

pub returns-in-Some : goal.returns-in-Some
unfolding next_optional
returns-in-Some g c = spelled c.next_text.ensures (rw c.in-Some.is (cc))

pub returns-in_default : goal.returns-in_default
returns-in_default g c = spelled nothing (sym (next_optional_none c.args.name.now c.args.id.now c.in_default.not-Some))
