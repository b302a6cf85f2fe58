-- Proof of the contract of `repeated_reply`.
use Rattle.gw_core.proofs.KeptLemmas.{repeated-is, reply-header-within}
use Rattle.gw_core.proofs.kept_replies.repeated_reply.Goals as goal

pub returns : goal.returns
returns c = rw c.reply_header.ensures (
  repeated-is c.args.header.now c.args.found.now c.in-Told.repeated c.in-Told.told c.in-Told.ensures.reply,
  λ _. (reply-header-within c.args.header.now c.law_header.ensures, c.in-Told.ensures.limits.0, c.in-Told.ensures.limits.1),
)
