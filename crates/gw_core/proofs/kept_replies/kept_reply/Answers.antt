-- Proof of the contract of `kept_reply`.
use Rattle.gw_core.proofs.KeptLemmas.{kept-is}
use Rattle.gw_core.proofs.kept_replies.kept_reply.Goals as goal

pub returns-then-is_finished : goal.returns-then-is_finished
returns-then-is_finished c = kept-is c.args.found.now c.reply_of.result c.reply_of.ensures.reply c.reply_of.ensures.limits
