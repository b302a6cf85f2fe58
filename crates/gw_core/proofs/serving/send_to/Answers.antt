-- Proof of the contract of `send_to`.
use Rattle.std.proofs.Common.{subst}
use Rattle.std.specs.Prelude.{Option}
use Rattle.sale_reply.specs.declared.reply.SaleReply.{SaleReply}
use Rattle.gw_core.specs.ReplyOf.{AreSameReplies}
use Rattle.gw_core.proofs.ServingLemmas.{reply-sent}
use Rattle.gw_core.proofs.serving.send_to.Goals as goal

pub returns-in-Some-Some-clause-calls : goal.returns-in-Some-Some-clause-calls
returns-in-Some-Some-clause-calls c = λ before owed same.
    rw c.in-Some-Some.is-0
    (reply-sent before c.in-Some-Some.till c.in-Some-Some.reply owed (subst (λ (given : Option SaleReply). AreSameReplies given owed) c.in-Some-Some.is-1 same))
