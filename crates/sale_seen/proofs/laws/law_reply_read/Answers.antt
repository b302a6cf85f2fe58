-- Proof of the contract of `law_reply_read`.
use Rattle.sale_seen.proofs.ReplyLemmas.{reply_again}
use Rattle.sale_seen.proofs.laws.law_reply_read.Goals as goal

pub returns : goal.returns
returns c = reply_again
