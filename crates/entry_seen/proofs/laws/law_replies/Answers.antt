-- Proof of the contract of `law_replies`.
use Rattle.entry_seen.proofs.ReplyReadLemmas.{replies_say_records}
use Rattle.entry_seen.proofs.laws.law_replies.Goals as goal

pub returns : goal.returns
returns c = replies_say_records c.law_reply_read.ensures
