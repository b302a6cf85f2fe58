-- Proof of the contract of `reply_to_asker`.
use Rattle.jrn_record.specs.declared.records.Record.TheVariants.{Outcome}
use Rattle.gw_owes.specs.Calls.{keep_calls}
use Rattle.gw_owes.specs.Serving.{reply_to_outcome}
use Rattle.gw_core.proofs.ServingLemmas.{reply-sent}
use Rattle.gw_core.proofs.serving.reply_to_asker.Goals as goal

pub returns-in-Some-reply_to_outcome-clause-calls : goal.returns-in-Some-reply_to_outcome-clause-calls
returns-in-Some-reply_to_outcome-clause-calls c = λ slot. rw c.in-Some.is
    (reply-sent (keep_calls slot (Outcome c.args.outcome.now)) c.in-Some.till c.in-Some-reply_to_outcome.reply (reply_to_outcome c.args.ledger.now.records c.args.outcome.now.slot c.args.outcome.now) c.in-Some-reply_to_outcome.ensures.reply)
