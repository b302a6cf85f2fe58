-- Proof of the contract of `reply_to_outcome`.
use Rattle.gw_core.proofs.ServingLemmas.{outcome-replied}
use Rattle.gw_core.proofs.serving.reply_to_outcome.Goals as goal

pub returns-in-Some-clause-reply : goal.returns-in-Some-clause-reply
returns-in-Some-clause-reply c =
    outcome-replied c.args.ledger.now.records c.args.outcome.now.slot c.in-Some.entry c.args.outcome.now c.reply_of.result c.in-Some.ensures c.reply_of.ensures.reply c.reply_of.ensures.limits
