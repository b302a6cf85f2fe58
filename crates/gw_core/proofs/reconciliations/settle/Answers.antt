-- Proof of the contract of `settle`.
use Rattle.std.proofs.Common.{length}
use Rattle.jrn_record.specs.declared.records.Record.TheVariants.{Settled}
use Rattle.gw_owes.specs.Calls.{keep_calls}
use Rattle.gw_owes.specs.Reconciliations.{reply_to_settled}
use Rattle.gw_core.proofs.reconciliations.settle.Goals as goal

pub returns-clause-calls : goal.returns-clause-calls
returns-clause-calls c =
    c.send_to-act.ensures.calls (keep_calls (length c.args.ledger.now.records) (Settled c.args.settled)) (reply_to_settled c.args.ledger.now.records c.args.settled) c.reply_to_settled.ensures.reply
