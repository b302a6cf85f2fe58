-- Proof of the contract of `read_pt`.
use Rattle.zvt_apdu.specs.Grammar.{value_of}
use Rattle.zvt_msg.proofs.MessageLemmas.{message_clause, fault_clause}
use Rattle.zvt_msg.proofs.message_reading.read_pt.Goals as goal

pub returns-clause-message : goal.returns-clause-message
returns-clause-message c = message_clause (value_of c.args.apdu.now) c.read_message.result c.read_message.ensures.computes

pub returns-clause-fault : goal.returns-clause-fault
returns-clause-fault c = fault_clause (value_of c.args.apdu.now) c.read_message.result c.read_message.ensures.computes
