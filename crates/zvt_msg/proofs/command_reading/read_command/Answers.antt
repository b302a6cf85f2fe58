-- Proof of the contract of `read_command`.
use Rattle.zvt_apdu.specs.Grammar.{value_of}
use Rattle.zvt_msg.proofs.CommandLemmas.{some_clause, none_clause}
use Rattle.zvt_msg.proofs.command_reading.read_command.Goals as goal

pub returns-clause-some : goal.returns-clause-some
returns-clause-some c command = rw c.recognise.ensures (some_clause (value_of c.args.apdu.now) command)

pub returns-clause-none : goal.returns-clause-none
returns-clause-none c = rw c.recognise.ensures (none_clause (value_of c.args.apdu.now))
