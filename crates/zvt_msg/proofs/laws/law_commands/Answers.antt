-- Proof of the contract of `law_commands`.
use Rattle.zvt_msg.proofs.CommandLemmas.{one_spelling, one_command, written_clause, some_clause}
use Rattle.zvt_msg.proofs.laws.law_commands.Goals as goal

pub returns : goal.returns
returns c = record { one_spelling = one_spelling; one_command = one_command; canonical = written_clause; read = some_clause }
