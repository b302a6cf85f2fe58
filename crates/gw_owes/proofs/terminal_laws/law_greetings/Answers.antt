-- Proof of the contract of `law_greetings`.
use Rattle.std.proofs.Common.{refl}
use Rattle.gw_owes.proofs.TerminalLemmas.{each-is-greeted}
use Rattle.gw_owes.proofs.terminal_laws.law_greetings.Goals as goal

pub returns-clause-each : goal.returns-clause-each
returns-clause-each c = each-is-greeted

pub returns-clause-spelled : goal.returns-clause-spelled
returns-clause-spelled c = record { acknowledge = refl; refuse = refl }
