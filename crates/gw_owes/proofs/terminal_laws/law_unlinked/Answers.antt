-- Proof of the contract of `law_unlinked`.
use Rattle.gw_owes.proofs.TerminalLemmas.{unlinked-owes-nothing, absent-owes-nothing}
use Rattle.gw_owes.proofs.terminal_laws.law_unlinked.Goals as goal

pub returns-clause-unlinked : goal.returns-clause-unlinked
returns-clause-unlinked c = unlinked-owes-nothing

pub returns-clause-absent : goal.returns-clause-absent
returns-clause-absent c = absent-owes-nothing
