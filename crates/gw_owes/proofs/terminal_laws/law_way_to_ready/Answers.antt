-- Proof of the contract of `law_way_to_ready`.
use Rattle.gw_owes.proofs.HandlingLemmas.{registered-is-enquired, enquired-is-ready}
use Rattle.gw_owes.proofs.TerminalLemmas.{due-is-linked, linked-is-registered}
use Rattle.gw_owes.proofs.terminal_laws.law_way_to_ready.Goals as goal

pub returns-clause-due : goal.returns-clause-due
returns-clause-due c = due-is-linked

pub returns-clause-linked : goal.returns-clause-linked
returns-clause-linked c = linked-is-registered

pub returns-clause-registered : goal.returns-clause-registered
returns-clause-registered c = registered-is-enquired

pub returns-clause-enquired : goal.returns-clause-enquired
returns-clause-enquired c = enquired-is-ready
