-- Proof of the contract of `law_terminal_alone`.
use Rattle.gw_owes.proofs.HandlingLemmas.{no-effect}
use Rattle.gw_owes.proofs.TerminalLemmas.{row-changes-alone, link-changes-alone, row-leaves-waits, link-leaves-waits, greeting-changes-nothing}
use Rattle.gw_owes.proofs.terminal_laws.law_terminal_alone.Goals as goal

pub returns-clause-rows : goal.returns-clause-rows
returns-clause-rows c = row-changes-alone

pub returns-clause-links : goal.returns-clause-links
returns-clause-links c = link-changes-alone

pub returns-clause-waits : goal.returns-clause-waits
returns-clause-waits c = row-leaves-waits

pub returns-clause-waits_links : goal.returns-clause-waits_links
returns-clause-waits_links c = link-leaves-waits

pub returns-clause-greeting : goal.returns-clause-greeting
returns-clause-greeting c = greeting-changes-nothing

pub returns-clause-foreign : goal.returns-clause-foreign
returns-clause-foreign c = no-effect
