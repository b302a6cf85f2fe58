-- Proof of the contract of `law_terminal_cuts`.
use Rattle.gw_owes.proofs.TerminalLemmas.{causes-cut, cuts-have-cause, no-link-event-cuts}
use Rattle.gw_owes.proofs.terminal_laws.law_terminal_cuts.Goals as goal

pub returns-clause-items : goal.returns-clause-items
returns-clause-items c = cuts-have-cause

pub returns-clause-causes : goal.returns-clause-causes
returns-clause-causes c = causes-cut

pub returns-clause-links : goal.returns-clause-links
returns-clause-links c = no-link-event-cuts
