-- Proof of the contract of `law_displays`.
use Rattle.gw_owes.proofs.DisplayLemmas.{declined-not-shown, done-shown, each-begun-shown, each-display-replied, lost-not-shown, nack-never-done, no-display-stopped, unclear-cut}
use Rattle.gw_owes.proofs.display_laws.law_displays.Goals as goal

pub returns-clause-replied : goal.returns-clause-replied
returns-clause-replied c = each-display-replied

pub returns-clause-begins : goal.returns-clause-begins
returns-clause-begins c = each-begun-shown

pub returns-clause-done : goal.returns-clause-done
returns-clause-done c = done-shown

pub returns-clause-declined : goal.returns-clause-declined
returns-clause-declined c = declined-not-shown

pub returns-clause-unclear : goal.returns-clause-unclear
returns-clause-unclear c = unclear-cut

pub returns-clause-lost : goal.returns-clause-lost
returns-clause-lost c = lost-not-shown

pub returns-clause-refused : goal.returns-clause-refused
returns-clause-refused c = nack-never-done

pub returns-clause-not_stopped : goal.returns-clause-not_stopped
returns-clause-not_stopped c = no-display-stopped
