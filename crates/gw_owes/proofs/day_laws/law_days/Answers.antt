-- Proof of the contract of `law_days`.
use Rattle.gw_owes.proofs.ReconciliationLemmas.{declined-keeps-nothing, done-settled, each-day-begins, each-reconciliation-begins, each-sale-settled, each-served-day-replied, each-settled-has-cause, lost-keeps-nothing, next-has-no-totals, other-period-unserved, settled-not-reversed, settled-replied-again, unclear-day-cut}
use Rattle.gw_owes.proofs.day_laws.law_days.Goals as goal

pub returns-clause-begins : goal.returns-clause-begins
returns-clause-begins c = each-reconciliation-begins

pub returns-clause-unserved : goal.returns-clause-unserved
returns-clause-unserved c = other-period-unserved

pub returns-clause-sale : goal.returns-clause-sale
returns-clause-sale c = each-sale-settled

pub returns-clause-day : goal.returns-clause-day
returns-clause-day c = each-day-begins

pub returns-clause-done : goal.returns-clause-done
returns-clause-done c = done-settled

pub returns-clause-declined : goal.returns-clause-declined
returns-clause-declined c = declined-keeps-nothing

pub returns-clause-unclear : goal.returns-clause-unclear
returns-clause-unclear c = unclear-day-cut

pub returns-clause-lost : goal.returns-clause-lost
returns-clause-lost c = lost-keeps-nothing

pub returns-clause-served : goal.returns-clause-served
returns-clause-served c = each-served-day-replied

pub returns-clause-again : goal.returns-clause-again
returns-clause-again c = settled-replied-again

pub returns-clause-totals : goal.returns-clause-totals
returns-clause-totals c = next-has-no-totals c.law_settling.ensures.fresh

pub returns-clause-settled : goal.returns-clause-settled
returns-clause-settled c = settled-not-reversed c.law_named.ensures.entry c.law_settled.ensures

pub returns-clause-kept_only : goal.returns-clause-kept_only
returns-clause-kept_only c = each-settled-has-cause
