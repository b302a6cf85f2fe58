-- Proof of the contract of `law_tills`.
use Rattle.gw_rules.proofs.TillLawLemmas.{uses-tills, owed-is-there, served-is-there, beginning-is-there, queueing-is-there}
use Rattle.gw_rules.proofs.law_tills.Goals as goal

pub returns-clause-used : goal.returns-clause-used
returns-clause-used c = uses-tills

pub returns-clause-owed : goal.returns-clause-owed
returns-clause-owed c = owed-is-there

pub returns-clause-served : goal.returns-clause-served
returns-clause-served c = served-is-there

pub returns-clause-begins : goal.returns-clause-begins
returns-clause-begins c = beginning-is-there

pub returns-clause-queues : goal.returns-clause-queues
returns-clause-queues c = queueing-is-there
