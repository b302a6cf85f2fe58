-- Proof of the contract of `law_abort_examples`.
use Rattle.owes_examples.proofs.AbortExampleLemmas.{abort-unserved, day-aborted, display-aborted, enquired-after-stop, late-acknowledgement, late-refusal, stop-sent, stopped-ends}
use Rattle.owes_examples.proofs.law_abort_examples.Goals as goal

pub returns-clause-unserved : goal.returns-clause-unserved
returns-clause-unserved c = abort-unserved

pub returns-clause-sent : goal.returns-clause-sent
returns-clause-sent c = stop-sent

pub returns-clause-ends : goal.returns-clause-ends
returns-clause-ends c = stopped-ends

pub returns-clause-late_refusal : goal.returns-clause-late_refusal
returns-clause-late_refusal c = late-refusal

pub returns-clause-enquired : goal.returns-clause-enquired
returns-clause-enquired c = enquired-after-stop

pub returns-clause-late_acknowledgement : goal.returns-clause-late_acknowledgement
returns-clause-late_acknowledgement c = late-acknowledgement

pub returns-clause-of_day : goal.returns-clause-of_day
returns-clause-of_day c = day-aborted

pub returns-clause-display : goal.returns-clause-display
returns-clause-display c = display-aborted
