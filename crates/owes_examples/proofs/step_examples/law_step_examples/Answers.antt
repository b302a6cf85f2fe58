-- Proof of the contract of `law_step_examples`.
use Rattle.owes_examples.proofs.StepExampleLemmas.{payment-again, other-content, open-again, declined-again, reversal-again, reconciliation-again, status, last-status, abort, new-key, used-up, room, unavailable, begins, new-reconciliation, day-served}
use Rattle.owes_examples.proofs.step_examples.law_step_examples.Goals as goal

pub returns-clause-payment : goal.returns-clause-payment
returns-clause-payment c = payment-again

pub returns-clause-other : goal.returns-clause-other
returns-clause-other c = other-content

pub returns-clause-open_key : goal.returns-clause-open_key
returns-clause-open_key c = open-again

pub returns-clause-declined : goal.returns-clause-declined
returns-clause-declined c = declined-again

pub returns-clause-reversal : goal.returns-clause-reversal
returns-clause-reversal c = reversal-again

pub returns-clause-reconciliation : goal.returns-clause-reconciliation
returns-clause-reconciliation c = reconciliation-again

pub returns-clause-status : goal.returns-clause-status
returns-clause-status c = status

pub returns-clause-last : goal.returns-clause-last
returns-clause-last c = last-status

pub returns-clause-abort : goal.returns-clause-abort
returns-clause-abort c = abort

pub returns-clause-new_key : goal.returns-clause-new_key
returns-clause-new_key c = new-key

pub returns-clause-used_up : goal.returns-clause-used_up
returns-clause-used_up c = used-up

pub returns-clause-room : goal.returns-clause-room
returns-clause-room c = room

pub returns-clause-unavailable : goal.returns-clause-unavailable
returns-clause-unavailable c = unavailable

pub returns-clause-begins : goal.returns-clause-begins
returns-clause-begins c = begins

pub returns-clause-reconciled : goal.returns-clause-reconciled
returns-clause-reconciled c = new-reconciliation

pub returns-clause-day : goal.returns-clause-day
returns-clause-day c = day-served
