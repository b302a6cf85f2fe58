-- Proof of the contract of `law_payment_examples`.
use Rattle.owes_examples.proofs.PaymentExampleLemmas.{payment-accepted, payment-begins, command-fails, approved, not-above, unclear-end, declined, second-request, room, beside-day}
use Rattle.owes_examples.proofs.law_payment_examples.Goals as goal

pub returns-clause-begins : goal.returns-clause-begins
returns-clause-begins c = payment-begins

pub returns-clause-accepted : goal.returns-clause-accepted
returns-clause-accepted c = payment-accepted

pub returns-clause-command_fails : goal.returns-clause-command_fails
returns-clause-command_fails c = command-fails

pub returns-clause-approved : goal.returns-clause-approved
returns-clause-approved c = approved

pub returns-clause-not_above : goal.returns-clause-not_above
returns-clause-not_above c = not-above

pub returns-clause-unclear : goal.returns-clause-unclear
returns-clause-unclear c = unclear-end

pub returns-clause-declined : goal.returns-clause-declined
returns-clause-declined c = declined

pub returns-clause-second : goal.returns-clause-second
returns-clause-second c = second-request

pub returns-clause-room : goal.returns-clause-room
returns-clause-room c = room

pub returns-clause-day : goal.returns-clause-day
returns-clause-day c = beside-day
