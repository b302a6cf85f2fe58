-- Proof of the contract of `law_aborts`.
use Rattle.gw_owes.proofs.PaymentLawLemmas.{decline-is-kept}
use Rattle.gw_owes.proofs.StopLemmas.{abort-code-of-day-is-replied, ack-or-nack-ends-nothing, each-stop-is-first, stop-ends-nothing, stopped-is-not-stopped-again, wished-is-sent}
use Rattle.gw_owes.proofs.reversal_laws.law_aborts.Goals as goal

pub returns-clause-then_sent : goal.returns-clause-then_sent
returns-clause-then_sent c = wished-is-sent

pub returns-clause-again : goal.returns-clause-again
returns-clause-again c = stopped-is-not-stopped-again

pub returns-clause-once : goal.returns-clause-once
returns-clause-once c = each-stop-is-first

pub returns-clause-ends_nothing : goal.returns-clause-ends_nothing
returns-clause-ends_nothing c = stop-ends-nothing

pub returns-clause-refused : goal.returns-clause-refused
returns-clause-refused c = ack-or-nack-ends-nothing

pub returns-clause-aborted : goal.returns-clause-aborted
returns-clause-aborted c = λ known number apdu terminal slot last reported at. decline-is-kept known number apdu terminal slot last 0x6C reported at

pub returns-clause-aborted_day : goal.returns-clause-aborted_day
returns-clause-aborted_day c = abort-code-of-day-is-replied
