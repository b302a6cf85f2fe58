-- Proof of the contract of `law_day_examples`.
use Rattle.owes_examples.proofs.ReconciliationExampleLemmas.{between, day-again, day-premises, days, sales, settled-day, settled-payment}
use Rattle.owes_examples.proofs.law_day_examples.Goals as goal

pub returns-clause-sales : goal.returns-clause-sales
returns-clause-sales c = sales

pub returns-clause-days : goal.returns-clause-days
returns-clause-days c = days

pub returns-clause-again : goal.returns-clause-again
returns-clause-again c = day-again

pub returns-clause-settled : goal.returns-clause-settled
returns-clause-settled c = settled-payment

pub returns-clause-between : goal.returns-clause-between
returns-clause-between c = between

pub returns-clause-premises : goal.returns-clause-premises
returns-clause-premises c = day-premises

pub returns-clause-settled_day : goal.returns-clause-settled_day
returns-clause-settled_day c = settled-day c.law_examples.ensures.reconciliation
