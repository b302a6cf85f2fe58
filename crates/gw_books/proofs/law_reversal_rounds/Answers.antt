-- Proof of the contract of `law_reversal_rounds`.
use Rattle.gw_books.proofs.ReversalExampleLemmas.{aborted-round-is-stopped, reversal-round-is-asked}
use Rattle.gw_books.proofs.RoundLemmas.{reversal-is-asked, stop-is-sent}
use Rattle.gw_books.proofs.law_reversal_rounds.Goals as goal

pub returns-clause-asked : goal.returns-clause-asked
returns-clause-asked c = reversal-is-asked c.law_payment_begins.ensures.begins

pub returns-clause-stopped : goal.returns-clause-stopped
returns-clause-stopped c =
    stop-is-sent (record { new = c.law_records.ensures.new; rows = c.law_records.ensures.rows; cuts = c.law_records.ensures.cuts; links = c.law_records.ensures.links; items = c.law_records.ensures.items; gone = c.law_records.ensures.gone; queues = c.law_records.ensures.queues; overdue = c.law_records.ensures.overdue; next = c.law_waits.ensures.order; waits = c.law_waits.ensures.keeps })
    c.law_aborts.ensures.served

pub returns-clause-example : goal.returns-clause-example
returns-clause-example c = reversal-round-is-asked

pub returns-clause-stopped_example : goal.returns-clause-stopped_example
returns-clause-stopped_example c = aborted-round-is-stopped
