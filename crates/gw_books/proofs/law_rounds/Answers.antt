-- Proof of the contract of `law_rounds`.
use Rattle.gw_books.proofs.RoundExampleLemmas.{paid-round-is-asked, paid-round-is-said, refused-round-is-said}
use Rattle.gw_books.proofs.RoundLemmas.{approval-is-said, decline-is-said, owed-is-done, payment-is-asked}
use Rattle.gw_books.proofs.law_rounds.Goals as goal

pub returns-clause-done : goal.returns-clause-done
returns-clause-done c = owed-is-done

pub returns-clause-asked : goal.returns-clause-asked
returns-clause-asked c = payment-is-asked c.law_payment_begins.ensures.begins c.law_payment_begins.ensures.served

pub returns-clause-approved : goal.returns-clause-approved
returns-clause-approved c =
    approval-is-said (record { new = c.law_records.ensures.new; rows = c.law_records.ensures.rows; cuts = c.law_records.ensures.cuts; links = c.law_records.ensures.links; items = c.law_records.ensures.items; gone = c.law_records.ensures.gone; queues = c.law_records.ensures.queues; overdue = c.law_records.ensures.overdue; next = c.law_waits.ensures.order; waits = c.law_waits.ensures.keeps }) c.law_payment_ends.ensures.approved

pub returns-clause-declined : goal.returns-clause-declined
returns-clause-declined c =
    decline-is-said (record { new = c.law_records.ensures.new; rows = c.law_records.ensures.rows; cuts = c.law_records.ensures.cuts; links = c.law_records.ensures.links; items = c.law_records.ensures.items; gone = c.law_records.ensures.gone; queues = c.law_records.ensures.queues; overdue = c.law_records.ensures.overdue; next = c.law_waits.ensures.order; waits = c.law_waits.ensures.keeps }) c.law_payment_ends.ensures.declined

pub returns-clause-example : goal.returns-clause-example
returns-clause-example c = paid-round-is-asked

pub returns-clause-approved_example : goal.returns-clause-approved_example
returns-clause-approved_example c = paid-round-is-said

pub returns-clause-declined_example : goal.returns-clause-declined_example
returns-clause-declined_example c = refused-round-is-said
