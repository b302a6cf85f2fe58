-- Proof of the contract of `law_reversed_once`.
use Rattle.gw_owes.proofs.RecordLemmas.{LedgerLaws}
use Rattle.gw_rules.proofs.RecordRowLemmas.{OrderLaws}
use Rattle.gw_books.proofs.ReversalExampleLemmas.{reversal-is-no-payment, reversed-agrees, reversed-has-past, reversed-is-booked}
use Rattle.gw_books.proofs.ReversedOnceLemmas.{booked-reversed-once, entry-is-as-asked, only-paid-is-reversed}
use Rattle.gw_books.proofs.law_reversed_once.Goals as goal

-- the laws of what a row keeps
order_laws : (c : goal.After-law_reversed_once) → OrderLaws
order_laws c = record { new = c.law_records.ensures.new; rows = c.law_records.ensures.rows; cuts = c.law_records.ensures.cuts; links = c.law_records.ensures.links; items = c.law_records.ensures.items; gone = c.law_records.ensures.gone; queues = c.law_records.ensures.queues; overdue = c.law_records.ensures.overdue; next = c.law_waits.ensures.order; waits = c.law_waits.ensures.keeps }

-- the ledger's laws
ledger_laws : (c : goal.After-law_reversed_once) → LedgerLaws
ledger_laws c = record {
  newest = c.law_next.ensures.newest;
  open_slots = c.law_open.ensures.slot;
  count = c.law_open.ensures.count;
  within = c.law_within.ensures;
  named = c.law_named.ensures.entry;
  payment = c.law_fits.ensures.payment;
  reversal = c.law_fits.ensures.reversal;
  outcome = c.law_fits.ensures.outcome;
  settled = c.law_fits.ensures.settled;
}

pub returns-clause-once : goal.returns-clause-once
returns-clause-once c = booked-reversed-once (order_laws c) (ledger_laws c) c.law_reversed_once.ensures.others

pub returns-clause-paid : goal.returns-clause-paid
returns-clause-paid c = only-paid-is-reversed (order_laws c) (ledger_laws c) c.law_reversed_once.ensures.original

pub returns-clause-entries : goal.returns-clause-entries
returns-clause-entries c = entry-is-as-asked (order_laws c) (ledger_laws c)

pub returns-clause-past : goal.returns-clause-past
returns-clause-past c = reversed-has-past

pub returns-clause-agrees : goal.returns-clause-agrees
returns-clause-agrees c = reversed-agrees

pub returns-clause-example : goal.returns-clause-example
returns-clause-example c = reversed-is-booked

pub returns-clause-other : goal.returns-clause-other
returns-clause-other c = reversal-is-no-payment
