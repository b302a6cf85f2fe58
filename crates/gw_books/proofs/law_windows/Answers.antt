-- Proof of the contract of `law_windows`.
use Rattle.gw_owes.proofs.RecordLemmas.{LedgerLaws}
use Rattle.gw_rules.proofs.RecordRowLemmas.{OrderLaws}
use Rattle.gw_books.proofs.WindowExampleLemmas.{coming-does-not-match, refused-matches, reversed-matches, unmatched-books, window-ends}
use Rattle.gw_books.proofs.WindowLemmas.{honest-matches}
use Rattle.gw_books.proofs.law_windows.Goals as goal

-- the laws of what a row keeps
order_laws : (c : goal.After-law_fits) → OrderLaws
order_laws c = record { new = c.law_records.ensures.new; rows = c.law_records.ensures.rows; cuts = c.law_records.ensures.cuts; links = c.law_records.ensures.links; items = c.law_records.ensures.items; gone = c.law_records.ensures.gone; queues = c.law_records.ensures.queues; overdue = c.law_records.ensures.overdue; next = c.law_waits.ensures.order; waits = c.law_waits.ensures.keeps }

-- the ledger's laws
ledger_laws : (c : goal.After-law_fits) → LedgerLaws
ledger_laws c = record {
  newest = c.law_next.ensures.newest;
  open_slots = c.law_open.ensures.slot;
  count = c.law_open.ensures.count;
  within = c.law_within.ensures;
  named = c.law_named.ensures.entry;
  payment = c.law_fits.ensures.payment;
  reversal = c.law_fits.ensures.reversal;
  outcome = c.law_fits.ensures.outcome;
  settled = c.law_fits.ensures.settled;
}

pub returns-clause-matches : goal.returns-clause-matches
returns-clause-matches c = honest-matches (order_laws c) (ledger_laws c)

pub returns-clause-example : goal.returns-clause-example
returns-clause-example c = reversed-matches (order_laws c) (ledger_laws c)

pub returns-clause-coming : goal.returns-clause-coming
returns-clause-coming c = coming-does-not-match

pub returns-clause-declined : goal.returns-clause-declined
returns-clause-declined c = refused-matches (order_laws c) (ledger_laws c)

pub returns-clause-unmatched : goal.returns-clause-unmatched
returns-clause-unmatched c = unmatched-books

pub returns-clause-ends : goal.returns-clause-ends
returns-clause-ends c = window-ends
