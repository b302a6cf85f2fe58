-- Proof of the contract of `law_records`.
use Rattle.gw_owes.proofs.MemoryLemmas.{gone-leaves-days, messages-take-theirs, requests-take-one}
use Rattle.gw_owes.proofs.NextOrderLemmas.{next-takes-its-own, overdue-in-order, queues-in-order}
use Rattle.gw_owes.proofs.OrderLemmas.{cuts-in-order, items-read, links-in-order, new-in-order, rows-in-order}
use Rattle.gw_owes.proofs.RecordLemmas.{LedgerLaws}
use Rattle.gw_owes.proofs.record_laws.law_records.Goals as goal

-- the ledger's laws
ledger_laws : (c : goal.After-law_read_fits) → LedgerLaws
ledger_laws c = record {
  newest = c.law_next.ensures.newest;
  open_slots = c.law_open.ensures.slot;
  count = c.law_open.ensures.count;
  within = c.law_within.ensures;
  named = c.law_named.ensures.entry;
  payment = c.law_fits.ensures.payment;
  reversal = c.law_fits.ensures.reversal;
  outcome = c.law_fits.ensures.outcome;
  settled = c.law_fits.ensures.settled;
}

pub returns-clause-new : goal.returns-clause-new
returns-clause-new c = new-in-order

pub returns-clause-rows : goal.returns-clause-rows
returns-clause-rows c = rows-in-order (ledger_laws c) c.law_read_fits.ensures.numbers

pub returns-clause-cuts : goal.returns-clause-cuts
returns-clause-cuts c = cuts-in-order (ledger_laws c) c.law_read_fits.ensures.numbers

pub returns-clause-links : goal.returns-clause-links
returns-clause-links c = links-in-order

pub returns-clause-queues : goal.returns-clause-queues
returns-clause-queues c = queues-in-order

pub returns-clause-overdue : goal.returns-clause-overdue
returns-clause-overdue c = overdue-in-order

pub returns-clause-items : goal.returns-clause-items
returns-clause-items c = items-read (ledger_laws c) c.law_read_fits.ensures.numbers

pub returns-clause-messages : goal.returns-clause-messages
returns-clause-messages c = messages-take-theirs

pub returns-clause-next : goal.returns-clause-next
returns-clause-next c = next-takes-its-own

pub returns-clause-requests : goal.returns-clause-requests
returns-clause-requests c = requests-take-one

pub returns-clause-gone : goal.returns-clause-gone
returns-clause-gone c = gone-leaves-days
