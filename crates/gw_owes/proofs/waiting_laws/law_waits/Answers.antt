-- Proof of the contract of `law_waits`.
use Rattle.gw_owes.proofs.NextOrderLemmas.{next-in-order}
use Rattle.gw_owes.proofs.RecordLemmas.{LedgerLaws}
use Rattle.gw_owes.proofs.WaitingFrameLemmas.{gone-keeps-waits, links-keep-waits, moments-keep-waits, new-has-none-waiting}
use Rattle.gw_owes.proofs.WaitingOrderLemmas.{rows-keep-waits}
use Rattle.gw_owes.proofs.WaitingReplyLemmas.{each-first-next, each-may-join, each-takes-its-own, status-in-progress, waiting-key-replied}
use Rattle.gw_owes.proofs.waiting_laws.law_waits.Goals as goal

-- the ledger's laws
ledger_laws : (c : goal.After-law_fits) → LedgerLaws
ledger_laws c = record {
  newest = c.law_next.ensures.newest;
  open_slots = c.law_open.ensures.slot;
  count = c.law_open.ensures.count;
  within = c.law_within.ensures;
  named = c.law_named.ensures.entry;
  payment = c.law_fits.ensures.payment;
  reversal = c.law_fits.ensures.reversal;
  outcome = c.law_fits.ensures.outcome;
  settled = c.law_fits.ensures.settled;
}

pub returns-clause-joins : goal.returns-clause-joins
returns-clause-joins c = each-may-join

pub returns-clause-again : goal.returns-clause-again
returns-clause-again c = waiting-key-replied

pub returns-clause-status : goal.returns-clause-status
returns-clause-status c = status-in-progress

pub returns-clause-taken : goal.returns-clause-taken
returns-clause-taken c = each-takes-its-own

pub returns-clause-first : goal.returns-clause-first
returns-clause-first c = each-first-next

pub returns-clause-keeps : goal.returns-clause-keeps
returns-clause-keeps c = rows-keep-waits (ledger_laws c)

pub returns-clause-links : goal.returns-clause-links
returns-clause-links c = links-keep-waits

pub returns-clause-gone : goal.returns-clause-gone
returns-clause-gone c = gone-keeps-waits

pub returns-clause-moments : goal.returns-clause-moments
returns-clause-moments c = moments-keep-waits

pub returns-clause-new : goal.returns-clause-new
returns-clause-new c = new-has-none-waiting

pub returns-clause-order : goal.returns-clause-order
returns-clause-order c = next-in-order (ledger_laws c)
