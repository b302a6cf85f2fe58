-- Proof of the contract of `law_kept_replies`.
use Rattle.gw_owes.proofs.RecordLemmas.{LedgerLaws}
use Rattle.gw_books.proofs.KeptReplyLemmas.{finished-stays, first-reply-is-kept, paid-stays}
use Rattle.gw_books.proofs.law_kept_replies.Goals as goal

-- the ledger's laws
ledger_laws : (c : goal.After-law_fits) → LedgerLaws
ledger_laws c = record {
  newest = c.law_next.ensures.newest;
  open_slots = c.law_open.ensures.slot;
  count = c.law_open.ensures.count;
  within = c.law_within.ensures;
  named = c.law_named.ensures.entry;
  payment = c.law_fits.ensures.payment;
  reversal = c.law_fits.ensures.reversal;
  outcome = c.law_fits.ensures.outcome;
  settled = c.law_fits.ensures.settled;
}

pub returns-clause-stays : goal.returns-clause-stays
returns-clause-stays c = finished-stays (ledger_laws c)

pub returns-clause-first : goal.returns-clause-first
returns-clause-first c = first-reply-is-kept (ledger_laws c)

pub returns-clause-example : goal.returns-clause-example
returns-clause-example c = paid-stays
