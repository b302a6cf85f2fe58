-- Proof of the contract of `law_recovery`.
use Rattle.gw_owes.proofs.RecordLemmas.{LedgerLaws}
use Rattle.gw_rules.proofs.RecordRowLemmas.{OrderLaws}
use Rattle.gw_books.proofs.KeptReplyLemmas.{finished-stays}
use Rattle.gw_books.proofs.RecoveryExampleLemmas.{aside-is-not-honest, recovered-is-repeated, recovered-is-resolved, recovered-is-said, unperformed-is-resolved}
use Rattle.gw_books.proofs.RecoveryLemmas.{each-outcome-is-true, report-is-said, reported-is-resolved, sets-none-aside}
use Rattle.gw_books.proofs.SaidAsKeptLemmas.{said-as-kept}
use Rattle.gw_books.proofs.law_recovery.Goals as goal

-- the laws of what a row keeps
order_laws : (c : goal.After-law_fits) → OrderLaws
order_laws c = record { new = c.law_records.ensures.new; rows = c.law_records.ensures.rows; cuts = c.law_records.ensures.cuts; links = c.law_records.ensures.links; items = c.law_records.ensures.items; gone = c.law_records.ensures.gone; queues = c.law_records.ensures.queues; overdue = c.law_records.ensures.overdue; next = c.law_waits.ensures.order; waits = c.law_waits.ensures.keeps }

-- the ledger's laws
ledger_laws : (c : goal.After-law_fits) → LedgerLaws
ledger_laws c = record {
  newest = c.law_next.ensures.newest;
  open_slots = c.law_open.ensures.slot;
  count = c.law_open.ensures.count;
  within = c.law_within.ensures;
  named = c.law_named.ensures.entry;
  payment = c.law_fits.ensures.payment;
  reversal = c.law_fits.ensures.reversal;
  outcome = c.law_fits.ensures.outcome;
  settled = c.law_fits.ensures.settled;
}

pub returns-clause-resolved : goal.returns-clause-resolved
returns-clause-resolved c = reported-is-resolved (order_laws c) (ledger_laws c)

pub returns-clause-outcomes : goal.returns-clause-outcomes
returns-clause-outcomes c = each-outcome-is-true (order_laws c) (ledger_laws c)

pub returns-clause-stays : goal.returns-clause-stays
returns-clause-stays c = finished-stays (ledger_laws c)

pub returns-clause-same : goal.returns-clause-same
returns-clause-same c = said-as-kept (order_laws c) (ledger_laws c)

pub returns-clause-said : goal.returns-clause-said
returns-clause-said c =
    report-is-said (order_laws c) (ledger_laws c) (record { approved = c.law_open_reports.ensures.approved; declined = c.law_open_reports.ensures.declined; unperformed = c.law_open_reports.ensures.unperformed })

pub returns-clause-aside : goal.returns-clause-aside
returns-clause-aside c = sets-none-aside (order_laws c) (ledger_laws c)

pub returns-clause-example : goal.returns-clause-example
returns-clause-example c = recovered-is-resolved

pub returns-clause-same_example : goal.returns-clause-same_example
returns-clause-same_example c = recovered-is-repeated

pub returns-clause-unperformed_example : goal.returns-clause-unperformed_example
returns-clause-unperformed_example c = unperformed-is-resolved

pub returns-clause-said_example : goal.returns-clause-said_example
returns-clause-said_example c = recovered-is-said

pub returns-clause-aside_example : goal.returns-clause-aside_example
returns-clause-aside_example c = aside-is-not-honest
