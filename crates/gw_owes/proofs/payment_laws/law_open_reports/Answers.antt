-- Proof of the contract of `law_open_reports`.
use Rattle.gw_owes.proofs.PaymentExampleLemmas.{reports-of-open}
use Rattle.gw_owes.proofs.PaymentLawLemmas.{reported-approval-is-kept, reported-decline-is-kept, unperformed-is-aborted}
use Rattle.gw_owes.proofs.payment_laws.law_open_reports.Goals as goal

pub returns-clause-approved : goal.returns-clause-approved
returns-clause-approved c = reported-approval-is-kept

pub returns-clause-declined : goal.returns-clause-declined
returns-clause-declined c = reported-decline-is-kept

pub returns-clause-unperformed : goal.returns-clause-unperformed
returns-clause-unperformed c = unperformed-is-aborted

pub returns-clause-examples : goal.returns-clause-examples
returns-clause-examples c = reports-of-open
