-- Proof of the contract of `law_reversals`.
use Rattle.gw_owes.proofs.ReversalReplyLemmas.{approval-is-replied, decline-is-replied, reported-decline-is-replied, reported-is-replied, unperformed-is-replied}
use Rattle.gw_owes.proofs.reversal_laws.law_reversals.Goals as goal

pub returns-clause-approved : goal.returns-clause-approved
returns-clause-approved c = approval-is-replied

pub returns-clause-declined : goal.returns-clause-declined
returns-clause-declined c = decline-is-replied

pub returns-clause-reported : goal.returns-clause-reported
returns-clause-reported c = reported-is-replied

pub returns-clause-reported_decline : goal.returns-clause-reported_decline
returns-clause-reported_decline c = reported-decline-is-replied

pub returns-clause-unperformed : goal.returns-clause-unperformed
returns-clause-unperformed c = unperformed-is-replied
