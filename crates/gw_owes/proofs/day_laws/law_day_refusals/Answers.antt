-- Proof of the contract of `law_day_refusals`.
use Rattle.gw_owes.proofs.DayRefusalLemmas.{each-day-cause-is-replied, each-day-failure-has-cause, each-reconciliation-replied, only-may-begins}
use Rattle.gw_owes.proofs.day_laws.law_day_refusals.Goals as goal

pub returns-clause-replied : goal.returns-clause-replied
returns-clause-replied c = each-reconciliation-replied

pub returns-clause-cause : goal.returns-clause-cause
returns-clause-cause c = each-day-cause-is-replied

pub returns-clause-only : goal.returns-clause-only
returns-clause-only c = each-day-failure-has-cause

pub returns-clause-begins : goal.returns-clause-begins
returns-clause-begins c = only-may-begins
