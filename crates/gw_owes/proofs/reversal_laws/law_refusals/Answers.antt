-- Proof of the contract of `law_refusals`.
use Rattle.gw_owes.proofs.RefusalLemmas.{each-cause-is-replied, each-failure-has-its-cause, each-reversal-is-replied, irreversible-is-not-allowed, reversible-begins, unnamed-is-not-found}
use Rattle.gw_owes.proofs.reversal_laws.law_refusals.Goals as goal

pub returns-clause-cause : goal.returns-clause-cause
returns-clause-cause c = each-reversal-is-replied

pub returns-clause-refused : goal.returns-clause-refused
returns-clause-refused c = each-cause-is-replied

pub returns-clause-only : goal.returns-clause-only
returns-clause-only c = each-failure-has-its-cause

pub returns-clause-not_found : goal.returns-clause-not_found
returns-clause-not_found c = unnamed-is-not-found

pub returns-clause-not_allowed : goal.returns-clause-not_allowed
returns-clause-not_allowed c = irreversible-is-not-allowed

pub returns-clause-begins : goal.returns-clause-begins
returns-clause-begins c = reversible-begins
