-- Proof of the contract of `law_set_aside`.
use Rattle.gw_owes.proofs.AsideLemmas.{each-aside-has-cause, no-link-event-sets-aside, enquired-is-set-aside, aside-stays-aside, each-served-leaves-last}
use Rattle.gw_owes.proofs.PaymentExampleLemmas.{report-below, report-below-open}
use Rattle.gw_owes.proofs.terminal_laws.law_set_aside.Goals as goal

pub returns-clause-items : goal.returns-clause-items
returns-clause-items c = each-aside-has-cause

pub returns-clause-links : goal.returns-clause-links
returns-clause-links c = no-link-event-sets-aside

pub returns-clause-enquired : goal.returns-clause-enquired
returns-clause-enquired c = enquired-is-set-aside

pub returns-clause-stays : goal.returns-clause-stays
returns-clause-stays c = aside-stays-aside

pub returns-clause-no_trace : goal.returns-clause-no_trace
returns-clause-no_trace c = each-served-leaves-last

pub returns-clause-example : goal.returns-clause-example
returns-clause-example c = report-below

pub returns-clause-open_example : goal.returns-clause-open_example
returns-clause-open_example c = report-below-open
