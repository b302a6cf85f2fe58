-- Proof of the contract of `law_on_record`.
use Rattle.gw_owes.proofs.StepLemmas.{each-service-has-steps, each-on-record-is-replied, records-alone-reply, on-record-begins-nothing, status-repeats-reply}
use Rattle.gw_owes.proofs.step_laws.law_on_record.Goals as goal

pub returns-clause-steps : goal.returns-clause-steps
returns-clause-steps c = each-service-has-steps

pub returns-clause-replied : goal.returns-clause-replied
returns-clause-replied c = each-on-record-is-replied

pub returns-clause-alone : goal.returns-clause-alone
returns-clause-alone c = records-alone-reply

pub returns-clause-nothing : goal.returns-clause-nothing
returns-clause-nothing c = on-record-begins-nothing

pub returns-clause-repeated : goal.returns-clause-repeated
returns-clause-repeated c = status-repeats-reply
