-- Proof of the contract of `law_registered_is_enquired`.
use Rattle.gw_rules.proofs.EnquiryLemmas.{registered-is-enquired}
use Rattle.gw_rules.proofs.law_registered_is_enquired.Goals as goal

pub returns : goal.returns
returns c = record { enquired = registered-is-enquired }
