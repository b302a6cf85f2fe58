-- Proof of the contract of `law_payment_ends`.
use Rattle.gw_owes.proofs.PaymentLawLemmas.{each-kept-before-reply, each-record-of-an-end, approval-is-kept, not-above-is-aside, decline-is-kept, unclear-keeps-nothing}
use Rattle.gw_owes.proofs.payment_laws.law_payment_ends.Goals as goal

pub returns-clause-reply : goal.returns-clause-reply
returns-clause-reply c = each-kept-before-reply

pub returns-clause-kept : goal.returns-clause-kept
returns-clause-kept c = each-record-of-an-end

pub returns-clause-approved : goal.returns-clause-approved
returns-clause-approved c = approval-is-kept

pub returns-clause-aside : goal.returns-clause-aside
returns-clause-aside c = not-above-is-aside

pub returns-clause-declined : goal.returns-clause-declined
returns-clause-declined c = decline-is-kept

pub returns-clause-unclear : goal.returns-clause-unclear
returns-clause-unclear c = unclear-keeps-nothing
