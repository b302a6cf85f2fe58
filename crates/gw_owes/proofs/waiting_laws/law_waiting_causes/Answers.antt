-- Proof of the contract of `law_waiting_causes`.
use Rattle.gw_owes.proofs.WaitingCauseLemmas.{each-first-refused-exactly, each-waiting-reply-has-cause}
use Rattle.gw_owes.proofs.waiting_laws.law_waiting_causes.Goals as goal

pub returns-clause-first : goal.returns-clause-first
returns-clause-first c = each-first-refused-exactly

pub returns-clause-replies : goal.returns-clause-replies
returns-clause-replies c = each-waiting-reply-has-cause
