-- Proof of the contract of `law_silent_cuts`.
use Rattle.gw_rules.proofs.EnquiryLemmas.{unfinished-registration-is-cut, silent-enquiry-is-cut}
use Rattle.gw_rules.proofs.LinkedSilenceLemmas.{silent-registration-is-cut}
use Rattle.gw_rules.proofs.TrickleExampleLemmas.{poll-before-trickle-cut}
use Rattle.gw_rules.proofs.law_silent_cuts.Goals as goal

pub returns-clause-registration : goal.returns-clause-registration
returns-clause-registration c = silent-registration-is-cut

pub returns-clause-poll_before : goal.returns-clause-poll_before
returns-clause-poll_before c = poll-before-trickle-cut

pub returns-clause-unfinished : goal.returns-clause-unfinished
returns-clause-unfinished c = unfinished-registration-is-cut

pub returns-clause-enquiry : goal.returns-clause-enquiry
returns-clause-enquiry c = silent-enquiry-is-cut
