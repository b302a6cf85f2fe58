-- Proof of the contract of `law_cut_examples`.
use Rattle.rule_examples.proofs.CutExampleLemmas.{both-are-cut, both-are-linked-again, unacknowledged-done-cut, other-not-cut-first, poll-before-other-cut, enquiry-unacknowledged}
use Rattle.rule_examples.proofs.law_cut_examples.Goals as goal

pub returns-clause-both_cut : goal.returns-clause-both_cut
returns-clause-both_cut c = both-are-cut

pub returns-clause-both_linked : goal.returns-clause-both_linked
returns-clause-both_linked c = both-are-linked-again

pub returns-clause-order : goal.returns-clause-order
returns-clause-order c = other-not-cut-first

pub returns-clause-poll_between : goal.returns-clause-poll_between
returns-clause-poll_between c = poll-before-other-cut

pub returns-clause-unacknowledged : goal.returns-clause-unacknowledged
returns-clause-unacknowledged c = unacknowledged-done-cut

pub returns-clause-no_enquiry : goal.returns-clause-no_enquiry
returns-clause-no_enquiry c = enquiry-unacknowledged
