-- Proof of the contract of `law_terminal_logs`.
use Rattle.gw_rules.proofs.TerminalLogLemmas.{ready-lawful}
use Rattle.rule_examples.proofs.TerminalLogLemmas.{silent-registration-lawful, done-enquired, done-then-silent-cut, unfinished-cut, poll-before-silent-cut, poll-before-enquiry, due-again-lawful, declined-lawful, silent-enquiry-lawful, unacknowledged-lawful, poll-before-link, link-too-early, enquiry-before-registration, enquiry-after-cut}
use Rattle.rule_examples.proofs.law_terminal_logs.Goals as goal

pub returns-clause-ready : goal.returns-clause-ready
returns-clause-ready c = ready-lawful

pub returns-clause-due_again : goal.returns-clause-due_again
returns-clause-due_again c = due-again-lawful

pub returns-clause-declined : goal.returns-clause-declined
returns-clause-declined c = declined-lawful

pub returns-clause-silent_enquiry : goal.returns-clause-silent_enquiry
returns-clause-silent_enquiry c = silent-enquiry-lawful

pub returns-clause-unacknowledged : goal.returns-clause-unacknowledged
returns-clause-unacknowledged c = unacknowledged-lawful

pub returns-clause-poll_before_link : goal.returns-clause-poll_before_link
returns-clause-poll_before_link c = poll-before-link

pub returns-clause-early_enquiry : goal.returns-clause-early_enquiry
returns-clause-early_enquiry c = enquiry-before-registration

pub returns-clause-sent_after_cut : goal.returns-clause-sent_after_cut
returns-clause-sent_after_cut c = enquiry-after-cut

pub returns-clause-link_too_early : goal.returns-clause-link_too_early
returns-clause-link_too_early c = link-too-early

pub returns-clause-silent_registration : goal.returns-clause-silent_registration
returns-clause-silent_registration c = silent-registration-lawful

pub returns-clause-done : goal.returns-clause-done
returns-clause-done c = done-enquired

pub returns-clause-poll_before_silent_cut : goal.returns-clause-poll_before_silent_cut
returns-clause-poll_before_silent_cut c = poll-before-silent-cut

pub returns-clause-poll_before_enquiry : goal.returns-clause-poll_before_enquiry
returns-clause-poll_before_enquiry c = poll-before-enquiry

pub returns-clause-done_then_silent : goal.returns-clause-done_then_silent
returns-clause-done_then_silent c = done-then-silent-cut

pub returns-clause-unfinished : goal.returns-clause-unfinished
returns-clause-unfinished c = unfinished-cut
