-- Proof of the contract of `law_till_examples`.
use Rattle.gw_rules.proofs.ExampleLemmas.{status-lawful}
use Rattle.rule_examples.proofs.ExampleLemmas.{failed-send-lawful, silent-lawful, bad-frame-lawful, crowded-lawful}
use Rattle.rule_examples.proofs.UnlawfulLemmas.{unasked-reply, poll-before-reply, poll-before-cut, poll-while-crowded}
use Rattle.rule_examples.proofs.law_till_examples.Goals as goal

pub returns-clause-status : goal.returns-clause-status
returns-clause-status c = status-lawful

pub returns-clause-unasked_reply : goal.returns-clause-unasked_reply
returns-clause-unasked_reply c = unasked-reply

pub returns-clause-poll_before_reply : goal.returns-clause-poll_before_reply
returns-clause-poll_before_reply c = poll-before-reply

pub returns-clause-failed_send : goal.returns-clause-failed_send
returns-clause-failed_send c = failed-send-lawful

pub returns-clause-poll_before_cut : goal.returns-clause-poll_before_cut
returns-clause-poll_before_cut c = poll-before-cut

pub returns-clause-silent : goal.returns-clause-silent
returns-clause-silent c = silent-lawful

pub returns-clause-bad_frame : goal.returns-clause-bad_frame
returns-clause-bad_frame c = bad-frame-lawful

pub returns-clause-crowded : goal.returns-clause-crowded
returns-clause-crowded c = crowded-lawful

pub returns-clause-poll_while_crowded : goal.returns-clause-poll_while_crowded
returns-clause-poll_while_crowded c = poll-while-crowded
