-- Proof of the contract of `law_cause_examples`.
use Rattle.gw_rules.proofs.CauseExampleLemmas.{outside-cause, too-long-cut}
use Rattle.rule_examples.proofs.CauseExampleLemmas.{outside-cut, poll-before-outside-cut, too-long-cause, poll-before-too-long-cut, split-report}
use Rattle.rule_examples.proofs.DoneExampleLemmas.{done}
use Rattle.rule_examples.proofs.law_cause_examples.Goals as goal

pub returns-clause-outside : goal.returns-clause-outside
returns-clause-outside c = outside-cut

pub returns-clause-outside_cause : goal.returns-clause-outside_cause
returns-clause-outside_cause c = outside-cause

pub returns-clause-poll_before_outside : goal.returns-clause-poll_before_outside
returns-clause-poll_before_outside c = poll-before-outside-cut

pub returns-clause-too_long : goal.returns-clause-too_long
returns-clause-too_long c = too-long-cut

pub returns-clause-too_long_cause : goal.returns-clause-too_long_cause
returns-clause-too_long_cause c = too-long-cause

pub returns-clause-poll_before_too_long : goal.returns-clause-poll_before_too_long
returns-clause-poll_before_too_long c = poll-before-too-long-cut

pub returns-clause-report : goal.returns-clause-report
returns-clause-report c = split-report

pub returns-clause-done : goal.returns-clause-done
returns-clause-done c = done
