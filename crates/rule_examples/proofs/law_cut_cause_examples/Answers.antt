-- Proof of the contract of `law_cut_cause_examples`.
use Rattle.rule_examples.proofs.CutCauseExampleLemmas.{unclear-cut, declined-cut, outside-cut-cause, too-long-cut-cause, late-cut, failed-cut}
use Rattle.rule_examples.proofs.law_cut_cause_examples.Goals as goal

pub returns-clause-unclear : goal.returns-clause-unclear
returns-clause-unclear c = unclear-cut

pub returns-clause-declined : goal.returns-clause-declined
returns-clause-declined c = declined-cut

pub returns-clause-outside : goal.returns-clause-outside
returns-clause-outside c = outside-cut-cause

pub returns-clause-too_long : goal.returns-clause-too_long
returns-clause-too_long c = too-long-cut-cause

pub returns-clause-late : goal.returns-clause-late
returns-clause-late c = late-cut

pub returns-clause-failed_send : goal.returns-clause-failed_send
returns-clause-failed_send c = failed-cut
