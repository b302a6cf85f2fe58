-- Proof of the contract of `law_day_log_examples`.
use Rattle.rule_examples.proofs.DayLogExampleLemmas.{day-lawful, lost-day-lawful, display-lawful}
use Rattle.rule_examples.proofs.TillLogExampleLemmas.{unsent-day-lawful}
use Rattle.rule_examples.proofs.law_day_log_examples.Goals as goal

pub returns-clause-done_example : goal.returns-clause-done_example
returns-clause-done_example c = day-lawful

pub returns-clause-lost_example : goal.returns-clause-lost_example
returns-clause-lost_example c = lost-day-lawful

pub returns-clause-unsent_example : goal.returns-clause-unsent_example
returns-clause-unsent_example c = unsent-day-lawful

pub returns-clause-display_example : goal.returns-clause-display_example
returns-clause-display_example c = display-lawful
