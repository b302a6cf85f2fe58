-- The examples of a played terminal.
use Rattle.pt_core.proofs.ExampleLemmas.{example_book, example_end, example_hearing, example_last_trace, example_met, example_shared_cause, example_since}
use Rattle.pt_core.proofs.laws.law_examples.Goals as goal

pub returns-clause-met : goal.returns-clause-met
returns-clause-met c = example_met

pub returns-clause-book : goal.returns-clause-book
returns-clause-book c = example_book

pub returns-clause-last_trace : goal.returns-clause-last_trace
returns-clause-last_trace c = example_last_trace

pub returns-clause-end : goal.returns-clause-end
returns-clause-end c = example_end

pub returns-clause-hearing : goal.returns-clause-hearing
returns-clause-hearing c = example_hearing

pub returns-clause-since : goal.returns-clause-since
returns-clause-since c = example_since

pub returns-clause-shared_cause : goal.returns-clause-shared_cause
returns-clause-shared_cause c = example_shared_cause
