-- Proof of the contract of `law_failing_calls`.
use Rattle.gw_run.proofs.ExampleLemmas.{links-of-script, links-has-text}
use Rattle.gw_run.proofs.laws.law_failing_calls.Goals as goal

pub returns-clause-script : goal.returns-clause-script
returns-clause-script c = links-of-script

pub returns-clause-text : goal.returns-clause-text
returns-clause-text c = links-has-text
