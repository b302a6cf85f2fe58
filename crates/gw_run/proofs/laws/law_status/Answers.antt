-- Proof of the contract of `law_status`.
use Rattle.gw_run.proofs.ExampleLemmas.{status-of-script, status-has-text}
use Rattle.gw_run.proofs.laws.law_status.Goals as goal

pub returns-clause-script : goal.returns-clause-script
returns-clause-script c = status-of-script

pub returns-clause-text : goal.returns-clause-text
returns-clause-text c = status-has-text
