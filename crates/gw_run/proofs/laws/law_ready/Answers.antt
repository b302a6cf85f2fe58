-- Proof of the contract of `law_ready`.
use Rattle.gw_run.proofs.ReadyExampleLemmas.{ready-of-script, ready-has-text}
use Rattle.gw_run.proofs.laws.law_ready.Goals as goal

pub returns-clause-script : goal.returns-clause-script
returns-clause-script c = ready-of-script

pub returns-clause-text : goal.returns-clause-text
returns-clause-text c = ready-has-text
