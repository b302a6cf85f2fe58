-- Proof of the contract of `law_another_log`.
use Rattle.gw_run.proofs.ReadyExampleLemmas.{failed-not-of-script}
use Rattle.gw_run.proofs.laws.law_another_log.Goals as goal

pub returns : goal.returns
returns c = record { other = failed-not-of-script }
