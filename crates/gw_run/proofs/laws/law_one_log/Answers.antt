-- Proof of the contract of `law_one_log`.
use Rattle.gw_run.proofs.OneLogLemmas.{one-drill-log, one-log}
use Rattle.gw_run.proofs.laws.law_one_log.Goals as goal

pub returns : goal.returns
returns c = record { one = one-log; drill = one-drill-log }
