-- Proof of the contract of `law_stop_logs`.
use Rattle.gw_rules.proofs.StopLogLemmas.{each-stop-is-wished-once, stop-is-sent-once, example-stops}
use Rattle.gw_rules.proofs.law_stop_logs.Goals as goal

pub returns-clause-stops : goal.returns-clause-stops
returns-clause-stops c = each-stop-is-wished-once c.law_transcript.ensures.rows

pub returns-clause-sent : goal.returns-clause-sent
returns-clause-sent c = stop-is-sent-once c.law_transcript.ensures.rows

pub returns-clause-example : goal.returns-clause-example
returns-clause-example c = example-stops
