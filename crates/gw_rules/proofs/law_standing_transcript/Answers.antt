-- Proof of the contract of `law_standing_transcript`.
use Rattle.gw_rules.proofs.OwingLemmas.{clear-owes-calls}
use Rattle.gw_rules.proofs.TranscriptLogLemmas.{logs-follow, polls-follow, example-log-transcript}
use Rattle.gw_rules.proofs.SaidLemmas.{messages-said}
use Rattle.gw_rules.proofs.SentLemmas.{commands-sent}
use Rattle.gw_rules.proofs.law_standing_transcript.Goals as goal

pub returns-clause-logs : goal.returns-clause-logs
returns-clause-logs c = logs-follow c.law_transcript.ensures.rows

pub returns-clause-owed : goal.returns-clause-owed
returns-clause-owed c = clear-owes-calls

pub returns-clause-polls : goal.returns-clause-polls
returns-clause-polls c = polls-follow c.law_transcript.ensures.rows

pub returns-clause-sent : goal.returns-clause-sent
returns-clause-sent c = commands-sent

pub returns-clause-said : goal.returns-clause-said
returns-clause-said c = messages-said

pub returns-clause-example : goal.returns-clause-example
returns-clause-example c = example-log-transcript
