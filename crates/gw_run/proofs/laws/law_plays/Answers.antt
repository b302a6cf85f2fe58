-- Proof of the contract of `law_plays`.
use Rattle.gw_run.proofs.ByLinesLemmas.{log-by-lines, log-has-events}
use Rattle.gw_run.proofs.OneLogLemmas.{log-has-script}
use Rattle.gw_run.proofs.PlayLawLemmas.{log-is-played}
use Rattle.gw_run.proofs.laws.law_plays.Goals as goal

pub returns-clause-played : goal.returns-clause-played
returns-clause-played c = log-is-played

pub returns-clause-lines : goal.returns-clause-lines
returns-clause-lines c = log-by-lines

pub returns-clause-events : goal.returns-clause-events
returns-clause-events c = log-has-events

pub returns-clause-script : goal.returns-clause-script
returns-clause-script c = log-has-script
