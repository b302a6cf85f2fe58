-- Proof of the contract of `law_session_examples`.
use Rattle.owes_examples.proofs.SessionExampleLemmas.{logout-beside-day, many, other-pairs, session-along, session-premises, sessions, under-logout}
use Rattle.owes_examples.proofs.law_session_examples.Goals as goal

pub returns-clause-sessions : goal.returns-clause-sessions
returns-clause-sessions c = sessions

pub returns-clause-others : goal.returns-clause-others
returns-clause-others c = other-pairs

pub returns-clause-many : goal.returns-clause-many
returns-clause-many c = many

pub returns-clause-under_logout : goal.returns-clause-under_logout
returns-clause-under_logout c = under-logout

pub returns-clause-beside_day : goal.returns-clause-beside_day
returns-clause-beside_day c = logout-beside-day

pub returns-clause-along : goal.returns-clause-along
returns-clause-along c = session-along

pub returns-clause-premises : goal.returns-clause-premises
returns-clause-premises c = session-premises
