-- Proof of the contract of `law_deadline`.
use Rattle.zvt_talk.proofs.StopWishedLemmas.{due_after, due_same, due_stop_wished}
use Rattle.zvt_talk.proofs.laws.law_deadline.Goals as goal

pub returns-clause-message : goal.returns-clause-message
returns-clause-message c = due_after

pub returns-clause-other : goal.returns-clause-other
returns-clause-other c = due_same

pub returns-clause-stop_wished : goal.returns-clause-stop_wished
returns-clause-stop_wished c = due_stop_wished
