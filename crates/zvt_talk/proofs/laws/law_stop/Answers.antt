-- Proof of the contract of `law_stop`.
use Rattle.zvt_talk.proofs.StopLemmas.{message_stop, stopped_with, stop_sent_by_stop_wished}
use Rattle.zvt_talk.proofs.laws.law_stop.Goals as goal

pub returns-clause-message : goal.returns-clause-message
returns-clause-message c = message_stop

pub returns-clause-stop_wished : goal.returns-clause-stop_wished
returns-clause-stop_wished c = λ dialogue came. stop_sent_by_stop_wished dialogue.dialogue_kind came

pub returns-clause-stays : goal.returns-clause-stays
returns-clause-stays c = λ dialogue came more is. stopped_with dialogue.dialogue_kind came more is
