-- Proof of the contract of `law_talk_steps`.
use Rattle.std.proofs.Common.{sym}
use Rattle.zvt_talk.proofs.EndLawLemmas.{end_stays}
use Rattle.zvt_talk.proofs.StepLemmas.{after_message, after_stop_wished, heard_is}
use Rattle.zvt_talk.proofs.laws.law_talk_steps.Goals as goal

pub returns-clause-means : goal.returns-clause-means
returns-clause-means c = λ dialogue came message goes_on. heard_is dialogue came message goes_on

pub returns-clause-next : goal.returns-clause-next
returns-clause-next c = λ dialogue came message at goes_on. sym (after_message dialogue came message at goes_on)

pub returns-clause-stop_wished : goal.returns-clause-stop_wished
returns-clause-stop_wished c = λ dialogue came. sym (after_stop_wished dialogue came)

pub returns-clause-ended : goal.returns-clause-ended
returns-clause-ended c = end_stays
