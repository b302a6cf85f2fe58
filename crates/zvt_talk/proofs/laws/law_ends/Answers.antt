-- Proof of the contract of `law_ends`.
use Rattle.std.proofs.Common.{[]}
use Rattle.zvt_talk.proofs.EndLawLemmas.{ended_is, end_by_message, goes_on_is, dialogue_kind_from, stop_ends_nothing}
use Rattle.zvt_talk.proofs.laws.law_ends.Goals as goal

pub returns-clause-ended : goal.returns-clause-ended
returns-clause-ended c = ended_is

pub returns-clause-goes_on : goal.returns-clause-goes_on
returns-clause-goes_on c = goes_on_is

pub returns-clause-by_message : goal.returns-clause-by_message
returns-clause-by_message c = end_by_message

pub returns-clause-dialogue_kinds : goal.returns-clause-dialogue_kinds
returns-clause-dialogue_kinds c = λ dialogue came end is. dialogue_kind_from dialogue (c.law_meanings.ensures dialogue) [] came end is

pub returns-clause-stop_wished : goal.returns-clause-stop_wished
returns-clause-stop_wished c = stop_ends_nothing
