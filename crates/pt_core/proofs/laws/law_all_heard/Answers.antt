-- What is heard since a command was sent, where all was heard before.
use Rattle.pt_core.proofs.HearingLemmas.{heard_since}
use Rattle.pt_core.proofs.laws.law_all_heard.Goals as goal

pub returns : goal.returns
returns c = heard_since
