-- Proof of the contract of `law_begun`.
use Rattle.std.proofs.Common.{true, false}
use Rattle.zvt_talk.proofs.StopWishedLemmas.{has_no_stop_wished, no_stop_was_wished, has_stop_wished, stop_wished}
use Rattle.zvt_talk.proofs.laws.law_begun.Goals as goal

pub returns-clause-without_stop_wished : goal.returns-clause-without_stop_wished
returns-clause-without_stop_wished c = λ dialogue came message.
    let law = c.law_acknowledged.ensures dialogue came message false in (
      λ is. let begun = law.0 is in (begun.0, has_no_stop_wished came begun.0.asked begun.1),
      λ begun. law.1 (begun.0, no_stop_was_wished came begun.0.asked begun.1),
    )

pub returns-clause-with_stop_wished : goal.returns-clause-with_stop_wished
returns-clause-with_stop_wished c = λ dialogue came message.
    let law = c.law_acknowledged.ensures dialogue came message true in (
      λ is. let begun = law.0 is in (begun.0, has_stop_wished came begun.0.asked begun.1),
      λ begun. law.1 (begun.0, stop_wished came begun.0.asked begun.1),
    )
