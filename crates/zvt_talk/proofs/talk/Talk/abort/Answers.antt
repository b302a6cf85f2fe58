-- Proof of the contract of `Talk::abort`.
use Rattle.std.proofs.Common.{◌∙◌, ap, sym}
use Rattle.zvt_talk.specs.TalkSteps.{talk_after_stop_wished}
use Rattle.zvt_talk.proofs.StepLemmas.{after_stop_wished}
use Rattle.zvt_talk.proofs.talk.Talk.abort.Goals as goal

pub returns-clause-added : goal.returns-clause-added
returns-clause-added c = λ dialogue came is.
    c.keep_stop_wished.ensures ∙ ap talk_after_stop_wished is ∙ sym (after_stop_wished dialogue came)
