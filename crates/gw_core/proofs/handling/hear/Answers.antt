-- Proof of the contract of `hear`.
use Rattle.std.proofs.Common.{Some, ap, refl, ◌∙◌}
use Rattle.std.proofs.lemmas.Int.{to_z-of_z}
use Rattle.zvt_msg.specs.Message.{value_of}
use Rattle.zvt_talk.specs.Talk.{TalkFacts}
use Rattle.zvt_talk.specs.TalkSteps.{next_talk}
use Rattle.gw_core.proofs.HandlingLemmas.{moment-is}
use Rattle.gw_core.proofs.handling.hear.Goals as goal

pub returns-in-Some-clause-meaning : goal.returns-in-Some-clause-meaning
returns-in-Some-clause-meaning c = rw c.in-Some.is c.take.ensures.computes

pub returns-in-Some-clause-next : goal.returns-in-Some-clause-next
returns-in-Some-clause-next c =
    rw c.in-Some.is
    (ap (λ (talk : TalkFacts). Some talk) (simp (to_z-of_z, c.ranges.now) at c.take.ensures.next ∙ ap (next_talk c.in-Some.talk (value_of c.args.message.now)) (moment-is c.args.now c.requires.moment)))

pub returns-in-None-clause-meaning : goal.returns-in-None-clause-meaning
returns-in-None-clause-meaning c = rw c.in-None.is refl

pub returns-in-None-clause-next : goal.returns-in-None-clause-next
returns-in-None-clause-next c = rw c.in-None.is refl
