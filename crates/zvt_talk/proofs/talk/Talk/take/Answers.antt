-- Proof of the contract of `Talk::take`.
use Rattle.std.proofs.Common.{◌≡◌, ◌∙◌, ap, not, of_z, subst, sym, to_z, true, w64}
use Rattle.std.proofs.lemmas.Int.{to_z-of_z}
use Rattle.zvt_msg.specs.Message.{value_of}
use Rattle.zvt_talk.specs.Talk.{talk_goes_on, is_end}
use Rattle.zvt_talk.specs.TalkSteps.{next_talk}
use Rattle.zvt_talk.proofs.StepLemmas.{after_message}
use Rattle.zvt_talk.proofs.EndLemmas.{talk_ends}
use Rattle.zvt_talk.proofs.talk.Talk.take.Goals as goal

pub returns-clause-added : goal.returns-clause-added
returns-clause-added c = λ dialogue came is.
    let message = value_of c.args.message.now in
    c.keep.ensures ∙ ap (λ now. next_talk c.args.self.now message now) (to_z-of_z w64 c.args.now c.ranges.now)
    ∙ ap (λ talk. next_talk talk message c.args.now) is
    ∙ sym (after_message dialogue came message c.args.now (subst (λ talk. talk_goes_on talk ≡ true) is c.requires.goes_on))

pub returns-clause-ends : goal.returns-clause-ends
returns-clause-ends c =
    let message = value_of c.args.message.now in
    ap talk_goes_on c.keep.ensures ∙ talk_ends c.args.self.now message (to_z w64 (of_z w64 c.args.now)) c.requires.goes_on
    ∙ ap (λ heard. not (is_end heard)) (sym c.heard-heard.ensures)
