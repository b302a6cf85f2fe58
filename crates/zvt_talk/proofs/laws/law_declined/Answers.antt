-- Proof of the contract of `law_declined`.
use Rattle.std.proofs.Common.{inl, inr}
use Rattle.zvt_talk.proofs.StatusLemmas.{nothing_said}
use Rattle.zvt_talk.proofs.laws.law_declined.Goals as goal

pub returns-clause-transaction : goal.returns-clause-transaction
returns-clause-transaction c = λ dialogue came message result_code trace dialogue_kind.
    let law = c.law_transaction_declined.ensures dialogue came message result_code trace dialogue_kind in (
      λ is. let refused = law.0 is in
          elim refused.1 [
            | inl once ↦ (nothing_said came once.asked, (refused.0, inl once))
            | inr later ↦ (later.1, (refused.0, inr later.0))
          ],
      λ refused. law.1 (refused.1.0, elim refused.1.1 [ inl once ↦ inl once | inr later ↦ inr (later, refused.0) ]),
    )
