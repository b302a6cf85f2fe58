-- Proof of the contract of `given_to_request`.
use Rattle.std.proofs.Common.{sym, subst}
use Rattle.std.proofs.lemmas.Int.{to_z-of_z}
use Rattle.gw_owes.specs.Core.{Core as CoreValue}
use Rattle.gw_owes.specs.Diagnosis.{named_terminal}
use Rattle.gw_core.specs.ReplyOf.{IsGivenByService}
use Rattle.gw_core.proofs.StepLemmas.{given-payment}
use Rattle.gw_core.proofs.till.given_to_request.Goals as goal

pub returns-in-Payment : goal.returns-in-Payment
returns-in-Payment c = λ known at. rw c.in-Payment.is
    (given-payment known c.args.header c.in-Payment.field-0 c.service.result
    (rw c.in-Payment.is at (subst (λ (core : CoreValue). IsGivenByService known c.args.header c.args.request (named_terminal core c.args.header.poi) c.service.result) (sym at.core_is) (c.service.ensures known (record { slots_is = at.slots_is; line_is = at.line_is; kept_is = at.kept_is; core_is = at.core_is })))))

pub returns-in_default : goal.returns-in_default
returns-in_default c = simp (to_z-of_z, c.ranges.now) at c.asked.ensures
