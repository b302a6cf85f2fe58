-- Proof of the contract of `asked`.
use Rattle.std.proofs.Common.{◌≡◌, ◌⊎◌, inl, inr, ap, sym, subst}
use Rattle.std.specs.Prelude.{true}
use Rattle.std.proofs.lemmas.Int.{to_z-of_z}
use Rattle.sale_values.specs.declared.request.SaleRequest.{SaleRequest}
use Rattle.sale_values.specs.declared.names.Period.{Period}
use Rattle.sale_values.specs.declared.request.PaymentAsk.{PaymentAsk}
use Rattle.sale_values.specs.declared.request.ReversalAsk.{ReversalAsk}
use Rattle.sale_values.specs.declared.request.SaleRequest.TheVariants.{Login, Logout, Payment, Reversal, Reconciliation}
use Rattle.gw_owes.specs.Core.{Core as CoreValue}
use Rattle.gw_owes.specs.Diagnosis.{named_terminal}
use Rattle.gw_owes.specs.Sessions.{is_session}
use Rattle.gw_owes.specs.ReadAs.{Request}
use Rattle.gw_owes.specs.Row.{Known}
use Rattle.gw_core.specs.ReplyOf.{IsGivenByService, IsGivenFor, IsGivenToSession}
use Rattle.gw_core.proofs.DisplayLemmas.{given-display}
use Rattle.gw_core.proofs.SessionLemmas.{given-session}
use Rattle.gw_core.proofs.StepLemmas.{given-payment, given-reconciliation, given-reversal}
use Rattle.gw_core.proofs.till.asked.Goals as goal

pub returns-in-Login : goal.returns-in-Login
returns-in-Login c = λ known at. given-session known c.args.header c.args.request c.session.result (by_pattern c.args.request c.in-Login.is)
    (subst (λ (core : CoreValue). IsGivenToSession known c.args.header c.args.request (named_terminal core c.args.header.poi) c.session.result) (sym at.core_is) (c.session.ensures known at.core_is))
  where
    by_pattern : (request : SaleRequest) → (request ≡ Login) ⊎ (request ≡ Logout) → is_session request ≡ true
    by_pattern request (inl is) = ap is_session is
    by_pattern request (inr is) = ap is_session is

pub returns-in-Payment : goal.returns-in-Payment
returns-in-Payment c = λ known at. by_pattern known c.args.request c.in-Payment.is
    (subst (λ (core : CoreValue). IsGivenByService known c.args.header c.args.request (named_terminal core c.args.header.poi) c.service.result) (sym at.core_is) (c.service.ensures known (record { slots_is = at.slots_is; line_is = at.line_is; kept_is = at.kept_is; core_is = at.core_is })))
  where
    by_pattern : (known : Known) (request : SaleRequest) → ((ask : PaymentAsk) × (request ≡ Payment ask)) ⊎ (((ask : ReversalAsk) × (request ≡ Reversal ask)) ⊎ ((period : Period) × (request ≡ Reconciliation period)))
        → IsGivenByService known c.args.header request (named_terminal known.core c.args.header.poi) c.service.result → IsGivenFor known (Request c.args.header request) c.service.result
    by_pattern known request (inl (ask, is)) has = rw is (given-payment known c.args.header ask c.service.result (rw is at has))
    by_pattern known request (inr (inl (ask, is))) has = rw is (given-reversal known c.args.header ask c.service.result (rw is at has))
    by_pattern known request (inr (inr (period, is))) has = rw is (given-reconciliation known c.args.header period c.service.result (rw is at has))

pub returns-in-Abort : goal.returns-in-Abort
returns-in-Abort c = λ known at.
    rw c.in-Abort.is (c.given_to_abort.ensures known at.kept_is at.core_is (rw (to_z-of_z, c.ranges.now) at.moment_is))

pub returns-in-Display : goal.returns-in-Display
returns-in-Display c = λ known at. rw c.in-Display.is
    (given-display known c.args.core.now c.args.header c.in-Display.outputs c.display.result at.core_is (c.display.ensures known at.core_is))
