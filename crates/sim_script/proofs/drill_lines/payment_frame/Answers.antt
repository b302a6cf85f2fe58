-- Proof of the contract of `payment_frame`.
use Rattle.std.proofs.Common.{◌≡◌, ◌∙◌, IfOk, ap, subst, codes}
use Rattle.sale_frame.specs.Grammar.{frame}
use Rattle.gw_script.specs.site.Drill.{drill_header, drill_payment_request}
use Rattle.sim_script.specs.Drawn.{payment_value}
use Rattle.sim_script.proofs.DrillLemmas.{same_frame, same_most}
use Rattle.sim_script.proofs.DrillSizeLemmas.{payment_size}
use Rattle.sim_script.proofs.drill_lines.payment_frame.Goals as goal

pub framed-requires-clause-most : goal.framed-requires-clause-most
framed-requires-clause-most c =
    let payment = payment_value c.args.payment.now in
    let header = c.header_for-header.ensures ∙ ap (λ category. drill_header category payment) c.known.ensures in
    same_most c.header_for-header.result (drill_header (codes "Payment") payment) c.payment_request.result (drill_payment_request payment) header c.payment_request.ensures (payment_size payment c.requires.last c.requires.amount)

pub returns : goal.returns
returns c =
    let payment = payment_value c.args.payment.now in
    let header = c.header_for-header.ensures ∙ ap (λ category. drill_header category payment) c.known.ensures in
    subst (λ bytes. IfOk c.framed.result (λ chunk. chunk.bytes ≡ bytes)) (same_frame c.header_for-header.result (drill_header (codes "Payment") payment) c.payment_request.result (drill_payment_request payment) header c.payment_request.ensures) c.framed.ensures
