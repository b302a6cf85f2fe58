-- Proof of the contract of `status_frame`.
use Rattle.std.proofs.Common.{◌≡◌, ◌∙◌, IfOk, ap, subst, codes}
use Rattle.gw_script.specs.site.Drill.{drill_header, drill_status_request}
use Rattle.sim_script.specs.Drawn.{payment_value}
use Rattle.sim_script.proofs.DrillLemmas.{same_frame, same_most}
use Rattle.sim_script.proofs.DrillSizeLemmas.{status_size}
use Rattle.sim_script.proofs.drill_lines.status_frame.Goals as goal

pub framed-requires-clause-most : goal.framed-requires-clause-most
framed-requires-clause-most c =
    let payment = payment_value c.args.payment.now in
    let header = c.header_for-header.ensures ∙ ap (λ category. drill_header category payment) c.known.ensures in
    same_most c.header_for-header.result (drill_header (codes "TransactionStatus") payment) c.status_request.result (drill_status_request payment) header c.status_request.ensures (status_size payment c.requires.last)

pub returns : goal.returns
returns c =
    let payment = payment_value c.args.payment.now in
    let header = c.header_for-header.ensures ∙ ap (λ category. drill_header category payment) c.known.ensures in
    subst (λ bytes. IfOk c.framed.result (λ chunk. chunk.bytes ≡ bytes)) (same_frame c.header_for-header.result (drill_header (codes "TransactionStatus") payment) c.status_request.result (drill_status_request payment) header c.status_request.ensures) c.framed.ensures
