-- Proof of the contract of `write_message`.
use Rattle.std.proofs.Common.{codes}
use Rattle.std.specs.Prelude.{map}
use Rattle.sale_reply.specs.Reply.{display_request_body, print_request_body, plain_body, verdict_tree, result_body, status_body, diagnosis_body, display_body, print_body}
use Rattle.sale_reply.proofs.PartLemmas.{and_then, spelled}
use Rattle.sale_reply.proofs.CanonicalLemmas.{message_parts}
use Rattle.sale_reply.proofs.write.write_message.Goals as goal

pub returns-in-DisplayRequest : goal.returns-in-DisplayRequest
returns-in-DisplayRequest c =
    rw c.in-DisplayRequest.is (spelled (and_then c.open_request.ensures (and_then c.write_display_request.ensures c.raw.ensures))
    (message_parts (codes "SaleToPOIRequest") c.in-DisplayRequest.header (codes "Request") (display_request_body c.in-DisplayRequest.code)))

pub returns-in-PrintRequest : goal.returns-in-PrintRequest
returns-in-PrintRequest c =
    rw c.in-PrintRequest.is (spelled (and_then c.open_request-in-PrintRequest.ensures (and_then c.write_print_request.ensures c.raw-in-PrintRequest.ensures))
    (message_parts (codes "SaleToPOIRequest") c.in-PrintRequest.header (codes "Request") (print_request_body (map (λ line. line.now) c.in-PrintRequest.lines.now))))

pub returns-in-Plain : goal.returns-in-Plain
returns-in-Plain c =
    rw c.in-Plain.is (spelled (and_then c.open_response.ensures (and_then c.write_plain.ensures c.raw-in-Plain.ensures))
    (message_parts (codes "SaleToPOIResponse") c.in-Plain.header (codes "Response") (plain_body (verdict_tree c.in-Plain.verdict))))

pub returns-in-Told : goal.returns-in-Told
returns-in-Told c =
    rw c.in-Told.is (spelled (and_then c.open_response-in-Told.ensures (and_then c.write_result_body.ensures c.raw-in-Told.ensures))
    (message_parts (codes "SaleToPOIResponse") c.in-Told.header (codes "Response") (result_body c.in-Told.told)))

pub returns-in-Status : goal.returns-in-Status
returns-in-Status c =
    rw c.in-Status.is (spelled (and_then c.open_response-in-Status.ensures (and_then c.write_status.ensures c.raw-in-Status.ensures))
    (message_parts (codes "SaleToPOIResponse") c.in-Status.header (codes "Response") (status_body c.in-Status.repeated (result_body c.in-Status.told))))

pub returns-in-Diagnosis : goal.returns-in-Diagnosis
returns-in-Diagnosis c =
    rw c.in-Diagnosis.is (spelled (and_then c.open_response-in-Diagnosis.ensures (and_then c.write_diagnosis.ensures c.raw-in-Diagnosis.ensures))
    (message_parts (codes "SaleToPOIResponse") c.in-Diagnosis.header (codes "Response") (diagnosis_body c.in-Diagnosis.status)))

pub returns-in-Display : goal.returns-in-Display
returns-in-Display c =
    rw c.in-Display.is (spelled (and_then c.open_response-in-Display.ensures (and_then (rw c.as_slice.ensures.value at c.write_display.ensures) c.raw-in-Display.ensures))
    (message_parts (codes "SaleToPOIResponse") c.in-Display.header (codes "Response") (display_body c.in-Display.outputs)))

pub returns-in-Print : goal.returns-in-Print
returns-in-Print c =
    rw c.in-Print.is (spelled (and_then c.open_response-in-Print.ensures (and_then c.write_print.ensures c.raw-in-Print.ensures))
    (message_parts (codes "SaleToPOIResponse") c.in-Print.header (codes "Response") (print_body c.in-Print.qualifier c.in-Print.verdict)))
