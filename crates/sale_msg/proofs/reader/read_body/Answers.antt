-- Proof of the contract of `read_body`.
use Rattle.std.proofs.Common.{◌∙◌}
use Rattle.json_text.specs.ValueOf.{value_of}
use Rattle.sale_msg.proofs.MessageLemmas.{flawed, request_is}
use Rattle.sale_msg.proofs.reader.read_body.Goals as goal

pub returns-in-Err : goal.returns-in-Err
returns-in-Err c =
    λ message r. rw c.fault.ensures
    (flawed message (value_of c.args.body.now) c.args.header.now c.in-Some.category c.in-Err.flaw r
    (c.in-Some.ensures ∙ c.as_bytes.ensures.value) c.in-Err.ensures)

pub returns-in-Ok-request : goal.returns-in-Ok-request
returns-in-Ok-request c =
    let body = value_of c.args.body.now in
    let asked = c.in-Ok-request.ensures body c.in-Ok.ensures in
    λ message r. request_is message body c.args.header.now c.in-Some.category _ c.in-Ok-request.request r
    (c.in-Some.ensures ∙ c.as_bytes.ensures.value) c.in-Ok.ensures asked.0 asked.1
