-- Proof of the contract of `framed_payload`.
use Rattle.std.proofs.Common.{Ok, subst}
use Rattle.sale_frame.specs.Steps.{ReadsFrame}
use Rattle.sale_frame.proofs.DecodeLemmas.{no_payload, no_whole_frame, whole_payload}
use Rattle.sale_frame.proofs.reader.framed_payload.Goals as goal

pub returns : goal.returns
returns c =
    let begins = subst (λ found. ReadsFrame c.args.bytes.now (Ok found)) c.in-Ok-Some.field-0-is c.in-Ok-Some.ensures in
    record { payload = whole_payload c.args.bytes.now c.in-Ok-Some.payload.now begins c.if-payload-bytes.false }

pub returns-then-payload-bytes : goal.returns-then-payload-bytes
returns-then-payload-bytes c =
    let begins = subst (λ found. ReadsFrame c.args.bytes.now (Ok found)) c.in-Ok-Some.field-0-is c.in-Ok-Some.ensures in
    record { payload = no_payload c.args.bytes.now (no_whole_frame c.args.bytes.now c.in-Ok-Some.payload.now begins c.if-payload-bytes.true) }
