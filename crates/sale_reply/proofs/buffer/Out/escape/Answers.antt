-- Proof of the contract of `Out::escape`.
use Rattle.std.proofs.Common.{◌+◌, arith}
use Rattle.std.proofs.lemmas.List.{take_rest}
use Rattle.json_text.specs.Canonical.{canonical_byte}
use Rattle.sale_reply.proofs.StretchLemmas.{stretch_appends, byte_appends, past_appends}
use Rattle.sale_reply.proofs.buffer.Out.escape.Goals.{then-end-text, else-end-text}
use Rattle.sale_reply.proofs.buffer.Out.escape.Goals as goal

pub loop-start-preserved : goal.loop-start-preserved
loop-start-preserved c =
    let text = c.args.text.now in
    let end = c.loop-start.start + c.plain_len.result in
    let plain = rw (take_rest text c.loop-start.start) at c.plain_len.ensures.plain in
    let stretch = stretch_appends canonical_byte text c.loop-start.start c.plain_len.result plain c.loop-start.invariant c.raw.ensures in
    elim c.if-end-text.branch [
      | then-end-text w ↦ rw w.self-is (byte_appends canonical_byte text end w.if-end-text.true stretch w.byte.ensures)
      | else-end-text w ↦ rw w.self-is (past_appends canonical_byte text end (omega (arith, w.if-end-text.false)) stretch)
    ]
