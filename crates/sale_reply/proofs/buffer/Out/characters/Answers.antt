-- Proof of the contract of `Out::characters`.
use Rattle.std.proofs.Common.{◌+◌, arith}
use Rattle.std.proofs.lemmas.List.{take_rest}
use Rattle.sale_reply.specs.inner.ShownByte.{shown_byte}
use Rattle.sale_reply.proofs.StretchLemmas.{stretch_appends, byte_appends, past_appends}
use Rattle.sale_reply.proofs.buffer.Out.characters.Goals.{then-end-line, else-end-line}
use Rattle.sale_reply.proofs.buffer.Out.characters.Goals as goal

pub loop-start-preserved : goal.loop-start-preserved
loop-start-preserved c =
    let line = c.args.line.now in
    let end = c.loop-start.start + c.ascii_len.result in
    let plain = rw (take_rest line c.loop-start.start) at c.ascii_len.ensures.plain in
    let stretch = stretch_appends shown_byte line c.loop-start.start c.ascii_len.result plain c.loop-start.invariant c.raw.ensures in
    elim c.if-end-line.branch [
      | then-end-line w ↦ rw w.self-is (byte_appends shown_byte line end w.if-end-line.true stretch (rw w.char_of_437.ensures at w.character.ensures))
      | else-end-line w ↦ rw w.self-is (past_appends shown_byte line end (omega (arith, w.if-end-line.false)) stretch)
    ]
