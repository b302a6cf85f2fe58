-- What the loop of `Out::parts` keeps.
use Rattle.std.proofs.Common.{take}
use Rattle.std.specs.Prelude.{flat_map}
use Rattle.sale_values.specs.PartBytes.{part_text}
use Rattle.sale_reply.specs.inner.Appends.{Appends}
use Rattle.sale_reply.proofs.buffer.Out.parts.Given as goal

abbrev pub invariant-loop-part : goal.invariant-loop-part
invariant-loop-part l = Appends l.fn.self l.self (flat_map part_text (take l.part-index l.parts))
