-- What the loop of `Out::characters` keeps, and why it ends.
use Rattle.std.proofs.Common.{◌-◌, length, take}
use Rattle.std.specs.Prelude.{flat_map}
use Rattle.sale_reply.specs.inner.Appends.{Appends}
use Rattle.sale_reply.specs.inner.ShownByte.{shown_byte}
use Rattle.sale_reply.proofs.buffer.Out.characters.Given as goal

-- the bytes up to an index were appended
abbrev pub invariant-loop-start : goal.invariant-loop-start
invariant-loop-start l = Appends l.fn.self l.self (flat_map shown_byte (take l.start l.line))

abbrev pub decreases-loop-start : goal.decreases-loop-start
decreases-loop-start l = length l.line - l.start
