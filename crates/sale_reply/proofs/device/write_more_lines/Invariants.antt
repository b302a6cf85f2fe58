-- What the loop of `write_more_lines` keeps.
use Rattle.std.proofs.Common.{take}
use Rattle.sale_reply.specs.inner.Appends.{Appends}
use Rattle.sale_reply.specs.inner.CanonicalMembers.{more_lines}
use Rattle.sale_reply.proofs.device.write_more_lines.Given as goal

abbrev pub invariant-loop-line : goal.invariant-loop-line
invariant-loop-line l = Appends l.fn.out l.out (more_lines (take l.line-index l.lines))
