-- What the loop of `write_more_outputs` keeps.
use Rattle.std.proofs.Common.{take}
use Rattle.sale_reply.specs.inner.Appends.{Appends}
use Rattle.sale_reply.specs.inner.CanonicalMembers.{more_outputs}
use Rattle.sale_reply.proofs.device.write_more_outputs.Given as goal

abbrev pub invariant-loop-shown : goal.invariant-loop-shown
invariant-loop-shown l = Appends l.fn.out l.out (more_outputs (take l.shown-index l.outputs))
