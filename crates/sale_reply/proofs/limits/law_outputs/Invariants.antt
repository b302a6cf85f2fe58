-- What the loop of `law_outputs` keeps.
use Rattle.std.proofs.Common.{take}
use Rattle.std.specs.Prelude.{All}
use Rattle.sale_reply.specs.Limits.{IsShownWithinLimits}
use Rattle.sale_reply.proofs.limits.law_outputs.Given as goal

abbrev pub invariant-loop-shown : goal.invariant-loop-shown
invariant-loop-shown l = All IsShownWithinLimits (take l.shown-index l.outputs)
