-- What the loop of `customer_output` keeps.
use Rattle.std.proofs.Common.{◌≡◌, take, None}
use Rattle.xlate.specs.Display.{customer_output}
use Rattle.xlate.proofs.display.customer_output.Given as goal

-- none so far
abbrev pub invariant-loop-output : goal.invariant-loop-output
invariant-loop-output l = customer_output (take l.output-index l.outputs) ≡ None
