-- What the loop of `refused_outputs` keeps.
use Rattle.std.proofs.Common.{◌≡◌, map, take}
use Rattle.gw_owes.specs.Replies.{output_refused}
use Rattle.gw_core.proofs.refusal.refused_outputs.Given as goal

abbrev pub invariant-loop-output : goal.invariant-loop-output
invariant-loop-output l = l.shown.items ≡ map (output_refused l.condition) (take l.output-index l.outputs)
