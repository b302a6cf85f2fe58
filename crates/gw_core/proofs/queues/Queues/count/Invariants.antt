-- What the loop of `count` keeps.
use Rattle.std.proofs.Common.{◌≡◌, length}
use Rattle.gw_core.proofs.QueueLemmas.{at_terminals_below}
use Rattle.gw_core.proofs.queues.Queues.count.Given as goal

abbrev pub invariant-loop-terminal : goal.invariant-loop-terminal
invariant-loop-terminal l = l.count ≡ length (at_terminals_below l.terminal l.self-inside.lines)
