-- What the loop of `forget_counted` keeps.
use Rattle.std.proofs.Common.{◌≡◌, ◌++◌, map, take, drop}
use Rattle.gw_owes.specs.Terminals.{forgets_till}
use Rattle.gw_core.proofs.terminals.Core.forget_counted.Given as goal

abbrev pub invariant-loop-terminal : goal.invariant-loop-terminal
invariant-loop-terminal g l = l.terminal-items ≡ map (forgets_till l.till) (take l.terminal-index l.initial.terminal-items) ++ drop l.terminal-index l.initial.terminal-items
