-- What the loop of `new_terminals` keeps.
use Rattle.std.proofs.Common.{◌≡◌, map, take}
use Rattle.gw_owes.specs.Core.{new_terminal}
use Rattle.gw_core.proofs.terminals.new_terminals.Given as goal

abbrev pub invariant-loop-pt : goal.invariant-loop-pt
invariant-loop-pt l = l.terminals.items ≡ map new_terminal (take l.pt-index l.pt-items)
