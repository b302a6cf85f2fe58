-- What the loop of `slots` keeps.
use Rattle.std.proofs.Common.{◌≡◌, map, take}
use Rattle.gw_ledger.specs.declared.sorted.ShortRow.{ShortRow}
use Rattle.gw_ledger.proofs.sorted.SortedKeys.slots.Given as goal

abbrev pub invariant-loop-row : goal.invariant-loop-row
invariant-loop-row l = l.slots.items ≡ map (λ (row : ShortRow). row.slot) (take l.row-index l.row-items)
