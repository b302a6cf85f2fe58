-- What the loop of `days_served` keeps.
use Rattle.std.proofs.Common.{◌≡◌, ◌+◌, ◌≤◌, drop}
use Rattle.gw_owes.specs.Days.{days_served}
use Rattle.gw_core.proofs.days.days_served.Given as goal

abbrev pub invariant-loop-terminal : goal.invariant-loop-terminal
invariant-loop-terminal l = (l.days + days_served (drop l.terminal-index l.terminals) ≡ days_served l.terminals) × (l.days ≤ l.terminal-index)
