-- What the loop of `drill_lines` keeps, and why it ends.
use Rattle.std.proofs.Common.{◌≡◌, ◌≤◌, ◌+◌, ◌-◌, ◌++◌}
use Rattle.gw_script.specs.site.Drill.{drill_lines, drill_payments, payments_drawn}
use Rattle.sim_script.specs.Values.{lines_value}
use Rattle.sim_script.proofs.drill.drill_lines.Given as goal

abbrev pub invariant-loop-number : goal.invariant-loop-number
invariant-loop-number l = record {
  within : l.number ≤ l.payments;
  so_far : lines_value l.lines.items ++ drill_lines (payments_drawn (l.payments - l.number) (l.number + 1) l.seed) ≡ drill_lines (drill_payments l.from l.payments);
}

abbrev pub decreases-loop-number : goal.decreases-loop-number
decreases-loop-number l = l.payments - l.number
