-- What the loop of `drill_plays` keeps, and why it ends.
use Rattle.std.proofs.Common.{◌≡◌, ◌≤◌, ◌+◌, ◌-◌, ◌++◌}
use Rattle.gw_script.specs.site.Drill.{drill_payments, drill_plays, payments_drawn}
use Rattle.sim_script.proofs.drill.drill_plays.Given as goal

abbrev pub invariant-loop-number : goal.invariant-loop-number
invariant-loop-number l = record {
  within : l.number ≤ l.payments;
  so_far : l.plays.items ++ drill_plays l.pt (payments_drawn (l.payments - l.number) (l.number + 1) l.seed) ≡ drill_plays l.pt (drill_payments l.from l.payments);
}

abbrev pub decreases-loop-number : goal.decreases-loop-number
decreases-loop-number l = l.payments - l.number
