-- What the loop of `early_hazard` keeps, and why it ends.
use Rattle.std.proofs.Common.{◌≡◌, ◌≤◌, ◌-◌, length, drop}
use Rattle.gw_script.specs.site.Hazards.{no_hazard}
use Rattle.gw_script.specs.site.Playing.{early_hazard}
use Rattle.sim_script.specs.Values.{lines_value}
use Rattle.sim_site.specs.Hazards.{hazard_value}
use Rattle.sim_site.proofs.sought.early_hazard.Given as goal

abbrev pub invariant-loop-at : goal.invariant-loop-at
invariant-loop-at l = record {
  within : l.at ≤ length l.lines;
  same : early_hazard no_hazard (lines_value l.lines) ≡ early_hazard (hazard_value l.hazard) (lines_value (drop l.at l.lines));
}

abbrev pub decreases-loop-at : goal.decreases-loop-at
decreases-loop-at l = length l.lines - l.at
