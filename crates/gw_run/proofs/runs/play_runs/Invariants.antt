-- What the loop of `play_runs` keeps, and why it ends.
use Rattle.std.proofs.Common.{◌≡◌, ◌-◌}
use Rattle.gw_script.specs.site.Powers.{power_failures, power_lines}
use Rattle.sim_site.specs.Sites.{log_of, played_script, sim_observed}
use Rattle.gw_run.specs.PlayedRuns.{HasTalliedFrom}
use Rattle.gw_run.proofs.runs.play_runs.Given as goal

abbrev pub invariant-loop-end : goal.invariant-loop-end
invariant-loop-end l = record {
  run : HasTalliedFrom (sim_observed l.fn.site) l.fn.setup l.end (sim_observed l.site) (log_of l.site);
  origin : (sim_observed l.site).origin ≡ (sim_observed l.fn.site).origin;
}

abbrev pub decreases-loop-end : goal.decreases-loop-end
decreases-loop-end l = power_lines (played_script l.fn.site).lines - power_failures (log_of l.site)
