-- Proof of the contract of `play_runs`.
use Rattle.std.proofs.Common.{◌∙◌}
use Rattle.gw_script.specs.site.Powers.{power_lines}
use Rattle.sim_site.specs.Sites.{log_of, played_script, sim_observed}
use Rattle.gw_run.proofs.SiteRunLemmas.{run-again-from, run-refused, run-given}
use Rattle.gw_run.proofs.runs.play_runs.Goals as goal

pub run_first-end-requires-clause-unplayed : goal.run_first-end-requires-clause-unplayed
run_first-end-requires-clause-unplayed c = c.requires.unplayed.log_is

pub loop-end-init : goal.loop-end-init
loop-end-init c = record { run = c.run_first-end.ensures.run; origin = c.run_first-end.ensures.origin }

pub loop-end-smaller : goal.loop-end-smaller
loop-end-smaller c =
    let whole = c.requires.unplayed.whole in
    (c.in-Ok.ensures.run whole (power_lines (played_script c.args.site.now).lines) c.requires.unplayed.few (c.loop-end.invariant.run whole c.requires.unplayed.plan_is).run.played).fewer

pub loop-end-preserved : goal.loop-end-preserved
loop-end-preserved c = record {
  run = run-again-from c.args.setup.now (played_script c.args.site.now).lines (sim_observed c.args.site.now) (sim_observed c.loop-end.site) (sim_observed c.run_again.new.site) c.loop-end.end c.in-Ok.last (log_of c.loop-end.site) (log_of c.run_again.new.site) c.requires.unplayed c.loop-end.invariant.run c.in-Ok.ensures.run;
  origin = c.run_again.ensures.origin ∙ c.loop-end.invariant.origin;
}

pub returns-in-Err-clause-run : goal.returns-in-Err-clause-run
returns-in-Err-clause-run c = run-refused c.args.setup.now (sim_observed c.args.site.now) c.loop-end.end c.untallied.result c.loop-end.site c.run_again.new.site c.untallied.ensures c.in-Err.ensures.refused c.loop-end.invariant.run

pub returns-clause-run : goal.returns-clause-run
returns-clause-run c = run-given c.args.setup.now (sim_observed c.args.site.now) c.loop-end.end c.end_of.result c.loop-end.site c.end_of.ensures.which c.loop-end.invariant.run
