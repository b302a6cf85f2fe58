-- Proof of the contract of `play_text`.
use Rattle.std.proofs.Common.{ap}
use Rattle.gw_site.specs.Observed.{Observed}
use Rattle.gw_script.specs.site.StepTurns.{site_turns}
use Rattle.sim_site.specs.Sites.{played_script}
use Rattle.gw_run.proofs.ReplayLemmas.{play-end, play-printed, text-fault-end, text-fault-printed}
use Rattle.gw_run.proofs.RunsLemmas.{script-fails}
use Rattle.gw_run.proofs.program.play_text.Goals as goal

pub play-ending-requires : goal.play-ending-requires
play-ending-requires g c = record {
  log_is = ap (λ (o : Observed). o.log) c.in-Ok.ensures.fresh;
  whole = site_turns (played_script c.in-Ok.site).lines;
  plan_is = ap (λ (o : Observed). o.plan) c.in-Ok.ensures.fresh;
  few = script-fails (played_script c.in-Ok.site).lines;
}

pub returns-in-Ok-clause-printed : goal.returns-in-Ok-clause-printed
returns-in-Ok-clause-printed g c = λ written e.
    let y = c.play-ending.ensures.printed c.args.text.items c.in-Ok.ensures.script c.in-Ok.ensures.fresh written e in
    (y.0, play-printed c.args.text.items c.play-ending.result y.0 (c.requires.within, (_, c.in-Ok.ensures.script)) y.1, y.2)

pub returns-in-Ok-clause-end : goal.returns-in-Ok-clause-end
returns-in-Ok-clause-end g c = play-end c.args.text.items c.play-ending.result (c.requires.within, (_, c.in-Ok.ensures.script)) (c.play-ending.ensures.end c.args.text.items c.in-Ok.ensures.script c.in-Ok.ensures.fresh)

pub returns-in-Err-clause-printed : goal.returns-in-Err-clause-printed
returns-in-Err-clause-printed g c = λ written e.
    let y = c.write_last_lines.ensures.observed written e in
    (y.0, text-fault-printed c.args.text.items c.in-Err.fault c.write_last_lines.result y.0 c.in-Err.ensures.fault y.1, y.2)

pub returns-in-Err-clause-end : goal.returns-in-Err-clause-end
returns-in-Err-clause-end g c = text-fault-end c.args.text.items c.in-Err.fault c.write_last_lines.result c.in-Err.ensures.fault c.write_last_lines.ensures.which
