-- Proof of the contract of `serve_setup`.
use Rattle.gw_run.proofs.ServeLemmas.{reported-cause, reported-played, run-cause, run-printed, run-serves}
use Rattle.gw_run.proofs.serving.serve_setup.Goals as goal

pub returns-clause-headline : goal.returns-clause-headline
returns-clause-headline g c = run-serves c.law_headline.ensures.throughout c.args.setup.now _ _ c.run_ended.result c.write_last_lines.result c.args.most c.run_ended.ensures.lawful c.write_last_lines.ensures.which

pub returns-clause-cause : goal.returns-clause-cause
returns-clause-cause g c = reported-cause c.run_ended.result c.write_last_lines.result c.args.setup.now _ _
    (run-cause c.run_ended.result c.args.setup.now _ _ c.run_ended.ensures.which c.run_ended.ensures.file c.run_ended.ensures.not_opened c.run_ended.ensures.none c.run_ended.ensures.disk c.run_ended.ensures.failed c.run_ended.ensures.memory)
    c.run_ended.ensures.memory c.write_last_lines.ensures.output_failed c.write_last_lines.ensures.which

pub returns-clause-printed : goal.returns-clause-printed
returns-clause-printed g c = λ written e.
    let y = c.write_last_lines.ensures.observed written e in (
      y.0,
      run-printed c.run_ended.result c.write_last_lines.result c.args.setup.now _ _ y.0
          (run-cause c.run_ended.result c.args.setup.now _ _ c.run_ended.ensures.which c.run_ended.ensures.file c.run_ended.ensures.not_opened c.run_ended.ensures.none c.run_ended.ensures.disk c.run_ended.ensures.failed c.run_ended.ensures.memory)
          c.run_ended.ensures.memory y.1,
      y.2,
    )

pub returns-clause-done : goal.returns-clause-done
returns-clause-done g c = λ played. c.run_ended.ensures.done (reported-played c.run_ended.result c.write_last_lines.result c.write_last_lines.ensures.which played)
