-- Proof of the contract of `replay`.
use Rattle.std.proofs.Common.{ap}
use Rattle.std.specs.Prelude.{Err}
use Rattle.gw_run.proofs.ReplayLemmas.{fault-after, fault-printed, input-cause, input-complete, input-fault, observed-cause, replay-after, text-cause, text-complete, text-printed}
use Rattle.gw_run.proofs.program.replay.Goals as goal

pub returns-in-Ok-clause-printed : goal.returns-in-Ok-clause-printed
returns-in-Ok-clause-printed g c = λ written e.
    let y = c.play_text.ensures.printed written e in (
      y.0,
      (λ words acc. text-printed c.play_text.result words _ _ _ y.0 acc (λ all e. let x = c.in-Ok.ensures.bytes all e in (x.1, x.0)) y.1),
      y.2,
    )

pub returns-in-Ok-clause-cause : goal.returns-in-Ok-clause-cause
returns-in-Ok-clause-cause g c = λ words acc. text-cause c.play_text.result words _ _ _ acc (λ all e. let x = c.in-Ok.ensures.bytes all e in (x.1, x.0)) c.play_text.ensures.output_failed c.play_text.ensures.end

pub returns-in-Ok-clause-complete : goal.returns-in-Ok-clause-complete
returns-in-Ok-clause-complete g c = λ script calm written. text-complete c.play_text.result _ _ script (λ all e. (c.in-Ok.ensures.bytes all e).0) c.play_text.ensures.end

pub returns-in-Err-clause-printed : goal.returns-in-Err-clause-printed
returns-in-Err-clause-printed g c = λ written e.
    let y = c.write_last_lines.ensures.observed written e in (
      y.0,
      (λ words acc. fault-printed _ c.in-Err.fault c.write_last_lines.result _ y.0 (input-fault c.in-Err.fault c.in-Err.ensures.fault) tt
          (input-cause c.in-Err.fault words _ _ acc c.in-Err.ensures.fault (λ e. c.in-Err.ensures.failed (ap Err e)) c.in-Err.ensures.bytes) y.1),
      y.2,
    )

pub returns-in-Err-clause-cause : goal.returns-in-Err-clause-cause
returns-in-Err-clause-cause g c = λ words acc. observed-cause c.in-Err.fault c.write_last_lines.result words _ _
    (input-cause c.in-Err.fault words _ _ acc c.in-Err.ensures.fault (λ e. c.in-Err.ensures.failed (ap Err e)) c.in-Err.ensures.bytes)
    c.write_last_lines.ensures.output_failed c.write_last_lines.ensures.which

pub returns-in-Err-clause-complete : goal.returns-in-Err-clause-complete
returns-in-Err-clause-complete g c = λ script calm written. input-complete c.in-Err.fault c.write_last_lines.result _ _ _ c.in-Err.ensures.fault (λ e. c.in-Err.ensures.failed (ap Err e)) c.in-Err.ensures.bytes script calm c.write_last_lines.ensures.which

pub returns-in-Ok-clause-log : goal.returns-in-Ok-clause-log
returns-in-Ok-clause-log g c = λ text log left is calm written. replay-after c.play_text.result text c.in-Ok.text.items log _ (c.in-Ok.ensures.bytes text left).0 is c.play_text.ensures.output_failed written c.play_text.ensures.end

pub returns-in-Err-clause-log : goal.returns-in-Err-clause-log
returns-in-Err-clause-log g c = λ text log left is calm written. fault-after c.in-Err.fault c.write_last_lines.result _ text log _ _ _ c.in-Err.ensures.fault (λ e. c.in-Err.ensures.failed (ap Err e)) c.in-Err.ensures.bytes left is calm c.write_last_lines.ensures.which c.write_last_lines.ensures.output_failed written
