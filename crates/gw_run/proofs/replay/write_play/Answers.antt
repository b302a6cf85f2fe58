-- Proof of the contract of `write_play`.
use Rattle.std.proofs.Common.{◌++◌, ◌∙◌, ap, append_assoc}
use Rattle.std.specs.Prelude.{Some}
use Rattle.gw_run.specs.declared.ending.Ending.TheVariants.{Memory}
use Rattle.gw_run.proofs.PlayedLemmas.{log-printed, log-unprinted, memory-end, part-prefix, written-end}
use Rattle.gw_run.proofs.replay.write_play.Goals as goal

pub returns-in-Ok-clause-printed : goal.returns-in-Ok-clause-printed
returns-in-Ok-clause-printed g c = λ script p written e.
    let x = c.in-Ok.ensures.written written e in
    let y = c.write_last_lines.ensures.observed (written ++ x.0) x.2 in
    (x.0 ++ y.0, log-printed c.law_headline.ensures.throughout script c.args.ending c.write_last_lines.result c.args.log.now x.0 y.0 p x.1 y.1, y.2 ∙ ap Some (append_assoc written x.0 y.0))

pub returns-in-Ok-clause-which : goal.returns-in-Ok-clause-which
returns-in-Ok-clause-which g c = written-end c.args.ending c.write_last_lines.result c.write_last_lines.ensures.which

pub returns-in-Err-Memory-clause-printed : goal.returns-in-Err-Memory-clause-printed
returns-in-Err-Memory-clause-printed g c = λ script p written e.
    let x = rw c.in-Err-Memory.field-0-is at (c.in-Err-Memory.ensures.written written e) in
    let y = c.write_last_lines-in-Err-Memory.ensures.observed (written ++ x.0) x.2 in
    (x.0 ++ y.0, log-printed c.law_headline.ensures.throughout script Memory c.write_last_lines-in-Err-Memory.result x.1.0 x.0 y.0 (part-prefix script c.args.ending x.1.0 c.args.log.now x.1.1 p) x.1.2 y.1, y.2 ∙ ap Some (append_assoc written x.0 y.0))

pub returns-in-Err-Memory-clause-which : goal.returns-in-Err-Memory-clause-which
returns-in-Err-Memory-clause-which g c = memory-end c.args.ending c.write_last_lines-in-Err-Memory.result c.write_last_lines-in-Err-Memory.ensures.which

pub returns-in-Err-Sink-clause-printed : goal.returns-in-Err-Sink-clause-printed
returns-in-Err-Sink-clause-printed g c = λ script p written e.
    let x = rw c.in-Err-Sink.field-0-is at (c.in-Err-Sink.ensures.written written e) in
    (x.0, log-unprinted c.law_headline.ensures.throughout script c.args.ending c.args.log.now x.0 p x.1, x.2)
