-- Proof of the contract of `drill`.
use Rattle.gw_run.proofs.DrillLemmas.{counts-printed, drill-cause, refused-cause, refused-printed}
use Rattle.gw_run.proofs.drill.drill.Goals as goal

pub returns-in-Ok-clause-cause : goal.returns-in-Ok-clause-cause
returns-in-Ok-clause-cause g c = drill-cause c.args.from c.args.payments c.in-Ok.counts c.write_counts.result _ c.in-Ok.ensures.counted c.write_counts.ensures.which c.write_counts.ensures.output_failed

pub returns-in-Ok-clause-printed : goal.returns-in-Ok-clause-printed
returns-in-Ok-clause-printed g c = λ written e. let y = c.write_counts.ensures.observed written e in (y.0, counts-printed c.args.from c.args.payments c.in-Ok.counts c.write_counts.result y.0 c.in-Ok.ensures.counted y.1, y.2)

pub returns-in-Err-clause-cause : goal.returns-in-Err-clause-cause
returns-in-Err-clause-cause g c = refused-cause c.args.from c.args.payments c.in-Err.ending c.write_last_lines.result _ c.in-Err.ensures.refused c.write_last_lines.ensures.which c.write_last_lines.ensures.output_failed

pub returns-in-Err-clause-printed : goal.returns-in-Err-clause-printed
returns-in-Err-clause-printed g c = λ written e. let y = c.write_last_lines.ensures.observed written e in (y.0, refused-printed c.args.from c.args.payments c.in-Err.ending c.write_last_lines.result y.0 c.in-Err.ensures.refused y.1, y.2)
