-- Proof of the contract of `write_config`.
use Rattle.std.proofs.Common.{refl, inl, inr}
use Rattle.gw_run.specs.declared.serving.ServeEnding.TheVariants.{Config}
use Rattle.gw_run.proofs.ServeLemmas.{memory-lines}
use Rattle.gw_run.proofs.serving.write_config.Goals as goal

pub returns-in-Err-write-clause-observed : goal.returns-in-Err-write-clause-observed
returns-in-Err-write-clause-observed g c = λ written e.
    let y = (rw (c.as_slice.ensures, c.in-Ok.ensures) at (c.in-Err-write.ensures.bytes written e)) in
    (y.0, inr (inr (refl, (Config c.args.fault, inl refl, y.1))), y.2)

pub returns-in-Err-clause-observed : goal.returns-in-Err-clause-observed
returns-in-Err-clause-observed g c = λ written e.
    let y = c.write_last_lines.ensures.observed written e in
    (y.0, memory-lines (Config c.args.fault) c.write_last_lines.result y.0 y.1, y.2)
