-- Proof of the contract of `end_with`.
use Rattle.std.proofs.Common.{refl, inl}
use Rattle.gw_run.specs.Top.{tail_of}
use Rattle.gw_run.proofs.last_lines.end_with.Goals as goal

pub returns-in-Ok-clause-observed : goal.returns-in-Ok-clause-observed
returns-in-Ok-clause-observed g c = λ written e. (tail_of c.args.ending, inl (refl, refl), (rw (c.as_bytes.ensures.value, c.requires) at (c.in-Ok.ensures.bytes written e)))
