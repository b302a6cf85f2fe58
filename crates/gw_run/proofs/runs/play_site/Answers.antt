-- Proof of the contract of `play_site`.
use Rattle.std.proofs.Common.{refl}
use Rattle.gw_run.proofs.SiteRunLemmas.{nothing-run}
use Rattle.gw_run.proofs.runs.play_site.Goals as goal

pub returns-in-Ok-clause-run : goal.returns-in-Ok-clause-run
returns-in-Ok-clause-run c = rw c.in-Ok.ensures.given at c.play_runs.ensures.run

pub returns-in-Err-clause-run : goal.returns-in-Err-clause-run
returns-in-Err-clause-run c = nothing-run _ _ _ _ c.requires.log_is c.untallied.ensures refl
