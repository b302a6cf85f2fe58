-- Proof of the contract of `run_first`.
use Rattle.std.proofs.Common.{[], refl}
use Rattle.gw_run.proofs.RunsLemmas.{has-run, may-run-first}
use Rattle.gw_run.proofs.runs.run_first.Goals as goal

pub returns-clause-run : goal.returns-clause-run
returns-clause-run c = λ whole is.
    has-run c.law_openings.ensures.lawful c.args.setup.now whole c.run_tallied.result _ _ [] _ (may-run-first c.args.setup.now whole _ is) c.requires.unplayed refl
    (λ e. c.run_tallied.ensures.none e [] c.requires.unplayed) c.run_tallied.ensures.lawful
