-- Proof of the contract of `run`.
use Rattle.gw_dispatch.proofs.RunLemmas.{run-weaker}
use Rattle.gw_dispatch.proofs.engine.run.Goals as goal

pub returns-clause-lawful : goal.returns-clause-lawful
returns-clause-lawful g c = run-weaker c.args.setup.now _ _ _ _ _ (λ v by. by.ended_by) c.run_tallied.ensures.lawful
