-- Proof of the contract of `run_again`.
use Rattle.gw_run.proofs.SiteRunLemmas.{ran-again}
use Rattle.gw_run.proofs.runs.run_again.Goals as goal

pub returns-in-Ok-clause-run : goal.returns-in-Ok-clause-run
returns-in-Ok-clause-run c = λ whole most few played. ran-again c.law_openings.ensures.lawful c.args.setup.now whole most c.run_tallied.result c.args.site.now c.restart.new.self c.run_tallied.new.site few played c.in-Ok.ensures.restarted c.run_tallied.ensures.none c.run_tallied.ensures.lawful
