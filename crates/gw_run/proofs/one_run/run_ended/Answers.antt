-- Proof of the contract of `run_ended`.
use Rattle.gw_run.proofs.RunEndLemmas.{gives-end, played-done}
use Rattle.gw_run.proofs.ServeLemmas.{run-lacks}
use Rattle.gw_run.proofs.one_run.run_ended.Goals as goal

pub returns-clause-lawful : goal.returns-clause-lawful
returns-clause-lawful g c = gives-end _ _ _ c.run.result c.ending_of.result c.args.most c.ending_of.ensures c.run.ensures.lawful

pub returns-clause-file : goal.returns-clause-file
returns-clause-file g c = λ log e. (c.run.result, c.ending_of.ensures, c.run.ensures.file log e)

pub returns-clause-which : goal.returns-clause-which
returns-clause-which g c = (c.run.result, c.ending_of.ensures)

pub returns-clause-memory : goal.returns-clause-memory
returns-clause-memory g c = λ reports. c.run.ensures.memory (run-lacks c.run.result c.ending_of.result c.ending_of.ensures reports)

pub returns-clause-done : goal.returns-clause-done
returns-clause-done g c = λ played. c.run.ensures.done (played-done c.run.result c.ending_of.result c.ending_of.ensures played)
