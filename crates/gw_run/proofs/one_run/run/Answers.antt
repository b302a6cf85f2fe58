-- Proof of the contract of `run`.
use Rattle.std.proofs.Common.{◌∙◌, sym}
use Rattle.gw_run.proofs.RunEndLemmas.{gives-status, run-agrees, run-status, status-lacks, zero-played}
use Rattle.gw_run.proofs.one_run.run.Goals as goal

pub returns-clause-lawful : goal.returns-clause-lawful
returns-clause-lawful g c = run-status _ _ _ c.run_ended.result c.status.result c.args.most c.status.ensures c.run_ended.ensures.lawful

pub returns-clause-file : goal.returns-clause-file
returns-clause-file g c = λ log e. gives-status c.run_ended.result c.status.result _ c.status.ensures (c.run_ended.ensures.file log e)

pub returns-clause-agrees : goal.returns-clause-agrees
returns-clause-agrees g c = run-agrees c.law_headline.ensures.throughout _ _ _ _ _ c.run_ended.ensures.lawful

pub returns-clause-memory : goal.returns-clause-memory
returns-clause-memory g c = λ e. c.run_ended.ensures.memory (status-lacks c.run_ended.result c.status.result c.status.ensures e)

pub returns-clause-done : goal.returns-clause-done
returns-clause-done g c = λ zero. c.run_ended.ensures.done (zero-played c.run_ended.result (sym c.status.ensures ∙ zero))
