-- Proof of the contract of `law_cut_causes`.
use Rattle.gw_rules.proofs.CutCauseLemmas.{each-pt-cut-has-cause, failed-send-cuts}
use Rattle.gw_rules.proofs.law_cut_causes.Goals as goal

pub returns-clause-causes : goal.returns-clause-causes
returns-clause-causes c = each-pt-cut-has-cause

pub returns-clause-failed_send : goal.returns-clause-failed_send
returns-clause-failed_send c = failed-send-cuts
