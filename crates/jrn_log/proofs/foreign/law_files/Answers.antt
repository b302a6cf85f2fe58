-- Proof of the contract of `law_files`.
use Rattle.jrn_log.proofs.ForeignLemmas.{beginning_leaves, opening_leaves, opening_closed, append_leaves, append_closed, failed_opening_leaves, failed_append_leaves, crash_leaves, others_leave, file_can, stable_can}
use Rattle.jrn_log.proofs.JournalLogLemmas.{opening_rests, logs_leave, logs_open}
use Rattle.jrn_log.proofs.foreign.law_files.Goals as goal

pub returns-clause-beginning : goal.returns-clause-beginning
returns-clause-beginning c = beginning_leaves

pub returns-clause-opening : goal.returns-clause-opening
returns-clause-opening c = opening_leaves

pub returns-clause-opened : goal.returns-clause-opened
returns-clause-opened c = opening_closed

pub returns-clause-append : goal.returns-clause-append
returns-clause-append c = append_leaves

pub returns-clause-appended : goal.returns-clause-appended
returns-clause-appended c = append_closed

pub returns-clause-failed_opening : goal.returns-clause-failed_opening
returns-clause-failed_opening c = failed_opening_leaves

pub returns-clause-failed_append : goal.returns-clause-failed_append
returns-clause-failed_append c = failed_append_leaves

pub returns-clause-crash : goal.returns-clause-crash
returns-clause-crash c = crash_leaves

pub returns-clause-others : goal.returns-clause-others
returns-clause-others c = others_leave

pub returns-clause-file : goal.returns-clause-file
returns-clause-file c = file_can

pub returns-clause-stable : goal.returns-clause-stable
returns-clause-stable c = stable_can

pub returns-clause-opening_rests : goal.returns-clause-opening_rests
returns-clause-opening_rests c = opening_rests

pub returns-clause-logs : goal.returns-clause-logs
returns-clause-logs c = logs_leave

pub returns-clause-is_open : goal.returns-clause-is_open
returns-clause-is_open c = logs_open
