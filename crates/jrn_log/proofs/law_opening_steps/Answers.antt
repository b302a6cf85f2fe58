-- Proof of the contract of `law_opening_steps`.
use Rattle.jrn_log.proofs.StepExampleLemmas.{no_file_is_opened, file_is_read, long_file_is_not_read, length_fails, sync_comes_first}
use Rattle.jrn_log.proofs.law_opening_steps.Goals as goal

pub returns-clause-no_file : goal.returns-clause-no_file
returns-clause-no_file c = no_file_is_opened

pub returns-clause-read : goal.returns-clause-read
returns-clause-read c = file_is_read

pub returns-clause-long : goal.returns-clause-long
returns-clause-long c = long_file_is_not_read

pub returns-clause-fails : goal.returns-clause-fails
returns-clause-fails c = length_fails

pub returns-clause-sync_first : goal.returns-clause-sync_first
returns-clause-sync_first c = sync_comes_first
