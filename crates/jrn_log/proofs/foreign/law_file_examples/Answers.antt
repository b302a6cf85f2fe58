-- Proof of the contract of `law_file_examples`.
use Rattle.jrn_log.proofs.ForeignExampleLemmas.{two_are_left, failure_is_journal_log, lost_gate_is_foreign, text_is_foreign}
use Rattle.jrn_log.proofs.foreign.law_file_examples.Goals as goal

pub returns-clause-two : goal.returns-clause-two
returns-clause-two c = two_are_left

pub returns-clause-failure : goal.returns-clause-failure
returns-clause-failure c = failure_is_journal_log

pub returns-clause-lost_gate : goal.returns-clause-lost_gate
returns-clause-lost_gate c = lost_gate_is_foreign

pub returns-clause-text : goal.returns-clause-text
returns-clause-text c = text_is_foreign
