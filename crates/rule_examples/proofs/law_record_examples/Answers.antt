-- Proof of the contract of `law_record_examples`.
use Rattle.rule_examples.proofs.RowExampleLemmas.{gate-in-flight, sync-keeps, start-leaves-flight, failed-sync-crashes, closed-gate-drops, open-gate-keeps}
use Rattle.rule_examples.proofs.law_record_examples.Goals as goal

pub returns-clause-in_flight : goal.returns-clause-in_flight
returns-clause-in_flight c = gate-in-flight

pub returns-clause-kept : goal.returns-clause-kept
returns-clause-kept c = sync-keeps

pub returns-clause-start : goal.returns-clause-start
returns-clause-start c = start-leaves-flight

pub returns-clause-failed_sync : goal.returns-clause-failed_sync
returns-clause-failed_sync c = failed-sync-crashes

pub returns-clause-closed : goal.returns-clause-closed
returns-clause-closed c = closed-gate-drops

pub returns-clause-opened : goal.returns-clause-opened
returns-clause-opened c = open-gate-keeps
