-- Proof of the contract of `law_run_examples`.
use Rattle.rule_examples.proofs.ExampleLemmas.{restarted-lawful, crashed-lawful, looks-may-fail, refused-not-polled, disk-failure-ends, no-run-where-not-opened}
use Rattle.rule_examples.proofs.UnlawfulLemmas.{crash-leaves-no-other, nothing-to-look-at, nothing-to-look-at-later, poll-ends-looking, gate-ends-looking}
use Rattle.rule_examples.proofs.law_run_examples.Goals as goal

pub returns-clause-restarted : goal.returns-clause-restarted
returns-clause-restarted c = restarted-lawful

pub returns-clause-crashed : goal.returns-clause-crashed
returns-clause-crashed c = crashed-lawful

pub returns-clause-no_other_file : goal.returns-clause-no_other_file
returns-clause-no_other_file c = crash-leaves-no-other

pub returns-clause-nothing_to_look_at : goal.returns-clause-nothing_to_look_at
returns-clause-nothing_to_look_at c = nothing-to-look-at

pub returns-clause-nothing_later : goal.returns-clause-nothing_later
returns-clause-nothing_later c = nothing-to-look-at-later

pub returns-clause-looks : goal.returns-clause-looks
returns-clause-looks c = looks-may-fail

pub returns-clause-refused : goal.returns-clause-refused
returns-clause-refused c = refused-not-polled

pub returns-clause-poll_ends : goal.returns-clause-poll_ends
returns-clause-poll_ends c = poll-ends-looking

pub returns-clause-gate_ends : goal.returns-clause-gate_ends
returns-clause-gate_ends c = gate-ends-looking

pub returns-clause-disk_failure : goal.returns-clause-disk_failure
returns-clause-disk_failure c = disk-failure-ends

pub returns-clause-not_opened : goal.returns-clause-not_opened
returns-clause-not_opened c = no-run-where-not-opened
