-- Proof of the contract of `law_terminal_examples`.
use Rattle.rule_examples.proofs.RowExampleLemmas.{unlinked-lawful, unframed-lawful, poll-before-unframed-cut, row-items-come-first, link-registers, link-is-due-again, failed-send-cuts-link, lost-is-due, lost-end-of-day-replies, lost-transaction-keeps-asker, both-are-items, sendings-are-spelled, gone-till-is-forgotten, sorted-waits}
use Rattle.rule_examples.proofs.law_terminal_examples.Goals as goal

pub returns-clause-unlinked : goal.returns-clause-unlinked
returns-clause-unlinked c = unlinked-lawful

pub returns-clause-registers : goal.returns-clause-registers
returns-clause-registers c = link-registers

pub returns-clause-due_again : goal.returns-clause-due_again
returns-clause-due_again c = link-is-due-again

pub returns-clause-failed_send : goal.returns-clause-failed_send
returns-clause-failed_send c = failed-send-cuts-link

pub returns-clause-lost : goal.returns-clause-lost
returns-clause-lost c = lost-is-due

pub returns-clause-heard : goal.returns-clause-heard
returns-clause-heard c = both-are-items

pub returns-clause-unframed : goal.returns-clause-unframed
returns-clause-unframed c = unframed-lawful

pub returns-clause-poll_before_cut : goal.returns-clause-poll_before_cut
returns-clause-poll_before_cut c = poll-before-unframed-cut

pub returns-clause-row_items : goal.returns-clause-row_items
returns-clause-row_items c = row-items-come-first

pub returns-clause-lost_end_of_day : goal.returns-clause-lost_end_of_day
returns-clause-lost_end_of_day c = lost-end-of-day-replies

pub returns-clause-lost_transaction : goal.returns-clause-lost_transaction
returns-clause-lost_transaction c = lost-transaction-keeps-asker

pub returns-clause-sendings : goal.returns-clause-sendings
returns-clause-sendings c = sendings-are-spelled

pub returns-clause-gone_till : goal.returns-clause-gone_till
returns-clause-gone_till c = gone-till-is-forgotten

pub returns-clause-waits : goal.returns-clause-waits
returns-clause-waits c = sorted-waits
