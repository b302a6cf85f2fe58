-- Proof of the contract of `law_kept_files`.
use Rattle.gw_rules.proofs.KeptExampleLemmas.{flight-is-kept, unsynced-keeps-none}
use Rattle.gw_rules.proofs.KeptLawLemmas.{each-image-has-kept, each-keeps-file, each-keeps-journal-files, each-round-has-journal, each-start-opens-journal, full-only-with-fewer-slots, long-only-with-fewer-slots, never-bad, never-truncated, none-kept-is-lost}
use Rattle.gw_rules.proofs.RecordOrderLemmas.{each-lawful-has-kept, each-lawful-keeps-journal}
use Rattle.gw_rules.proofs.law_kept_files.Goals as goal

pub returns-clause-file : goal.returns-clause-file
returns-clause-file c = each-keeps-file

pub returns-clause-images : goal.returns-clause-images
returns-clause-images c = each-image-has-kept

pub returns-clause-truncated : goal.returns-clause-truncated
returns-clause-truncated c = never-truncated

pub returns-clause-bad : goal.returns-clause-bad
returns-clause-bad c = never-bad

pub returns-clause-long : goal.returns-clause-long
returns-clause-long c = long-only-with-fewer-slots

pub returns-clause-round : goal.returns-clause-round
returns-clause-round c = each-round-has-journal

pub returns-clause-left : goal.returns-clause-left
returns-clause-left c = each-keeps-journal-files

pub returns-clause-lawful : goal.returns-clause-lawful
returns-clause-lawful c = each-lawful-keeps-journal (record { new = c.law_records.ensures.new; rows = c.law_records.ensures.rows; cuts = c.law_records.ensures.cuts; links = c.law_records.ensures.links; items = c.law_records.ensures.items; gone = c.law_records.ensures.gone; queues = c.law_records.ensures.queues; overdue = c.law_records.ensures.overdue; next = c.law_waits.ensures.order; waits = c.law_waits.ensures.keeps })

pub returns-clause-lawful_kept : goal.returns-clause-lawful_kept
returns-clause-lawful_kept c = each-lawful-has-kept (record { new = c.law_records.ensures.new; rows = c.law_records.ensures.rows; cuts = c.law_records.ensures.cuts; links = c.law_records.ensures.links; items = c.law_records.ensures.items; gone = c.law_records.ensures.gone; queues = c.law_records.ensures.queues; overdue = c.law_records.ensures.overdue; next = c.law_waits.ensures.order; waits = c.law_waits.ensures.keeps })

pub returns-clause-example : goal.returns-clause-example
returns-clause-example c = flight-is-kept

pub returns-clause-never_lost : goal.returns-clause-never_lost
returns-clause-never_lost c = none-kept-is-lost

pub returns-clause-full : goal.returns-clause-full
returns-clause-full c = full-only-with-fewer-slots

pub returns-clause-unsynced : goal.returns-clause-unsynced
returns-clause-unsynced c = unsynced-keeps-none

pub returns-clause-starts : goal.returns-clause-starts
returns-clause-starts c = each-start-opens-journal
