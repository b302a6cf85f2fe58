-- Proof of the contract of `law_journal_files`.
use Rattle.gw_rules.proofs.JournalLemmas.{opening-leaves-journal-files, keeping-leaves-journals, keeping-has-journal, kept-file-is-journal, opened-has-journal, opening-has-journal}
use Rattle.gw_rules.proofs.KeptLawLemmas.{handed-in-keeps-files, keeping-keeps-files, opening-keeps-files}
use Rattle.gw_rules.proofs.RecordOrderLemmas.{each-has-journal-files}
use Rattle.gw_rules.proofs.law_journal_files.Goals as goal

pub returns-clause-lawful : goal.returns-clause-lawful
returns-clause-lawful c = each-has-journal-files (record { new = c.law_records.ensures.new; rows = c.law_records.ensures.rows; cuts = c.law_records.ensures.cuts; links = c.law_records.ensures.links; items = c.law_records.ensures.items; gone = c.law_records.ensures.gone; queues = c.law_records.ensures.queues; overdue = c.law_records.ensures.overdue; next = c.law_waits.ensures.order; waits = c.law_waits.ensures.keeps })

pub returns-clause-keeping : goal.returns-clause-keeping
returns-clause-keeping c = keeping-leaves-journals

pub returns-clause-kept : goal.returns-clause-kept
returns-clause-kept c = kept-file-is-journal

pub returns-clause-opening : goal.returns-clause-opening
returns-clause-opening c = opening-leaves-journal-files

pub returns-clause-has : goal.returns-clause-has
returns-clause-has c = keeping-has-journal

pub returns-clause-opened_example : goal.returns-clause-opened_example
returns-clause-opened_example c = opened-has-journal

pub returns-clause-opened : goal.returns-clause-opened
returns-clause-opened c = opening-has-journal

pub returns-clause-handed_in : goal.returns-clause-handed_in
returns-clause-handed_in c = handed-in-keeps-files

pub returns-clause-opening_on : goal.returns-clause-opening_on
returns-clause-opening_on c = opening-keeps-files

pub returns-clause-keeping_on : goal.returns-clause-keeping_on
returns-clause-keeping_on c = keeping-keeps-files
