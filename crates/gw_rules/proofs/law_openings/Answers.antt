-- Proof of the contract of `law_openings`.
use Rattle.gw_rules.proofs.LedgerRuleLemmas.{each-file-folds, each-image-folds, refused-at-limits, refused-only-with-fewer-slots}
use Rattle.gw_rules.proofs.RecordOrderLemmas.{lawful-refused-only-with-fewer-slots}
use Rattle.gw_rules.proofs.law_openings.Goals as goal

pub returns-clause-folds : goal.returns-clause-folds
returns-clause-folds c = each-file-folds

pub returns-clause-images : goal.returns-clause-images
returns-clause-images c = each-image-folds

pub returns-clause-refused : goal.returns-clause-refused
returns-clause-refused c = refused-only-with-fewer-slots

pub returns-clause-lawful : goal.returns-clause-lawful
returns-clause-lawful c = lawful-refused-only-with-fewer-slots (record { new = c.law_records.ensures.new; rows = c.law_records.ensures.rows; cuts = c.law_records.ensures.cuts; links = c.law_records.ensures.links; items = c.law_records.ensures.items; gone = c.law_records.ensures.gone; queues = c.law_records.ensures.queues; overdue = c.law_records.ensures.overdue; next = c.law_waits.ensures.order; waits = c.law_waits.ensures.keeps })

pub returns-clause-example : goal.returns-clause-example
returns-clause-example c = refused-at-limits
