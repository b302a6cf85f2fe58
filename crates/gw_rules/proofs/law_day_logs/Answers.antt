-- Proof of the contract of `law_day_logs`.
use Rattle.gw_rules.proofs.DayLogLemmas.{day-kept, cut-day-fails, lost-day-fails}
use Rattle.gw_rules.proofs.law_day_logs.Goals as goal

pub returns-clause-kept : goal.returns-clause-kept
returns-clause-kept c = day-kept c.law_transcript.ensures.rows
    (record { new = c.law_records.ensures.new; rows = c.law_records.ensures.rows; cuts = c.law_records.ensures.cuts; links = c.law_records.ensures.links; items = c.law_records.ensures.items; gone = c.law_records.ensures.gone; queues = c.law_records.ensures.queues; overdue = c.law_records.ensures.overdue; next = c.law_waits.ensures.order; waits = c.law_waits.ensures.keeps })

pub returns-clause-cut : goal.returns-clause-cut
returns-clause-cut c = cut-day-fails

pub returns-clause-lost : goal.returns-clause-lost
returns-clause-lost c = lost-day-fails
