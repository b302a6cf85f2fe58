-- Proof of the contract of `law_queues`.
use Rattle.gw_rules.proofs.OutsideQueueLemmas.{outside-leaves-queues}
use Rattle.gw_rules.proofs.OverdueLemmas.{none-is-overdue}
use Rattle.gw_rules.proofs.QueueDueLemmas.{each-move-looks}
use Rattle.gw_rules.proofs.QueueFifoLemmas.{queue-first-in-first-out}
use Rattle.gw_rules.proofs.QueueListLemmas.{queue-due-in-order}
use Rattle.gw_rules.proofs.QueueMoveLemmas.{each-move-changes}
use Rattle.gw_rules.proofs.ReadyQueueLemmas.{ready-has-no-queue}
use Rattle.gw_rules.proofs.RecordOrderLemmas.{each-log-has-waits}
use Rattle.gw_rules.proofs.TillLawLemmas.{waiting-is-there}
use Rattle.gw_rules.proofs.queue_laws.law_queues.Goals as goal

pub returns-clause-order : goal.returns-clause-order
returns-clause-order c = each-log-has-waits (record { new = c.law_records.ensures.new; rows = c.law_records.ensures.rows; cuts = c.law_records.ensures.cuts; links = c.law_records.ensures.links; items = c.law_records.ensures.items; gone = c.law_records.ensures.gone; queues = c.law_records.ensures.queues; overdue = c.law_records.ensures.overdue; next = c.law_waits.ensures.order; waits = c.law_waits.ensures.keeps })

pub returns-clause-there : goal.returns-clause-there
returns-clause-there c = waiting-is-there

pub returns-clause-changes : goal.returns-clause-changes
returns-clause-changes c = each-move-changes (each-log-has-waits (record { new = c.law_records.ensures.new; rows = c.law_records.ensures.rows; cuts = c.law_records.ensures.cuts; links = c.law_records.ensures.links; items = c.law_records.ensures.items; gone = c.law_records.ensures.gone; queues = c.law_records.ensures.queues; overdue = c.law_records.ensures.overdue; next = c.law_waits.ensures.order; waits = c.law_waits.ensures.keeps }))

pub returns-clause-first : goal.returns-clause-first
returns-clause-first c = queue-first-in-first-out (each-move-changes (each-log-has-waits (record { new = c.law_records.ensures.new; rows = c.law_records.ensures.rows; cuts = c.law_records.ensures.cuts; links = c.law_records.ensures.links; items = c.law_records.ensures.items; gone = c.law_records.ensures.gone; queues = c.law_records.ensures.queues; overdue = c.law_records.ensures.overdue; next = c.law_waits.ensures.order; waits = c.law_waits.ensures.keeps })))

pub returns-clause-due_order : goal.returns-clause-due_order
returns-clause-due_order c = queue-due-in-order

pub returns-clause-looks : goal.returns-clause-looks
returns-clause-looks c = each-move-looks

pub returns-clause-ready : goal.returns-clause-ready
returns-clause-ready c = ready-has-no-queue (each-log-has-waits (record { new = c.law_records.ensures.new; rows = c.law_records.ensures.rows; cuts = c.law_records.ensures.cuts; links = c.law_records.ensures.links; items = c.law_records.ensures.items; gone = c.law_records.ensures.gone; queues = c.law_records.ensures.queues; overdue = c.law_records.ensures.overdue; next = c.law_waits.ensures.order; waits = c.law_waits.ensures.keeps }))

pub returns-clause-overdue : goal.returns-clause-overdue
returns-clause-overdue c = none-is-overdue (each-log-has-waits (record { new = c.law_records.ensures.new; rows = c.law_records.ensures.rows; cuts = c.law_records.ensures.cuts; links = c.law_records.ensures.links; items = c.law_records.ensures.items; gone = c.law_records.ensures.gone; queues = c.law_records.ensures.queues; overdue = c.law_records.ensures.overdue; next = c.law_waits.ensures.order; waits = c.law_waits.ensures.keeps }))

pub returns-clause-outside : goal.returns-clause-outside
returns-clause-outside c = outside-leaves-queues
