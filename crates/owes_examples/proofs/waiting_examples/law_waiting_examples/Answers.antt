-- Proof of the contract of `law_waiting_examples`.
use Rattle.owes_examples.proofs.WaitingExampleLemmas.{busy-queue, deadline-order, logout-meanwhile, other-aborts, queue, queue-room, refused-in-one-go, reversal-refused, till-takes-its-own, WaitingFacts, deadline-passed, waiting-again, waiting-premises}
use Rattle.owes_examples.proofs.waiting_examples.law_waiting_examples.Goals as goal

facts : (c : goal.After-law_examples) → WaitingFacts
facts c = record {
  joins = c.law_waits.ensures.joins;
  again = c.law_waits.ensures.again;
  status = c.law_waits.ensures.status;
  taken = c.law_waits.ensures.taken;
  first = c.law_waits.ensures.first;
  keeps = c.law_waits.ensures.keeps;
  ready = c.law_examples.ensures.payment;
}

pub returns-clause-queue : goal.returns-clause-queue
returns-clause-queue c = queue

pub returns-clause-busy : goal.returns-clause-busy
returns-clause-busy c = busy-queue

pub returns-clause-room : goal.returns-clause-room
returns-clause-room c = queue-room

pub returns-clause-again : goal.returns-clause-again
returns-clause-again c = waiting-again

pub returns-clause-too_long : goal.returns-clause-too_long
returns-clause-too_long c = deadline-passed

pub returns-clause-deadlines : goal.returns-clause-deadlines
returns-clause-deadlines c = deadline-order

pub returns-clause-gone : goal.returns-clause-gone
returns-clause-gone c = till-takes-its-own

pub returns-clause-other_till : goal.returns-clause-other_till
returns-clause-other_till c = other-aborts

pub returns-clause-logout : goal.returns-clause-logout
returns-clause-logout c = logout-meanwhile

pub returns-clause-one_go : goal.returns-clause-one_go
returns-clause-one_go c = refused-in-one-go

pub returns-clause-reversals : goal.returns-clause-reversals
returns-clause-reversals c = reversal-refused

pub returns-clause-premises : goal.returns-clause-premises
returns-clause-premises c = waiting-premises (facts c)
