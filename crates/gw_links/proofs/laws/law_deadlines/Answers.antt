-- Proof of the contract of `law_deadlines`.
use Rattle.gw_links.proofs.DeadlineLemmas.{by_deadline-sorted, by_deadline-stable, by_deadline-same}
use Rattle.gw_links.proofs.laws.law_deadlines.Goals as goal

pub returns-clause-sorted : goal.returns-clause-sorted
returns-clause-sorted c = by_deadline-sorted

pub returns-clause-accepted : goal.returns-clause-accepted
returns-clause-accepted c = by_deadline-stable

pub returns-clause-same : goal.returns-clause-same
returns-clause-same c = by_deadline-same
