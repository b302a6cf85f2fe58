-- Proof of the contract of `law_repeats`.
use Rattle.gw_owes.proofs.AskedLemmas.{repeat-begins-nothing, asked-sends-none, asked-begins, key-of-day-not-allowed, only-asked-begins}
use Rattle.gw_owes.proofs.payment_laws.law_repeats.Goals as goal

pub returns-clause-repeat : goal.returns-clause-repeat
returns-clause-repeat c = repeat-begins-nothing

pub returns-clause-sends : goal.returns-clause-sends
returns-clause-sends c = asked-sends-none

pub returns-clause-begins : goal.returns-clause-begins
returns-clause-begins c = asked-begins

pub returns-clause-others : goal.returns-clause-others
returns-clause-others c = only-asked-begins

pub returns-clause-of_day : goal.returns-clause-of_day
returns-clause-of_day c = key-of-day-not-allowed
