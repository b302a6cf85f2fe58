-- Proof of the contract of `law_reversal_premises`.
use Rattle.owes_examples.proofs.ReversalPremiseLemmas.{causes, dialogues-may-stop, irreversible, reversal-accepted, reversal-means, reversal-waits}
use Rattle.owes_examples.proofs.law_reversal_premises.Goals as goal

pub returns-clause-accepted : goal.returns-clause-accepted
returns-clause-accepted c = reversal-accepted

pub returns-clause-irreversible : goal.returns-clause-irreversible
returns-clause-irreversible c = irreversible

pub returns-clause-ends : goal.returns-clause-ends
returns-clause-ends c = reversal-means

pub returns-clause-causes : goal.returns-clause-causes
returns-clause-causes c = causes

pub returns-clause-stops : goal.returns-clause-stops
returns-clause-stops c = dialogues-may-stop

pub returns-clause-waits : goal.returns-clause-waits
returns-clause-waits c = reversal-waits
