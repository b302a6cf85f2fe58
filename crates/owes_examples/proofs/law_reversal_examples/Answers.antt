-- Proof of the contract of `law_reversal_examples`.
use Rattle.owes_examples.proofs.ReversalExampleLemmas.{reversal-begins, reversal-ends, reversal-refused, reversal-repeated, reversal-reported, reversal-unserved}
use Rattle.owes_examples.proofs.law_reversal_examples.Goals as goal

pub returns-clause-begins : goal.returns-clause-begins
returns-clause-begins c = reversal-begins

pub returns-clause-ends : goal.returns-clause-ends
returns-clause-ends c = reversal-ends

pub returns-clause-again : goal.returns-clause-again
returns-clause-again c = reversal-repeated

pub returns-clause-refused : goal.returns-clause-refused
returns-clause-refused c = reversal-refused

pub returns-clause-unserved : goal.returns-clause-unserved
returns-clause-unserved c = reversal-unserved

pub returns-clause-reported : goal.returns-clause-reported
returns-clause-reported c = reversal-reported
