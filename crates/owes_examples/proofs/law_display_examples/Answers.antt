-- Proof of the contract of `law_display_examples`.
use Rattle.owes_examples.proofs.DisplayExampleLemmas.{display-ends, display-premises, display-results, shown-lines}
use Rattle.owes_examples.proofs.law_display_examples.Goals as goal

pub returns-clause-results : goal.returns-clause-results
returns-clause-results c = display-results

pub returns-clause-lines : goal.returns-clause-lines
returns-clause-lines c = shown-lines

pub returns-clause-ends : goal.returns-clause-ends
returns-clause-ends c = display-ends

pub returns-clause-premises : goal.returns-clause-premises
returns-clause-premises c = display-premises
