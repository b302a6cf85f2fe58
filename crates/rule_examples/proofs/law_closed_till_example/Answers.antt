-- Proof of the contract of `law_closed_till_example`.
use Rattle.rule_examples.proofs.TillLogExampleLemmas.{closed-till-lawful}
use Rattle.rule_examples.proofs.law_closed_till_example.Goals as goal

pub returns : goal.returns
returns c = record { closed_example = closed-till-lawful }
