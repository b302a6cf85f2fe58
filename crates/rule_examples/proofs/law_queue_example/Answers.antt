-- Proof of the contract of `law_queue_example`.
use Rattle.rule_examples.proofs.QueueExampleLemmas.{example-queues}
use Rattle.rule_examples.proofs.law_queue_example.Goals as goal

pub returns : goal.returns
returns c = record { example = example-queues }
