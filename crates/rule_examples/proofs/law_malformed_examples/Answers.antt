-- Proof of the contract of `law_malformed_examples`.
use Rattle.rule_examples.proofs.MalformedExampleLemmas.{apdu-is-harmless, frame-is-harmless, message-is-harmless, too-long-is-harmless}
use Rattle.rule_examples.proofs.law_malformed_examples.Goals as goal

pub returns-clause-message : goal.returns-clause-message
returns-clause-message c = message-is-harmless

pub returns-clause-frame : goal.returns-clause-frame
returns-clause-frame c = frame-is-harmless

pub returns-clause-outside : goal.returns-clause-outside
returns-clause-outside c = apdu-is-harmless

pub returns-clause-too_long : goal.returns-clause-too_long
returns-clause-too_long c = too-long-is-harmless
