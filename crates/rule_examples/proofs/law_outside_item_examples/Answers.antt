-- Proof of the contract of `law_outside_item_examples`.
use Rattle.rule_examples.proofs.OutsideItemLemmas.{apdu-leaves-others, crowded-is-cut, frame-leaves-other, gone-till-leaves-all, message-leaves-all, too-long-leaves-others}
use Rattle.rule_examples.proofs.law_outside_item_examples.Goals as goal

pub returns-clause-message : goal.returns-clause-message
returns-clause-message c = message-leaves-all

pub returns-clause-frame : goal.returns-clause-frame
returns-clause-frame c = frame-leaves-other

pub returns-clause-outside : goal.returns-clause-outside
returns-clause-outside c = apdu-leaves-others

pub returns-clause-too_long : goal.returns-clause-too_long
returns-clause-too_long c = too-long-leaves-others

pub returns-clause-crowded : goal.returns-clause-crowded
returns-clause-crowded c = crowded-is-cut

pub returns-clause-gone : goal.returns-clause-gone
returns-clause-gone c = gone-till-leaves-all
