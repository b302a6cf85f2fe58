-- Proof of the contract of `law_malformed_till_bytes`.
use Rattle.gw_rules.proofs.MalformedLemmas.{each-crowded-leaves-others, each-frame-changes-no-books, each-message-changes-no-books, each-of-gone-till-leaves-others, each-till-item-leaves-others}
use Rattle.gw_rules.proofs.malformed_laws.law_malformed_till_bytes.Goals as goal

pub returns-clause-each_item : goal.returns-clause-each_item
returns-clause-each_item c = each-till-item-leaves-others

pub returns-clause-gone : goal.returns-clause-gone
returns-clause-gone c = each-of-gone-till-leaves-others

pub returns-clause-crowded : goal.returns-clause-crowded
returns-clause-crowded c = each-crowded-leaves-others

pub returns-clause-message : goal.returns-clause-message
returns-clause-message c = each-message-changes-no-books

pub returns-clause-frame : goal.returns-clause-frame
returns-clause-frame c = each-frame-changes-no-books
