-- Proof of the contract of `law_malformed_terminal_bytes`.
use Rattle.gw_rules.proofs.MalformedLemmas.{each-apdu-changes-no-books, each-terminal-item-leaves-others, each-too-long-changes-no-books}
use Rattle.gw_rules.proofs.malformed_laws.law_malformed_terminal_bytes.Goals as goal

pub returns-clause-each_item : goal.returns-clause-each_item
returns-clause-each_item c = each-terminal-item-leaves-others

pub returns-clause-outside : goal.returns-clause-outside
returns-clause-outside c = each-apdu-changes-no-books

pub returns-clause-too_long : goal.returns-clause-too_long
returns-clause-too_long c = each-too-long-changes-no-books
