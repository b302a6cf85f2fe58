-- Proof of the contract of `law_links`.
use Rattle.gw_rules.proofs.LinkLawLemmas.{uses-links, linked-registers}
use Rattle.gw_rules.proofs.law_links.Goals as goal

pub returns-clause-used : goal.returns-clause-used
returns-clause-used c = uses-links

pub returns-clause-registers : goal.returns-clause-registers
returns-clause-registers c = linked-registers
