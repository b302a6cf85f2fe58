-- Proof of the contract of `law_due_is_tried`.
use Rattle.gw_rules.proofs.DueLemmas.{due-is-tried, tried-once-rested}
use Rattle.gw_rules.proofs.law_due_is_tried.Goals as goal

pub returns-clause-tried : goal.returns-clause-tried
returns-clause-tried c = due-is-tried

pub returns-clause-rested : goal.returns-clause-rested
returns-clause-rested c = tried-once-rested
