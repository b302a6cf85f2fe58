-- Proof of the contract of `law_askers`.
use Rattle.gw_owes.proofs.AskerLemmas.{each-gone-forgotten, each-item-keeps-till, each-link-keeps-till, each-link-sends-its, each-send-to-its, each-served-keeps-till, example-till, gone-leaves-rest}
use Rattle.gw_owes.proofs.asker_laws.law_askers.Goals as goal

pub returns-clause-kept : goal.returns-clause-kept
returns-clause-kept c = each-item-keeps-till

pub returns-clause-served : goal.returns-clause-served
returns-clause-served c = each-served-keeps-till

pub returns-clause-links : goal.returns-clause-links
returns-clause-links c = each-link-keeps-till

pub returns-clause-gone : goal.returns-clause-gone
returns-clause-gone c = each-gone-forgotten

pub returns-clause-gone_item : goal.returns-clause-gone_item
returns-clause-gone_item c = gone-leaves-rest

pub returns-clause-sends : goal.returns-clause-sends
returns-clause-sends c = each-send-to-its

pub returns-clause-link_sends : goal.returns-clause-link_sends
returns-clause-link_sends c = each-link-sends-its

pub returns-clause-example : goal.returns-clause-example
returns-clause-example c = example-till
