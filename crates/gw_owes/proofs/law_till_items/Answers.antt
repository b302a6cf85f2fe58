-- Proof of the contract of `law_till_items`.
use Rattle.gw_owes.proofs.FrameLemmas.{till-bytes-give, finds-bad}
use Rattle.gw_owes.proofs.law_till_items.Goals as goal

pub returns-clause-items : goal.returns-clause-items
returns-clause-items c = till-bytes-give

pub returns-clause-bad : goal.returns-clause-bad
returns-clause-bad c = finds-bad
