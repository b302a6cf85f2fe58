-- Proof of the contract of `law_stamp`.
use Rattle.gw_base.proofs.MomentLemmas.{stamp_of-only, stamp_of-plain}
use Rattle.gw_base.proofs.moment.law_stamp.Goals as goal

pub returns-clause-only : goal.returns-clause-only
returns-clause-only c = stamp_of-only

pub returns-clause-plain : goal.returns-clause-plain
returns-clause-plain c = stamp_of-plain
