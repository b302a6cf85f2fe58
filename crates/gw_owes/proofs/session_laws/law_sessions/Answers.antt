-- Proof of the contract of `law_sessions`.
use Rattle.gw_owes.proofs.SessionLemmas.{each-session-is-replied, each-served-session-succeeds, each-other-pair-stays}
use Rattle.gw_owes.proofs.SessionReplyLemmas.{logged-out-fails, only-logged-out-fails}
use Rattle.gw_owes.proofs.SessionStepLemmas.{each-other-item-keeps, each-step-follows-last, each-step-keeps-few, link-keeps}
use Rattle.gw_owes.proofs.session_laws.law_sessions.Goals as goal

pub returns-clause-replied : goal.returns-clause-replied
returns-clause-replied c = each-session-is-replied

pub returns-clause-succeeds : goal.returns-clause-succeeds
returns-clause-succeeds c = each-served-session-succeeds

pub returns-clause-apart : goal.returns-clause-apart
returns-clause-apart c = each-other-pair-stays

pub returns-clause-fails : goal.returns-clause-fails
returns-clause-fails c = logged-out-fails

pub returns-clause-only : goal.returns-clause-only
returns-clause-only c = only-logged-out-fails

pub returns-clause-last : goal.returns-clause-last
returns-clause-last c = each-step-follows-last

pub returns-clause-few : goal.returns-clause-few
returns-clause-few c = each-step-keeps-few

pub returns-clause-unchanged : goal.returns-clause-unchanged
returns-clause-unchanged c = each-other-item-keeps

pub returns-clause-links : goal.returns-clause-links
returns-clause-links c = link-keeps
