-- Proof of the contract of `law_next`.
use Rattle.gw_ledger.proofs.OpenLemmas.{others_leave}
use Rattle.gw_ledger.proofs.HistoryLemmas.{history-push}
use Rattle.gw_ledger.proofs.laws.law_next.Goals as goal

pub returns-clause-newest : goal.returns-clause-newest
returns-clause-newest c = history-push

pub returns-clause-others : goal.returns-clause-others
returns-clause-others c = others_leave
