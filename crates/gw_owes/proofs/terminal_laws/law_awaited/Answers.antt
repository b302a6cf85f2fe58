-- Proof of the contract of `law_awaited`.
use Rattle.gw_owes.proofs.HandlingLemmas.{acks-take-one, each-message-counts, late-is-unclear, most-is-unclear}
use Rattle.gw_owes.proofs.ServedCountLemmas.{each-served-counts, each-next-counts}
use Rattle.gw_owes.proofs.TerminalLemmas.{link-counts-anew}
use Rattle.gw_owes.proofs.terminal_laws.law_awaited.Goals as goal

pub returns-clause-takes : goal.returns-clause-takes
returns-clause-takes c = acks-take-one

pub returns-clause-counts : goal.returns-clause-counts
returns-clause-counts c = each-message-counts

pub returns-clause-served : goal.returns-clause-served
returns-clause-served c = each-served-counts

pub returns-clause-next : goal.returns-clause-next
returns-clause-next c = each-next-counts

pub returns-clause-anew : goal.returns-clause-anew
returns-clause-anew c = link-counts-anew

pub returns-clause-late : goal.returns-clause-late
returns-clause-late c = late-is-unclear

pub returns-clause-most : goal.returns-clause-most
returns-clause-most c = most-is-unclear
