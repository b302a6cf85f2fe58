-- Proof of the contract of `law_settling`.
use Rattle.gw_ledger.proofs.SettlingLemmas.{entries_stay, open_stays, other_keys_stay, other_totals_stay, payments_are_settled, settled_is_found, totals_begin_anew}
use Rattle.gw_ledger.proofs.laws.law_settling.Goals as goal

pub returns-clause-found : goal.returns-clause-found
returns-clause-found c = settled_is_found

pub returns-clause-fresh : goal.returns-clause-fresh
returns-clause-fresh c = totals_begin_anew

pub returns-clause-others : goal.returns-clause-others
returns-clause-others c = other_totals_stay

pub returns-clause-keys : goal.returns-clause-keys
returns-clause-keys c = other_keys_stay

pub returns-clause-entries : goal.returns-clause-entries
returns-clause-entries c = entries_stay

pub returns-clause-opened : goal.returns-clause-opened
returns-clause-opened c = open_stays

pub returns-clause-settled : goal.returns-clause-settled
returns-clause-settled c = payments_are_settled
