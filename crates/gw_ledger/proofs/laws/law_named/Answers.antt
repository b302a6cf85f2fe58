-- Proof of the contract of `law_named`.
use Rattle.gw_ledger.proofs.NamedLemmas.{named_is, named_is_entry}
use Rattle.gw_ledger.proofs.laws.law_named.Goals as goal

pub returns-clause-one : goal.returns-clause-one
returns-clause-one c = named_is

pub returns-clause-entry : goal.returns-clause-entry
returns-clause-entry c = named_is_entry
