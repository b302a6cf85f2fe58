-- Proof of the contract of `law_acts`.
use Rattle.gw_rules.proofs.ActLawLemmas.{longer-is-read, nothing-before-sync, one-call-is-due, one-call-is-owed, opening-is-due, owed-bytes-are-sent}
use Rattle.gw_rules.proofs.ActLemmas.{turns-of-acts}
use Rattle.gw_rules.proofs.law_acts.Goals as goal

pub returns-clause-turns : goal.returns-clause-turns
returns-clause-turns c = turns-of-acts

pub returns-clause-one_owed : goal.returns-clause-one_owed
returns-clause-one_owed c = one-call-is-owed

pub returns-clause-one_call : goal.returns-clause-one_call
returns-clause-one_call c = one-call-is-due

pub returns-clause-opening : goal.returns-clause-opening
returns-clause-opening c = opening-is-due

pub returns-clause-sync_first : goal.returns-clause-sync_first
returns-clause-sync_first c = nothing-before-sync

pub returns-clause-longer : goal.returns-clause-longer
returns-clause-longer c = longer-is-read

pub returns-clause-owed_bytes : goal.returns-clause-owed_bytes
returns-clause-owed_bytes c = owed-bytes-are-sent
