-- Proof of the contract of `law_slots`.
use Rattle.jrn_log.proofs.DecodeLemmas.{decoded_are_slots}
use Rattle.jrn_log.proofs.SlotLemmas.{one_slots, each_slots}
use Rattle.jrn_log.proofs.law_slots.Goals as goal

pub returns-clause-each : goal.returns-clause-each
returns-clause-each c = each_slots

pub returns-clause-one : goal.returns-clause-one
returns-clause-one c = one_slots

pub returns-clause-decoded : goal.returns-clause-decoded
returns-clause-decoded c = decoded_are_slots
