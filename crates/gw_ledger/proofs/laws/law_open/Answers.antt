-- Proof of the contract of `law_open`.
use Rattle.gw_ledger.proofs.FoldLemmas.{open_are_counted}
use Rattle.gw_ledger.proofs.OpenLemmas.{open_slot_is}
use Rattle.gw_ledger.proofs.RecordLemmas.{folded_beside}
use Rattle.gw_ledger.proofs.laws.law_open.Goals as goal

pub returns-clause-count : goal.returns-clause-count
returns-clause-count c records folded = open_are_counted records (folded_beside records folded)

pub returns-clause-slot : goal.returns-clause-slot
returns-clause-slot c records folded = open_slot_is records (folded_beside records folded)
