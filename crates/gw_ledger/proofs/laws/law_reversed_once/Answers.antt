-- Proof of the contract of `law_reversed_once`.
use Rattle.gw_ledger.proofs.RecordLemmas.{folded_beside}
use Rattle.gw_ledger.proofs.ReversalLemmas.{original_is_payment, others_are_declined, reversed_is, reversed_once}
use Rattle.gw_ledger.proofs.laws.law_reversed_once.Goals as goal

pub returns-clause-once : goal.returns-clause-once
returns-clause-once c records folded payment = reversed_once records (folded_beside records folded) payment

pub returns-clause-reversed : goal.returns-clause-reversed
returns-clause-reversed c records folded payment = reversed_is records (folded_beside records folded) payment

pub returns-clause-others : goal.returns-clause-others
returns-clause-others c records folded payment = others_are_declined records (folded_beside records folded) payment

pub returns-clause-original : goal.returns-clause-original
returns-clause-original c records folded payment = original_is_payment records (folded_beside records folded) payment
