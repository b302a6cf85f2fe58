-- Proof of the contract of `law_one_reading`.
use Rattle.sale_msg.proofs.UniqueLemmas.{message_one, fault_one, message_no_fault}
use Rattle.sale_msg.proofs.laws.law_one_reading.Goals as goal

pub returns : goal.returns
returns c = record { message = message_one; fault = fault_one; not_both = message_no_fault }
