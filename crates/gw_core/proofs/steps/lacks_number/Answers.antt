-- Proof of the contract of `lacks_number`.
use Rattle.gw_core.proofs.steps.lacks_number.Goals as goal

pub returns-then-asks_transaction : goal.returns-then-asks_transaction
returns-then-asks_transaction c = λ number. rw (← c.if-asks_transaction.ensures) (c.is_used_up.ensures number)
