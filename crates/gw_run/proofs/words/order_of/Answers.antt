-- Proof of the contract of `order_of`.
use Rattle.gw_run.proofs.words.order_of.Goals as goal

pub returns : goal.returns
returns c = rw (c.deref.ensures.value, c.in_ok-list.ensures) at c.order_of_slices.ensures
