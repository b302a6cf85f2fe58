-- Proof of the contract of `is_first_of`.
use Rattle.gw_core.proofs.QueueLemmas.{first-till}
use Rattle.gw_core.proofs.queues.is_first_of.Goals as goal

pub returns-in-Some : goal.returns-in-Some
returns-in-Some c = first-till c.args.lines.now c.requires c.args.till c.args.seat c.in-Some.id c.get.result.now c.in-Some.ensures.first c.get.ensures
