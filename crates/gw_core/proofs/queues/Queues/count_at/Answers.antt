-- Proof of the contract of `count_at`.
use Rattle.std.proofs.Common.{◌∙◌}
use Rattle.gw_core.proofs.QueueLemmas.{queued-length}
use Rattle.gw_core.proofs.queues.Queues.count_at.Goals as goal

pub returns : goal.returns
returns c = rw (← c.self.view_is) (c.count.ensures ∙ queued-length c.self.inside.lines c.args.pt)
