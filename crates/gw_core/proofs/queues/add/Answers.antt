-- Proof of the contract of `add`.
use Rattle.gw_core.proofs.QueueLemmas.{joined-apart, waits-pushed}
use Rattle.gw_core.proofs.queues.add.Goals as goal

pub insert-requires-clause-seat : goal.insert-requires-clause-seat
insert-requires-clause-seat c = c.requires.seat.within

pub returns-in-Ok-clause-apart : goal.returns-in-Ok-clause-apart
returns-in-Ok-clause-apart c =
    rw c.in-Ok.ensures.added (joined-apart c.args.lines.now _ c.args.item c.requires.apart c.in-Ok.ensures.fresh c.requires.unknown c.requires.seat c.requires.terminal c.requires.few)

pub returns-in-Ok-clause-joined : goal.returns-in-Ok-clause-joined
returns-in-Ok-clause-joined c = rw c.in-Ok.ensures.added (waits-pushed c.args.lines.now _)
