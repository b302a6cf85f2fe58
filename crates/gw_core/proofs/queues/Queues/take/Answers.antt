-- Proof of the contract of `take`.
use Rattle.std.proofs.Common.{eqb, not, refl}
use Rattle.gw_links.specs.Waiting.{Waiting}
use Rattle.gw_owes.specs.Waits.{waiting_with}
use Rattle.gw_core.specs.Queues.{waits_in}
use Rattle.gw_core.proofs.QueueLemmas.{left-apart, none-under-key, nothing-taken, taken-with}
use Rattle.gw_core.proofs.queues.Queues.take.Goals as goal

pub invariant_of-self : goal.invariant_of-self
invariant_of-self c = rw c.take.ensures.removed (left-apart (λ (w : Waiting). not (eqb w.id c.in-Some.id)) c.self.inside.lines c.self.invariant)

pub returns-in-None : goal.returns-in-None
returns-in-None c =
    rw (← c.self.view_is)
    (nothing-taken (waiting_with c.args.key.now (waits_in c.self.inside.lines)) (waits_in c.self.inside.lines) (none-under-key c.self.inside.lines c.self.invariant c.args.key.now (λ id. c.in-None.ensures.none id refl)))

pub returns-in-Some : goal.returns-in-Some
returns-in-Some c =
    rw (← c.self.view_is, c.take.ensures.removed) (taken-with c.self.inside.lines c.self.invariant c.in-Some.id c.take.result c.args.key.now c.take.ensures.item c.in-Some.ensures.found)
